-- Defines the ask that an object of plain numbers represents. An ask has those values of a request
-- that caveats test.
use Rattle.std.specs.{Int.is_in_range, Prelude.{◌≡◌, ℕ, ◌==◌, if◌then◌else◌, take, List, Option, None, Some, ◌≤◌, MatchOption, option_and_then, option_map}}
use Rattle.club_values.specs.{Moment.{first_day, last_day, first_moment, last_moment, guests_limit}, Name.{IsName, max_name_len}, Number.Reads}
use Rattle.club_values.specs.declared.action.Action.{Action}
use Rattle.club_values.specs.declared.{action.Action.TheVariants.{View, Book, Cancel, Account}, kind.Kind.{Kind, TheVariants.{Court, Boat, Room}}}
use Rattle.club_values.specs.declared.slot.Slot.{Slot}
use Rattle.pass_calls.specs.{Code.{ok_code, bad_ask_code, not_understood_code, denied_code}, declared.ask.AskObject.AskObject}
use Rattle.pass_caveats.specs.{Fault.IsFirstFault, declared.{ask.Ask.Ask, fault.CaveatFault.{CaveatFault, TheVariants.{NotUnderstood, Denied}}}}

-- The action with this number, or `None` if no action has this number.
abbrev pub action_of : ℕ → Option Action
action_of n = if n == 1 then Some View else if n == 2 then Some Book else if n == 3 then Some Cancel else if n == 4 then Some Account else None

-- The kind with this number, or `None` if the number is invalid. The number 0 means that the kind
-- is unknown.
abbrev pub kind_of : ℕ → Option (Option Kind)
kind_of n = if n == 0 then Some None else if n == 1 then Some (Some Court) else if n == 2 then Some (Some Boat) else if n == 3 then Some (Some Room) else None

-- The number, or `None` if the number is less than `low` or greater than `high`.
abbrev pub number_within : ℕ → ℕ → ℕ → Option ℕ
number_within low high n = if is_in_range low high n then Some n else None

-- The name of the slot's facility, or `None` if the bytes aren't a name.
abbrev pub IsFacilityNamed : AskObject → Option (List ℕ) → Type 0
IsFacilityNamed object facility =
    Reads (λ name. (object.facility_len ≤ max_name_len) × IsName name × (name ≡ take object.facility_len object.facility)) facility

abbrev pub slot_in_parts : AskObject → Option (List ℕ) → Option (Option Slot)
slot_in_parts object facility =
    option_and_then (λ name.
    option_and_then (λ day.
    option_map (λ hour. Some (record { facility = name; day = day; hour = hour }))
    (number_within 0 23 object.hour))
    (number_within first_day last_day object.day))
    facility

-- The slot at this facility. `Some None` means that the ask has no slot. `None` means that a value
-- is out of range.
abbrev pub slot_within : AskObject → Option (List ℕ) → Option (Option Slot)
slot_within object facility = if object.facility_len == 0 then Some None else slot_in_parts object facility

-- The ask of an object whose facility has this name, or `None` if a value is out of range.
abbrev pub ask_at : AskObject → Option (List ℕ) → Option Ask
ask_at object facility =
    option_and_then (λ action.
    option_and_then (λ slot.
    option_and_then (λ kind.
    option_and_then (λ guests.
    option_map (λ moment. record {
      action = action;
      slot = slot;
      kind = kind;
      guests = guests;
      moment = moment;
      owed = object.owed;
      spent = object.spent;
    })
    (number_within first_moment last_moment object.moment))
    (number_within 0 guests_limit object.guests))
    (kind_of object.kind))
    (slot_within object facility))
    (action_of object.action)

-- The ask that an object represents, or `None` if a value is out of range.
pub record IsAskOf (object : AskObject) (ask : Option Ask) : Type 0 where
  pub facility : Option (List ℕ)
  pub named : IsFacilityNamed object facility
  pub values : ask ≡ ask_at object facility

-- The code of a fault, or the code of success if there is no fault.
abbrev pub verdict_code : Option CaveatFault → ℕ
verdict_code None = ok_code
verdict_code (Some (NotUnderstood n)) = not_understood_code
verdict_code (Some (Denied n)) = denied_code

abbrev pub verdict_number : Option CaveatFault → ℕ
verdict_number None = 0
verdict_number (Some (NotUnderstood n)) = n
verdict_number (Some (Denied n)) = n

-- The code and the number describe the first fault in a list of caveats.
pub record IsFaultReported (caveats : List (List ℕ)) (ask : Ask) (code number : ℕ) : Type 0 where
  pub fault : Option CaveatFault
  pub first : IsFirstFault caveats ask fault
  pub fault_code : code ≡ verdict_code fault
  pub fault_number : number ≡ verdict_number fault

-- The code and the number describe the first fault when the caveats are tested against the object's
-- ask. If the object represents no ask, the code is `bad_ask_code` and the number is 0.
pub record Answers (caveats : List (List ℕ)) (object : AskObject) (code number : ℕ) : Type 0 where
  pub ask : Option Ask
  pub is_ask : IsAskOf object ask
  pub verdict : MatchOption ask ((code ≡ bad_ask_code) × (number ≡ 0)) (λ held. IsFaultReported caveats held code number)
