-- Defines the points in a run: charges, refunds, credits and debits. The points are computed only
-- from the run's events and replies. The laws state that points are neither created nor lost, and
-- that no slot is overbooked. Two laws are about the points that a key has spent and the points
-- that its member has used.
use Rattle.std.specs.{List.list_any, Prelude.{ℕ, ◌+◌, ◌==◌, ◌&&◌, not, Bool, List, [], ◌∷◌, ◌++◌, filter, flat_map, sum_by, if◌then◌else◌, ◌≡◌, ◌-◌, ◌≤◌}}
use Rattle.std.specs.{Prelude.{Contains, Some, All, MatchOption}, Str.bytes_eq}
use Rattle.club_core.specs.{Basis.account_named, Club.{Club, IsSound, bookings_of, cost_of, spent_under, empty_club, member_named, facility_named, balance_of}}
use Rattle.club_core.specs.{Club.taken_in, Run.{Event, Commanded, EventReply, ToMember, ToOffice, IsEvent, replies_of, club_after}}
use Rattle.club_core.specs.declared.{account.MemberAccount.MemberAccount, command.Command.TheVariants.{Credit, Debit, AddKey, CancelBooking}}
use Rattle.club_core.specs.declared.{command.OfficeAnswer.TheVariants.{Done, NewKey}, reply.Reply.TheVariants.{Booked, Cancelled}}
use Rattle.club_rows.specs.declared.{facility.Facility.Facility, key.Key.Key, member.Member.Member}
use Rattle.club_values.specs.declared.slot.Slot.{Slot}

-- The points that a reply states for a booking, with the booking's key and number.
pub record Entry : Type 0 where
  pub key : List ℕ
  pub number : ℕ
  pub points : ℕ

abbrev pub is_entry_of : List ℕ → ℕ → Entry → Bool
is_entry_of key number entry = bytes_eq entry.key key && entry.number == number

-- The first entry for each key and number.
abbrev pub firsts : List Entry → List Entry
firsts [] = []
firsts (entry ∷ entries) = entry ∷ filter (λ (other : Entry). not (is_entry_of entry.key entry.number other)) (firsts entries)

-- The charge in the reply to a served booking.
abbrev pub charge_of_reply : EventReply → List Entry
charge_of_reply (ToMember (Booked key number charge left)) = record { key = key; number = number; points = charge } ∷ []
charge_of_reply reply = []

abbrev pub charges_of_replies : List EventReply → List Entry
charges_of_replies replies = flat_map charge_of_reply replies

-- The charge in the first entry with this key and number, or 0 if no entry matches.
abbrev pub charge_told : List ℕ → ℕ → List Entry → ℕ
charge_told key number [] = 0
charge_told key number (entry ∷ entries) = if is_entry_of key number entry then entry.points else charge_told key number entries

-- The refund in the reply to a served cancellation.
abbrev pub refund_of_reply : EventReply → List Entry
refund_of_reply (ToMember (Cancelled key number refund)) = record { key = key; number = number; points = refund } ∷ []
refund_of_reply reply = []

abbrev pub refunds_of_replies : List EventReply → List Entry
refunds_of_replies replies = flat_map refund_of_reply replies

-- The refund of a booking that an event cancels. For a cancellation by the office, the refund is
-- the booking's first charge in `charges`. For a cancellation by the member, the reply states the
-- refund.
abbrev pub refund_given : List Entry → Event → EventReply → List Entry
refund_given charges (Commanded (CancelBooking key number)) (ToOffice Done) =
    record { key = key; number = number; points = charge_told key number charges } ∷ []
refund_given charges event reply = refund_of_reply reply

abbrev pub refunds_by : List Entry → List Event → List EventReply → List Entry
refunds_by charges (event ∷ events) (reply ∷ replies) = refund_given charges event reply ++ refunds_by charges events replies
refunds_by charges events replies = []

-- The refunds of bookings in a run, in order.
abbrev pub refunds_given : List Event → List EventReply → List Entry
refunds_given events replies = refunds_by (charges_of_replies replies) events replies

-- A list with the name of the key that an event added for a member. The list is empty if the event
-- added no such key.
abbrev pub key_given : List ℕ → Event → EventReply → List (List ℕ)
key_given member (Commanded (AddKey name owner root)) (ToOffice (NewKey returned seed)) = if bytes_eq owner member then name ∷ [] else []
key_given member event reply = []

abbrev pub keys_given : List ℕ → List Event → List EventReply → List (List ℕ)
keys_given member (event ∷ events) (reply ∷ replies) = key_given member event reply ++ keys_given member events replies
keys_given member events replies = []

-- The points that an event credited to a member.
abbrev pub credit_accepted : List ℕ → Event → EventReply → ℕ
credit_accepted member (Commanded (Credit name points)) (ToOffice Done) = if bytes_eq name member then points else 0
credit_accepted member event reply = 0

abbrev pub credits_accepted : List ℕ → List Event → List EventReply → ℕ
credits_accepted member (event ∷ events) (reply ∷ replies) = credit_accepted member event reply + credits_accepted member events replies
credits_accepted member events replies = 0

-- The points that an event debited from a member. Every event except a debit gives 0.
abbrev pub debit_accepted : List ℕ → Event → EventReply → ℕ
debit_accepted member (Commanded (Debit name points)) (ToOffice Done) = if bytes_eq name member then points else 0
debit_accepted member event reply = 0

abbrev pub debits_accepted : List ℕ → List Event → List EventReply → ℕ
debits_accepted member (event ∷ events) (reply ∷ replies) = debit_accepted member event reply + debits_accepted member events replies
debits_accepted member events replies = 0

-- The total points of the entries whose key is in `keys`. For each key and number, only the first
-- entry counts.
abbrev pub total_under : List (List ℕ) → List Entry → ℕ
total_under keys entries =
    sum_by (λ (entry : Entry). entry.points)
    (filter (λ (entry : Entry). list_any (λ (key : List ℕ). bytes_eq key entry.key) keys) (firsts entries))

-- No key has spent more points than its member has used. The points that a member has used are the
-- cost of the bookings under all the member's keys.
abbrev pub SpendsWithinItsMember : Type 0
SpendsWithinItsMember =
    (club : Club) (key : Key) → Contains club.keys key → spent_under key.name club.bookings ≤ sum_by cost_of (bookings_of key.member club)

-- In a sound club, the points that a member has used are the credited points minus the balance.
abbrev pub AccountsShowWhatIsUsed : Type 0
AccountsShowWhatIsUsed =
    (club : Club) (name : List ℕ) (account : MemberAccount) → IsSound club → account_named name club ≡ Some account
    → account.member.credited - account.balance ≡ sum_by cost_of (bookings_of name club)

-- The member's balance plus debits plus charges equals the member's credits plus refunds. For each
-- booking, only the first charge and the first refund count. If the office is the first to cancel a
-- booking, the booking's refund is its whole charge. The member's bookings never cost more than the
-- points credited to the member, so the balance is never below 0.
pub record IsConserved (club : Club) (events : List Event) (replies : List EventReply) (member : Member) : Type 0 where
  pub balance_adds_up :
      balance_of member (bookings_of member.name club) + debits_accepted member.name events replies
      + total_under (keys_given member.name events replies) (charges_of_replies replies)
      ≡ credits_accepted member.name events replies + total_under (keys_given member.name events replies) (refunds_given events replies)
  pub coverage : sum_by cost_of (bookings_of member.name club) ≤ member.credited

abbrev pub ConservesPoints : Type 0
ConservesPoints =
    (events : List Event) (name : List ℕ) (member : Member) → All IsEvent events
    → member_named name (club_after empty_club events) ≡ Some member
    → IsConserved (club_after empty_club events) events (replies_of empty_club events) member

-- The event is neither a debit nor a cancellation by the office.
abbrev pub IsNoCorrection : Event → Type 0
IsNoCorrection (Commanded (Debit name points)) = ⊥
IsNoCorrection (Commanded (CancelBooking key number)) = ⊥
IsNoCorrection event = Unit {0}

-- If the office neither debits nor cancels, the member's balance plus charges equals the member's
-- credits plus the refunds in the replies. For each booking, only the first charge and the first
-- refund count.
abbrev pub ConservesWithoutCorrections : Type 0
ConservesWithoutCorrections =
    (events : List Event) (name : List ℕ) (member : Member) → All IsEvent events → All IsNoCorrection events
    → member_named name (club_after empty_club events) ≡ Some member
    → let replies = replies_of empty_club events in
    let keys = keys_given member.name events replies in
    balance_of member (bookings_of member.name (club_after empty_club events)) + total_under keys (charges_of_replies replies)
    ≡ credits_accepted member.name events replies + total_under keys (refunds_of_replies replies)

-- A slot has no more persons than its facility has places. A slot of an unknown facility has no
-- persons.
abbrev pub HasPlaces : Slot → Club → Type 0
HasPlaces slot club =
    MatchOption (facility_named slot.facility club) (taken_in slot club.bookings ≡ 0) (λ (facility : Facility). taken_in slot club.bookings ≤ facility.places)

abbrev pub SoundClubsHavePlaces : Type 0
SoundClubsHavePlaces = (club : Club) (slot : Slot) → IsSound club → HasPlaces slot club

abbrev pub NeverOverbooks : Type 0
NeverOverbooks = (events : List Event) (slot : Slot) → All IsEvent events → HasPlaces slot (club_after empty_club events)
