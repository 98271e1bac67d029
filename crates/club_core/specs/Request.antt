-- Defines the action, guests, slot and number of a request, and the decoded pass that the club's
-- rules test.
use Rattle.club_values.specs.declared.action.Action.TheVariants as actions
use Rattle.club_core.specs.declared.request.Request.TheVariants as asked
use Rattle.std.specs.{Option.option_map_or, Prelude.{ℕ, Option, Some, None, ◌≡◌, ◌⊎◌, ◌||◌, Bool, false, IsTrue, List, Result}}
use Rattle.club_core.specs.declared.{pass_fault.PassFault.PassFault, request.Request.Request}
use Rattle.club_rows.specs.{Rows.older_root_at, declared.key.Key.Key}
use Rattle.club_values.specs.declared.{action.Action.Action, slot.Slot.Slot}
use Rattle.pass_caveats.specs.declared.caveat.Caveat.{Caveat}

abbrev pub request_action : Request → Action
request_action (asked.View slot) = actions.View
request_action (asked.Book slot number guests) = actions.Book
request_action (asked.Cancel slot number) = actions.Cancel
request_action asked.Account = actions.Account

abbrev pub request_guests : Request → ℕ
request_guests (asked.View slot) = 0
request_guests (asked.Book slot number guests) = guests
request_guests (asked.Cancel slot number) = 0
request_guests asked.Account = 0

-- The slot that the request names. A request for the account names no slot.
abbrev pub request_slot : Request → Option Slot
request_slot (asked.View slot) = Some slot
request_slot (asked.Book slot number guests) = Some slot
request_slot (asked.Cancel slot number) = Some slot
request_slot asked.Account = None

abbrev pub request_number : Request → Option ℕ
request_number (asked.View slot) = None
request_number (asked.Book slot number guests) = Some number
request_number (asked.Cancel slot number) = Some number
request_number asked.Account = None

-- A decoded pass. `key` is the key's name in the pass's identifier, or `None` if the identifier
-- names no key. A caveat is `None` if the desk doesn't understand the caveat. `is_signed` tests
-- whether a root signs the pass.
pub record Pass : Type 0 where
  pub key : Option (List ℕ)
  pub caveats : List (Option Caveat)
  pub is_signed : List ℕ → Bool

-- A request with its decoded pass, or with the fault of the pass's text.
pub record Words : Type 0 where
  pub pass : Result Pass PassFault
  pub request : Request

-- The root is valid at the given moment. The key's current root is always valid. The key's older
-- root is valid until it expires.
abbrev pub IsGoodRoot : Key → ℕ → List ℕ → Type 0
IsGoodRoot key moment root = (root ≡ key.root) ⊎ (older_root_at key.older moment ≡ Some root)

-- A root of the key signs the pass, and this root is valid at the given moment.
pub record IsSignedUnder (pass : Pass) (key : Key) (moment : ℕ) : Type 0 where
  pub root : List ℕ
  pub good : IsGoodRoot key moment root
  pub signed : IsTrue (pass.is_signed root)

-- Whether the key's current root signs the pass, or the key's older root signs the pass and hasn't
-- expired at the given moment.
abbrev pub is_signed_under : Pass → Key → ℕ → Bool
is_signed_under pass key moment =
    pass.is_signed key.root || option_map_or pass.is_signed (older_root_at key.older moment) false
