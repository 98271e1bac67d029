-- Defines the faults of a store's calls, the store's ghosts, and the limits of the rows that
-- `Store::view` returns.
use Rattle.std.specs.Prelude.{List, Option, Some, None, IfSome}
use Rattle.club_core.specs.{Club.Club, Store.{FitsClub, StoreGhosts}, declared.{change.Change.Change, store.StoreFault.StoreFault, view.KeyView.KeyView}}
use Rattle.club_rows.specs.Rows.{IsMember, IsFacility, IsKey, IsBooking}
use Rattle.club_tables.specs.{Answers.IsReadFault, ChangeStatements.statements_of, ReadsAndChanges.{IsChangeFault, IsRunFault, represents_in, sound_in}}
use Rattle.sqlite.specs.{Held.{Held, state}, State.HasCleanDisk, Store.Ghosts}

-- A change failed with this fault. If the change fits the club, the fault comes from an error of
-- the database, not from a statement that wrote no row.
pub record FailsToChange {S : Type 0} (g : Ghosts S) (change : Change) (old : Held S) (fault : StoreFault) (new : Held S) : Type 0 where
  pub cause : IsChangeFault g change old new fault
  pub error_if_fits : (club : Club) (others : List Club) → represents_in g old club others → FitsClub change club
      → IsRunFault g 0 (statements_of change) old new fault

-- A call failed with this fault. For `None`, the call was a read. For `Some change`, the call tried
-- to apply this change. `old` and `new` are the store before and after the call.
abbrev pub Fails : {S : Type 0} → Ghosts S → Option Change → Held S → StoreFault → Held S → Type 0
Fails g None old fault new = IsReadFault g old new fault
Fails g (Some change) old fault new = FailsToChange g change old fault new

-- The ghosts of a store over a connection.
abbrev pub over_connection : {S : Type 0} → Ghosts S → StoreGhosts (Held S)
over_connection g = record { is_clean = λ held. HasCleanDisk (state g held); represents = sound_in g; fails = Fails g }

-- The values of the key, its member, the facility and the booking are within their limits.
pub record HasLimits (seen : KeyView) : Type 0 where
  pub key : IsKey seen.key
  pub member : IsMember seen.view.member
  pub facility : IfSome seen.view.facility IsFacility
  pub booking : IfSome seen.view.booking IsBooking
