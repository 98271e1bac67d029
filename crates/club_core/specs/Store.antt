-- Defines the promises of a store that keeps a club's rows. A crash state is a club that the store
-- may contain after a crash instead of the current club.
use Rattle.std.specs.Prelude.{◌≡◌, ℕ, ◌≤◌, false, List, [], ◌∷◌, Option, Some, None, Result, IfOk, MatchResult}
use Rattle.club_core.specs.{After.after, Club.{Club, IsSound, key_named, member_named, facility_named, booking_under}, declared.change.Change.Change}
use Rattle.club_core.specs.declared.change.Change.TheVariants.{AddCredit, TakeCredit, ReplaceNumbers, InsertKey, MarkRevoked, ReplaceRoot, MarkOpen}
use Rattle.club_core.specs.declared.{change.Change.TheVariants.{ReplaceQuota, InsertBooking, MarkCancelled}, store.StoreFault.StoreFault}
use Rattle.club_rows.specs.declared.{booking.Booking.Booking, facility.Facility.Facility, key.Key.Key, member.Member.Member}

-- The club has a member with this name.
abbrev pub HasMember : List ℕ → Club → Type 0
HasMember name club = (row : Member) × (member_named name club ≡ Some row)

-- The club has a member with this name, and the member's `credited` is at least `points`.
abbrev pub HasCredited : List ℕ → ℕ → Club → Type 0
HasCredited name points club = (row : Member) × (member_named name club ≡ Some row) × (points ≤ row.credited)

-- The club has a facility with this name.
abbrev pub HasFacility : List ℕ → Club → Type 0
HasFacility name club = (row : Facility) × (facility_named name club ≡ Some row)

-- The club has a key with this name.
abbrev pub HasKey : List ℕ → Club → Type 0
HasKey name club = (row : Key) × (key_named name club ≡ Some row)

-- The club has a key with the name `key`, and this key belongs to `member`.
abbrev pub IsOwnedBy : List ℕ → List ℕ → Club → Type 0
IsOwnedBy member key club = (row : Key) × (key_named key club ≡ Some row) × (row.member ≡ member)

-- The club has a key with the name `key`, and the current root of this key is `root`.
abbrev pub HasRoot : List ℕ → List ℕ → Club → Type 0
HasRoot key root club = (row : Key) × (key_named key club ≡ Some row) × (row.root ≡ root)

-- The club contains this booking with the same values, and the booking isn't cancelled.
abbrev pub IsToCancel : Booking → Club → Type 0
IsToCancel booking club = (booking_under booking.key booking.number club.bookings ≡ Some booking) × (booking.cancelled ≡ false)

-- The change matches the club's rows:
--
-- - The member, key or facility that the change edits exists.
-- - If the change opens a slot, the slot's facility exists.
-- - A debit is at most the member's `credited`.
-- - A new key has no older root.
-- - If the change rotates a key, `former` is the key's current root.
-- - If the change inserts or cancels a booking, the booking's key belongs to the member in the
--   change.
-- - If the change cancels a booking, the club contains the booking with the same values, and the
--   booking isn't cancelled.
abbrev pub IsTrueOf : Change → Club → Type 0
IsTrueOf (AddCredit name points) club = HasMember name club
IsTrueOf (TakeCredit name points) club = HasCredited name points club
IsTrueOf (ReplaceQuota name quota) club = HasMember name club
IsTrueOf (ReplaceNumbers name places price opens shuts) club = HasFacility name club
IsTrueOf (InsertKey key) club = key.older ≡ None
IsTrueOf (MarkRevoked name) club = HasKey name club
IsTrueOf (ReplaceRoot key former root until) club = HasRoot key former club
IsTrueOf (MarkOpen slot) club = HasFacility slot.facility club
IsTrueOf (InsertBooking booking member) club = IsOwnedBy member booking.key club
IsTrueOf (MarkCancelled booking member refund) club = IsToCancel booking club × IsOwnedBy member booking.key club
IsTrueOf change club = Unit {0}

-- The change matches the club's rows, and the changed club satisfies the invariants.
pub record FitsClub (change : Change) (club : Club) : Type 0 where
  pub carries : IsTrueOf change club
  pub sound : IsSound (after change club)

-- A call applies a change, or fails. If the call succeeds, the change fits the club, the store
-- contains the changed club, and the store has no crash states. If the call fails, the store's club
-- doesn't change. If the change doesn't fit the club, the crash states don't change either. If the
-- call fails but the change fits, the changed club becomes a crash state.
abbrev pub Changes : {S E : Type 0} → (S → Club → List Club → Type 0) → Change → S → S → Result (Unit {0}) E → Type 0
Changes Represents change old new result =
    (club : Club) (others : List Club) → Represents old club others
    → MatchResult result (λ _. FitsClub change club × Represents new (after change club) [])
    (λ _. (IsSound (after change club) → Represents new club (after change club ∷ others)) × (¬ FitsClub change club → Represents new club others))

-- The call changes neither the store's club nor the store's crash states.
abbrev pub KeepsClub : {S : Type 0} → (S → Club → List Club → Type 0) → S → S → Type 0
KeepsClub Represents old new = (club : Club) (others : List Club) → Represents old club others → Represents new club others

-- If the call succeeds, the call's result matches the current club.
abbrev pub Returns : {S A E : Type 0} → (S → Club → List Club → Type 0) → S → Result A E → (Club → A → Type 0) → Type 0
Returns Represents old answer IsReturned = (club : Club) (others : List Club) → Represents old club others → IfOk answer (IsReturned club)

-- The ghosts of a store, which each implementation of `ClubStore` defines.
pub record StoreGhosts (S : Type 0) : Type 1 where
  -- The disk has been clean until now.
  pub is_clean : S → Type 0
  -- Relates a store to its current club and to its list of crash states. After a crash, the store
  -- contains the current club or one of the crash states.
  pub represents : S → Club → List Club → Type 0
  -- A call failed with this fault. The two states are the store's states before and after the call.
  -- The option contains the change that the call tried to apply, or is `None` if the call tried to
  -- read.
  pub fails : Option Change → S → StoreFault → S → Type 0

-- A successful read doesn't affect later failures. If a later call can fail in the state after the
-- read, the call can fail in the same way in the state before the read. `wish` is the change that
-- the later call tries to apply, or `None` if the later call reads.
abbrev pub IsRead : {S : Type 0} → StoreGhosts S → S → S → Type 0
IsRead {S} ghosts old new =
    (wish : Option Change) (fault : StoreFault) (later : S) → ghosts.fails wish new fault later → ghosts.fails wish old fault later

-- The promises of a read if the disk is clean after the read:
--
-- - The disk was clean before the read.
-- - The read changes neither the store's club nor the store's crash states.
-- - If the read succeeds, its result matches the club, and the read doesn't affect later failures.
-- - If the read fails, the failure satisfies `fails`.
pub record ReadsStore {S A : Type 0} (ghosts : StoreGhosts S) (old new : S) (result : Result A StoreFault) (IsReturned : Club → A → Type 0) : Type 0 where
  pub was_clean : ghosts.is_clean new → ghosts.is_clean old
  pub kept : ghosts.is_clean new → KeepsClub ghosts.represents old new
  pub returned : ghosts.is_clean new → Returns ghosts.represents old result IsReturned
  pub failed : ghosts.is_clean new → MatchResult result (λ _. IsRead ghosts old new) (λ fault. ghosts.fails None old fault new)
