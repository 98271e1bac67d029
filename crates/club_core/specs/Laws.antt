-- Defines when the desk accepts a pass, the fields of a view that the rules need for an answer, and
-- laws about clubs, requests and day sheets. The caveats need only the recorded booking, the
-- facility and the points that the key has spent. Each kind of request needs different fields of
-- the view.
use Rattle.club_core.specs.declared.request.Request.TheVariants as asked
use Rattle.std.specs.Prelude.{◌≡◌, ℕ, ◌&&◌, not, Bool, false, None, is_some, if◌then◌else◌, ◌≢◌, All, Option, Some, Ok, ◌↔◌, ◌⊎◌, ◌≤◌, IsTrue, List, Contains}
use Rattle.std.specs.Prelude.{option_map}
use Rattle.club_core.specs.{Answer.{ask_of, answer_by_basis}, Basis.{Basis, basis_of, view_of, key_of, view_in}, Club.{Club, key_named, IsSound, bookings_of}}
use Rattle.club_core.specs.{Club.{booking_under, most_taken_in, spent_under, taken_in}, Request.{Pass, IsSignedUnder, Words, is_signed_under}, Sheet.IsSheet}
use Rattle.club_core.specs.{Verdict.verdict_of, declared.{refusal.Refusal.Refusal, reply.Reply.{Reply, TheVariants.Refused}, request.Request.Request}}
use Rattle.club_core.specs.declared.{verdict.Verdict.Verdict, view.View.View}
use Rattle.club_rows.specs.declared.{booking.Booking.Booking, key.{Key.Key, KeyRow.KeyRow}}
use Rattle.club_values.specs.declared.slot.Slot.{Slot}
use Rattle.pass_caveats.specs.{Caveat.Permits, Spending.after_spending, declared.{ask.Ask.Ask, caveat.Caveat.Caveat}}

-- A view that has only the key's row and the name of the key's member. The view has no booking and
-- no facility, and all its numbers are 0.
abbrev pub bare_view : KeyRow → View
bare_view key = record {
  key = key;
  spent = 0;
  member = record { name = key.member; credited = 0; quota = 0 };
  balance = 0;
  open_count = 0;
  facility = None;
  taken = 0;
  closed = false;
  booking = None;
}

-- A view that has only the key's row, the recorded booking and the facility. Caveats need nothing
-- else from the view, except the points that the key has spent.
abbrev pub seen_by_caveats : View → View
seen_by_caveats view = record (bare_view view.key) { facility = view.facility; booking = view.booking }

-- Whether the booking number is unused and the facility is known.
abbrev pub books_anew : View → Bool
books_anew view = not (is_some view.booking) && is_some view.facility

-- The fields of a view that the rules need to decide a request after the desk has accepted the
-- pass:
--
-- - A request to view a slot needs the slot's state.
-- - A new booking needs everything except the points that the key has spent.
-- - A repeated booking, a cancellation or a booking at an unknown facility needs no sums.
-- - A request to view the account needs the member's row and sums, and the points that the key has
--   spent.
abbrev pub seen_by_decision : Request → View → View
seen_by_decision (asked.View slot) view = record (seen_by_caveats view) { taken = view.taken; closed = view.closed }
seen_by_decision (asked.Book slot number guests) view =
    if books_anew view then record view { spent = 0 } else seen_by_caveats view
seen_by_decision (asked.Cancel slot number) view = seen_by_caveats view
seen_by_decision asked.Account view = record (seen_by_caveats view) {
  spent = view.spent;
  member = view.member;
  balance = view.balance;
  open_count = view.open_count;
}

-- With `seen_by_caveats`, the caveats test the same values as with the complete view, except that
-- the points spent are 0. With `seen_by_decision`, the decision is the same as with the complete
-- view.
pub record RestsOnItsParts (view : View) (request : Request) (moment : ℕ) : Type 0 where
  pub caveats : ask_of (seen_by_caveats view) request moment ≡ after_spending 0 (ask_of view request moment)
  pub decision : verdict_of (seen_by_decision request view) request moment ≡ verdict_of view request moment

abbrev pub LooksNoFurther : Type 0
LooksNoFurther = (view : View) (request : Request) (moment : ℕ) → RestsOnItsParts view request moment

-- The reply isn't a refusal.
abbrev pub IsServed : Reply → Type 0
IsServed reply = (refusal : Refusal) → reply ≢ Refused refusal

-- The desk understands the caveat, and the caveat allows the request.
abbrev pub IsAllowedBy : Ask → Option Caveat → Type 0
IsAllowedBy ask None = ⊥
IsAllowedBy ask (Some caveat) = Permits caveat ask

-- The pass is accepted for the request. A root of the key signs the pass, and that root is valid
-- when the request comes. The key isn't revoked, and each caveat of the pass allows the request.
pub record IsAcceptedPass (pass : Pass) (request : Request) (moment : ℕ) (basis : Basis) : Type 0 where
  pub signed : IsSignedUnder pass basis.key moment
  pub not_revoked : basis.key.revoked ≡ false
  pub permission : All (IsAllowedBy (ask_of (view_of basis request moment) request moment)) pass.caveats

-- The request has a decoded pass that names a key of the club, and the desk accepts this pass for
-- the request.
pub record IsAcceptedIn (club : Club) (words : Words) (moment : ℕ) : Type 0 where
  pub pass : Pass
  pub basis : Basis
  pub read : words.pass ≡ Ok pass
  pub known : basis_of club words ≡ Some basis
  pub acceptance : IsAcceptedPass pass words.request moment basis

-- The request has a decoded pass that allows the request. The pass names a key of the club, and the
-- key isn't revoked. A root of the key signs the pass, and that root is valid when the request
-- comes. Each caveat of the pass allows the request.
pub record IsEntitled (club : Club) (words : Words) (moment : ℕ) : Type 0 where
  pub pass : Pass
  pub basis : Basis
  pub read : words.pass ≡ Ok pass
  pub key_name : pass.key ≡ Some basis.key.name
  pub row : key_named basis.key.name club ≡ Some basis.key
  pub known : basis_of club words ≡ Some basis
  pub not_revoked : basis.key.revoked ≡ false
  pub signed : IsSignedUnder pass basis.key moment
  pub permission : All (IsAllowedBy (ask_of (view_of basis words.request moment) words.request moment)) pass.caveats

-- A refusal changes nothing.
pub record KeepsWhereRefused (verdict : Verdict) : Type 0 where
  pub kept : (refusal : Refusal) → verdict.reply ≡ Refused refusal → verdict.change ≡ None

abbrev pub RefusalsChangeNothing : Type 0
RefusalsChangeNothing = (words : Words) (moment : ℕ) (basis : Option Basis) → KeepsWhereRefused (answer_by_basis words moment basis)

-- A club has at most one day sheet for each day.
abbrev pub OneSheet : Type 0
OneSheet = (club : Club) (day : ℕ) (text other : List ℕ) → IsSheet club day text → IsSheet club day other → text ≡ other

-- For the key that a pass names, `view_in` returns the view that the rules use to decide the
-- request.
abbrev pub ViewsDecide : Type 0
ViewsDecide = (club : Club) (words : Words) (moment : ℕ) (name : List ℕ) → key_of words.pass ≡ Some name →
    view_in club name words.request moment ≡ option_map (λ (basis : Basis). view_of basis words.request moment) (basis_of club words)

-- `is_signed_under` returns true if and only if a root of the key signs the pass and is valid at
-- the given moment.
abbrev pub TestsTheSignature : Type 0
TestsTheSignature = (pass : Pass) (key : Key) (moment : ℕ) →
    IsTrue (is_signed_under pass key moment) ↔ IsSignedUnder pass key moment

-- The bookings of a key's member are enough to compute the points that the key has spent. The same
-- bookings are enough to find the key's booking with a given number.
pub record HasOwnBookings (club : Club) (key : Key) : Type 0 where
  pub spent : spent_under key.name (bookings_of key.member club) ≡ spent_under key.name club.bookings
  pub booking : (number : ℕ) → booking_under key.name number (bookings_of key.member club) ≡ booking_under key.name number club.bookings

abbrev pub OwnBookings : Type 0
OwnBookings = (club : Club) (key : Key) → Contains club.keys key → HasOwnBookings club key

-- No slot of the facility has more persons than `most`. If `most` isn't 0, some slot of the
-- facility has exactly `most` persons.
pub record IsMostTaken (facility : List ℕ) (bookings : List Booking) (most : ℕ) : Type 0 where
  pub bound : (slot : Slot) → slot.facility ≡ facility → taken_in slot bookings ≤ most
  pub reached : (most ≡ 0) ⊎ ((slot : Slot) × (slot.facility ≡ facility) × (taken_in slot bookings ≡ most))

abbrev pub MostTaken : Type 0
MostTaken = (facility : List ℕ) (bookings : List Booking) → IsMostTaken facility bookings (most_taken_in facility bookings)

-- A club that satisfies the invariants has a day sheet for each day.
abbrev pub SomeSheet : Type 0
SomeSheet = (club : Club) → IsSound club → (day : ℕ) → (text : List ℕ) × IsSheet club day text
