-- This file defines the refusal for a missing value, and a property of the desk's routes. The
-- router of the library `matchit` refuses a target without a route.
use Rattle.std.specs.Prelude.{◌≡◌, ◌⊎◌, Option, None, ℕ, List, Some, IsSome}
use Rattle.club_core.specs.declared.refusal.Refusal.{Refusal, TheVariants.{BadRequest, Unavailable}}
use Rattle.http_request.specs.{computed.Path.place_of, declared.path.Place.Place}
use Rattle.matchit.specs.{Rows.RowsOf, Seek.first}

-- The refusal is `BadRequest` or `Unavailable`. The refusal is `BadRequest` only if the value is
-- missing. The refusal is `Unavailable` only if finding the value needs memory.
abbrev pub Refuses : {A : Type 0} → Type 0 → Option A → Refusal → Type 0
Refuses Needs found refusal = ((refusal ≡ Unavailable) × Needs) ⊎ ((refusal ≡ BadRequest) × (found ≡ None))

-- Every place of the desk has a route.
abbrev pub KnowsPlaces : {K : Type 0} → RowsOf K → Type 0
KnowsPlaces rows =
    (target : List ℕ) (place : Place) → place_of target ≡ Some place → IsSome (first rows target)
