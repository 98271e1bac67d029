-- This file defines laws about the decoding of requests.
use Rattle.std.specs.Prelude.{◌≡◌, ◌↔◌, ℕ, List, ◌++◌, Option, Result}
use Rattle.club_core.specs.declared.refusal.Refusal.{Refusal}
use Rattle.http_request.specs.{Frame.IsWhole, Path.IsPlaceOf, Words.{DecodedRequest, IsRequestReading, HoldsBody}, computed.Path.place_of}
use Rattle.http_request.specs.declared.path.Place.{Place}

-- A target names at most one place, and `place_of` computes that place.
abbrev pub ReadsPlaces : Type 0
ReadsPlaces = (target : List ℕ) (place : Option Place) → IsPlaceOf target place ↔ (place_of target ≡ place)

-- A list of bytes decodes in at most one way.
abbrev pub OneReading : Type 0
OneReading =
    (bytes : List ℕ) (a b : Result DecodedRequest Refusal) → IsRequestReading bytes a → IsRequestReading bytes b → a ≡ b

-- A complete request decodes in the same way, whatever bytes follow the request.
abbrev pub WholeKeepsItsReading : Type 0
WholeKeepsItsReading =
    (bytes more : List ℕ) (answer : Result DecodedRequest Refusal)
    → IsWhole bytes → IsRequestReading bytes answer → IsRequestReading (bytes ++ more) answer

-- If bytes begin with a PUT request whose body isn't empty, they still do after more bytes are
-- appended.
abbrev pub BodyStays : Type 0
BodyStays = (bytes more : List ℕ) → HoldsBody bytes → HoldsBody (bytes ++ more)
