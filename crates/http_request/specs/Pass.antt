-- This file defines the pass of a request (RFC 6750, section 2.1).
use Rattle.std.specs.Prelude.{ℕ, List, [], ◌∷◌, take, drop, codes, if◌then◌else◌, Option, Some, None}
use Rattle.http_request.specs.Fields.{same_word, values_of}

-- The text of the pass in a field's value. The text of the pass is everything after `Bearer` and
-- one space. The case of the letters of `Bearer` doesn't matter.
abbrev pub bearer_text : List ℕ → Option (List ℕ)
bearer_text value = if same_word (take 7 value) (codes "bearer ") then Some (drop 7 value) else None

-- The text of the pass in the list's only value. The text is `None` if the list has no value or
-- several values.
abbrev pub only_text : List (List ℕ) → Option (List ℕ)
only_text [] = None
only_text (value ∷ []) = bearer_text value
only_text (value ∷ other ∷ more) = None

abbrev pub pass_text_of : List (List ℕ × List ℕ) → Option (List ℕ)
pass_text_of fields = only_text (values_of (codes "authorization") fields)
