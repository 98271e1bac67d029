-- Defines the JSON text of a pass, and the faults of the JSON writer.
use Rattle.std.specs.{Prelude.{◌≡◌, ℕ, ◌≤◌, if◌then◌else◌, List, [], ◌∷◌, codes, length, map, Result, Err}, Str.is_utf8}
use Rattle.base64.specs.{Engines.url_safe_no_pad, GeneralPurpose.encode_of}
use Rattle.serde_json.specs.{Data.{Data, number, string, array, object, unsigned, Items, Members, no_members, put}, View.items_of, Written.compact_text}
use Rattle.pass_forms.specs.{Pass.{Plain, as_wide_pass}, Reading.max_caveats, Writing.IsWriteFault, declared.fault.FormFault.FormFault}
use Rattle.pass_forms.specs.declared.fault.FormFault.TheVariants.{TooLong, Malformed, ThirdParty, TooMany, Memory}
use Rattle.pass_json.specs.Json.{SpellsJson}

-- Returns a JSON string with the bytes in URL-safe base64 (RFC 4648, section 5), without padding.
abbrev pub base64_text : List ℕ → Data
base64_text bytes = string (encode_of url_safe_no_pad bytes)

-- Adds a member with these bytes to an object. If the bytes are UTF-8, the member has the name
-- `plain`. Otherwise the member has the name `base64`, and the value is base64 of the bytes. This
-- project chose this rule.
unfoldable pub put_member : List ℕ → List ℕ → List ℕ → Members → Members
put_member plain base64 bytes members =
    if is_utf8 bytes then put plain (string bytes) members else put base64 (base64_text bytes) members

-- Adds a location to the members of an object, unless the location is empty.
abbrev pub with_location : List ℕ → Members → Members
with_location [] members = members
with_location (byte ∷ bytes) members = put_member (codes "l") (codes "l64") (byte ∷ bytes) members

abbrev pub caveat_object : List ℕ → Data
caveat_object identifier = object (put_member (codes "i") (codes "i64") identifier no_members)

abbrev pub caveat_objects : List (List ℕ) → Items
caveat_objects identifiers = items_of (map caveat_object identifiers)

-- Returns the JSON object of a pass. The signature is always in base64. The version and the list of
-- caveats are always present.
unfoldable pub object_of : Plain → Data
object_of pass =
    object (put (codes "v") (number (unsigned 2))
    (put (codes "s64") (base64_text pass.signature)
    (put (codes "c") (array (caveat_objects pass.caveats))
    (put_member (codes "i") (codes "i64") pass.identifier (with_location pass.location no_members)))))

-- Returns the JSON text of a pass, as `serde_json` writes it. The text has no white space between
-- tokens. The names in each object are sorted by their bytes.
unfoldable pub json_text : Plain → List ℕ
json_text pass = compact_text (object_of pass)

-- The text is the JSON text of the pass, and the text encodes the pass.
pub record IsJsonText (pass : Plain) (text : List ℕ) : Type 0 where
  pub compact : text ≡ json_text pass
  pub spelling : SpellsJson text (as_wide_pass pass)

-- The JSON writer may return this fault for the pass. The conditions for `TooMany` and `TooLong`
-- are the same as for the V1 and V2 writers. `Memory` is possible even for a text that is too long,
-- because the writer checks the length of the text last.
abbrev pub IsRefusedJson : Plain → FormFault → Type 0
IsRefusedJson pass Memory = length pass.caveats ≤ max_caveats
IsRefusedJson pass TooLong = IsWriteFault IsJsonText pass TooLong
IsRefusedJson pass Malformed = IsWriteFault IsJsonText pass Malformed
IsRefusedJson pass ThirdParty = IsWriteFault IsJsonText pass ThirdParty
IsRefusedJson pass TooMany = IsWriteFault IsJsonText pass TooMany

-- `MayFailAs writing fault` means that a writer may return `fault` if the computed result is
-- `writing`. If the computed result is a fault, a writer may return the same fault. A writer may
-- return `Memory` instead of a text, or instead of `TooLong`.
abbrev pub MayFailAs : Result (List ℕ) FormFault → FormFault → Type 0
MayFailAs writing Memory = ¬ (writing ≡ Err TooMany)
MayFailAs writing TooLong = writing ≡ Err TooLong
MayFailAs writing Malformed = writing ≡ Err Malformed
MayFailAs writing ThirdParty = writing ≡ Err ThirdParty
MayFailAs writing TooMany = writing ≡ Err TooMany
