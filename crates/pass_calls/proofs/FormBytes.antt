-- Lemmas for the proof that the fields of a pass have at most as many bytes as the encoded pass.
use Rattle.std.proofs.Common.{Bool, cond, ◌≡◌, ℕ, ◌≤◌, List, [], ◌∷◌, codes, length, map, Option, Some, None, unwrap_or, false, if◌then◌else◌, replicate, sym}
use Rattle.std.proofs.{Common.{◌∙◌, ap, arith, is_eq, bytes_eq}, lemmas.{Bool.true≢false, List.{length-append, Sums.sum_by-cons}, Map.Text.is_eq-slice_cmp}}
use Rattle.std.{proofs.lemmas.Slice.Eq.bytes_eq-Decides, specs.List.{flat_map, sum_by}}
use Rattle.base64.{proofs.RoundTrip.length-encode_symbols, specs.{Engines.{url_safe_no_pad, url_safe, standard_no_pad, standard}, GeneralPurpose.encode_of}}
use Rattle.base64.specs.{Rfc4648.{encode_symbols, padding_len}, declared.engine.general_purpose.GeneralPurpose.GeneralPurpose}
use Rattle.pass_calls.{proofs.JsonBytes.{data_bytes, items_bytes, read_fits, Apart, bytes_at, found_bytes, one_value, three_values}, specs.Object.fields_len}
use Rattle.pass_forms.specs.{Envelope.IsBase64, Pass.{Plain, as_wide_pass, widened_caveat}, V1.{SpellsV1, caveat_packets}, V2.{SpellsV2, caveat_section}}
use Rattle.pass_json.specs.Json.{AreCaveats, IsCaveatList, IsCaveatObject, IsField, SpellsJson}
use Rattle.serde_json.specs.{Data.{Data, Items, no_items, item}, Find.get}

encoded : (e : GeneralPurpose) (bytes : List ℕ) → length bytes ≤ length (encode_of e bytes)
encoded e bytes =
    omega (
      arith,
      length-encode_symbols e.encode_table bytes,
      length-append (encode_symbols e.encode_table bytes) (if e.config.encode_padding then replicate (padding_len (length bytes)) e.padding.value else []),
    )

pub base64_fits : (text bytes : List ℕ) → IsBase64 text bytes → length bytes ≤ length text
base64_fits text bytes is =
    let spelling = is.spelling in
    grind (arith, encoded url_safe_no_pad bytes, encoded url_safe bytes, encoded standard_no_pad bytes, encoded standard bytes)

-- The name of the member that has the field: `plain`, or `base64` if the field is encoded.
abbrev name_of : List ℕ → List ℕ → Bool → List ℕ
name_of plain base64 is_plain = cond is_plain plain base64

field_fits : (plain base64 : List ℕ) (value : Data) (bytes : List ℕ) → IsField plain base64 value (Some bytes)
    → (is_plain : Bool) × (length bytes ≤ bytes_at (name_of plain base64 is_plain) value)
field_fits plain base64 value bytes h = grind (arith, found_bytes, base64_fits)

location_fits : (value : Data) (location : Option (List ℕ)) → IsField (codes "l") (codes "l64") value location
    → (is_plain : Bool) × (length (unwrap_or location []) ≤ bytes_at (name_of (codes "l") (codes "l64") is_plain) value)
location_fits value location is = grind (arith, field_fits)

caveat_fits : (value : Data) (identifier : List ℕ) → IsCaveatObject value (widened_caveat identifier) → length identifier ≤ data_bytes value
caveat_fits value identifier is =
    let field = field_fits (codes "i") (codes "i64") value identifier is.identifier in
    omega (arith, field.1, one_value (name_of (codes "i") (codes "i64") field.0) value)

caveats_fit : (items : Items) (caveats : List (List ℕ)) → AreCaveats items (map widened_caveat caveats) → sum_by length caveats ≤ items_bytes items
caveats_fit items [] are = omega arith
caveats_fit no_items (caveat ∷ caveats) are = absurd are
caveats_fit (item value values) (caveat ∷ caveats) are =
    omega (arith, sum_by-cons length caveat caveats, caveat_fits value caveat are.0, caveats_fit values caveats are.1)

list_fits : (found : Option Data) (caveats : List (List ℕ)) → IsCaveatList found (map widened_caveat caveats) → sum_by length caveats ≤ found_bytes found
list_fits None [] is = omega arith
list_fits None (caveat ∷ caveats) is = absurd cc
list_fits (Some value) caveats is = omega (arith, ap data_bytes is.1, caveats_fit is.0 caveats is.2)

apart : (k l : List ℕ) → bytes_eq k l ≡ false → Apart k l
apart k l differ = λ name a b. true≢false (sym ((bytes_eq-Decides k l).1 (((bytes_eq-Decides k name).0 (sym (is_eq-slice_cmp k name) ∙ ap is_eq a)) ∙ sym
    ((bytes_eq-Decides l name).0 (sym (is_eq-slice_cmp l name) ∙ ap is_eq b)))) ∙ differ)

names_differ : (l i : Bool) → (bytes_eq (name_of (codes "l") (codes "l64") l) (name_of (codes "i") (codes "i64") i) ≡ false)
    × (bytes_eq (name_of (codes "l") (codes "l64") l) (codes "c") ≡ false) × (bytes_eq (name_of (codes "i") (codes "i64") i) (codes "c") ≡ false)
names_differ l i = grind arith

pub json_fits : (bytes : List ℕ) (pass : Plain) → SpellsJson bytes (as_wide_pass pass) → fields_len pass ≤ length bytes
json_fits bytes pass is =
    let value = is.value in
    let location = location_fits value is.is_pass.location is.is_pass.is_location in
    let identifier = field_fits (codes "i") (codes "i64") value pass.identifier is.is_pass.identifier in
    let l = name_of (codes "l") (codes "l64") location.0 in
    let i = name_of (codes "i") (codes "i64") identifier.0 in
    let differ = names_differ location.0 identifier.0 in
    omega (
      arith,
      read_fits bytes value is.is_read,
      list_fits (get (codes "c") value) pass.caveats is.is_pass.caveats,
      ap length is.is_pass.location_is,
      location.1,
      identifier.1,
      three_values l i (codes "c") (apart l i differ.0) (apart l (codes "c") differ.1) (apart i (codes "c") differ.2) value,
    )

packets_fit : (caveats : List (List ℕ)) → sum_by length caveats ≤ length (flat_map caveat_packets (map widened_caveat caveats))
packets_fit [] = omega arith
packets_fit (caveat ∷ caveats) = grind (arith, length-append, sum_by-cons length caveat caveats, packets_fit caveats)

pub v1_fits : (bytes : List ℕ) (pass : Plain) → SpellsV1 bytes (as_wide_pass pass) → fields_len pass ≤ length bytes
v1_fits bytes pass is = grind (arith, length-append, ap length is.packets, packets_fit pass.caveats)

sections_fit : (caveats : List (List ℕ)) → sum_by length caveats ≤ length (flat_map caveat_section (map widened_caveat caveats))
sections_fit [] = omega arith
sections_fit (caveat ∷ caveats) = grind (arith, length-append, sum_by-cons length caveat caveats, sections_fit caveats)

pub v2_fits : (bytes : List ℕ) (pass : Plain) → SpellsV2 bytes (as_wide_pass pass) → fields_len pass ≤ length bytes
v2_fits bytes pass is = grind (arith, length-append, sections_fit)
