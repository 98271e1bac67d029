-- Lemmas about the JSON object of a pass, and for the proof that a JSON value's text is read back
-- as the same value.
use Rattle.json.specs.Tree as tree
use Rattle.std.proofs.Common.{rules, ◌≡◌, ℕ, ◌+◌, ◌<◌, ◌≤◌, Bool, ◌||◌, List, [], ◌∷◌, ◌++◌, length, drop, get_or, Option, Some, None, arith, true, false}
use Rattle.std.proofs.{Common.{option_and_then, refl, sym, ap, subst, ◌∙◌, append-nil, append_assoc, codes, decimal}, lemmas.{Bool.or_from, Grind.common_steps}}
use Rattle.std.{proofs.lemmas.Str.{IsUtf8-append, IsUtf8-from_ascii, IsUtf8-from_is_utf8}, specs.{Fmt.digits, Option.option_map, Str.{IsUtf8, is_utf8}}}
use Rattle.base64.{proofs.EngineFacts.IsAscii-encode_of, specs.{Engines.url_safe_no_pad, GeneralPurpose.encode_of}}
use Rattle.json.proofs.Printed.{Tokens.tokens-print, Trees.{ArePrintable-json_tokens, value-json_tokens}, Utf8.{IsUtf8-are_ascii, IsUtf8-boolean, IsUtf8-key}}
use Rattle.json.{proofs.Printed.Utf8.IsUtf8-quoted, specs.{Json.{Json, if_last, value}, Lex.tokens, Print.quoted, Token.Token, Tree.{HasNumbers, json_tokens}}}
use Rattle.json.specs.Tree.{ItemsHaveNumbers, MembersHaveNumbers}
use Rattle.pass_forms.specs.{Pass.{WideCaveat, Plain}, computed.Parts.◌>>=◌, declared.fault.FormFault.FormFault}
use Rattle.pass_json.specs.{JsonWriting.{caveat_object, caveat_objects, object_of, put_member, with_location}, computed.JsonReading.{caveat_from, caveats_of}}
use Rattle.pass_json.specs.computed.JsonReading.{kept_caveat, kept_caveats, RefusesPart}
use Rattle.serde_json.{proofs.{OnLiterals.serde_json_on_literals, Texts.print-outline}, specs.Data.{Items, item, Data, null, boolean, number, string, array}}
use Rattle.serde_json.specs.{Data.{object, no_items, Members, no_members, member, unsigned, put}, Read.{max_depth, of_json, read, number_of, of_items}}
use Rattle.serde_json.specs.{View.{items_view, view}, Written.{comma_if, compact_text, items_text, members_text, number_text, outline, has_float}}
use Rattle.serde_json.specs.{Written.{items_have_float, members_have_float, items_outline, members_outline}, declared.value.Value.Value}

-- Returns the identifiers of all caveats in a list, and whether any caveat is a third-party caveat.
-- The result is `None` if a caveat is malformed.
abbrev pub kept_of : Items → Option (List (List ℕ) × Bool)
kept_of items = option_map kept_caveats (caveats_of items)

-- Combines the caveats that the loop has parsed with the result for the remaining caveats.
abbrev pub with_kept : List (List ℕ) → Bool → Option (List (List ℕ) × Bool) → Option (List (List ℕ) × Bool)
with_kept identifiers third_party rest = option_map (λ p. (identifiers ++ p.0, third_party || p.1)) rest

module _ (identifiers : List (List ℕ)) (third_party : Bool) where
  next_by : (found : Option WideCaveat) (rest : Option (List WideCaveat)) (id : List ℕ) (third : Bool) → option_map kept_caveat found ≡ Some (id, third)
      → with_kept identifiers third_party (option_map kept_caveats (found >>= (λ caveat. rest >>= (λ caveats. Some (caveat ∷ caveats)))))
      ≡ with_kept (identifiers ++ id ∷ []) (third_party || third) (option_map kept_caveats rest)
  next_by found rest id third e = grind (arith, common_steps)

  pub one_more : (all : Option (List (List ℕ) × Bool)) (list : List Value) (i : ℕ) (value : Value) (id : List ℕ) (third : Bool)
      → i < length list → value ≡ get_or list i value → option_map kept_caveat (caveat_from (view value)) ≡ Some (id, third)
      → all ≡ with_kept identifiers third_party (kept_of (items_view (drop i list)))
      → all ≡ with_kept (identifiers ++ id ∷ []) (third_party || third) (kept_of (items_view (drop (i + 1) list)))
  unfolding caveats_of
  one_more all list i value id third lt is found e = grind (arith, common_steps, next_by)

  pub all_read : (all : Option (List (List ℕ) × Bool)) (list : List Value) (i : ℕ) → length list ≤ i
      → all ≡ with_kept identifiers third_party (kept_of (items_view (drop i list))) → all ≡ Some (identifiers, third_party)
  unfolding caveats_of
  all_read all list i done e = grind (arith, common_steps)

  nothing_kept : (found : Option (List WideCaveat)) → option_map kept_caveats found ≡ with_kept identifiers third_party None → found ≡ None
  nothing_kept found e = grind arith

  pub one_refused : (list : List Value) (i : ℕ) (value : Value) (fault : FormFault) → i < length list → value ≡ get_or list i value
      → kept_of (items_view list) ≡ with_kept identifiers third_party (kept_of (items_view (drop i list)))
      → RefusesPart (caveat_from (view value)) fault → RefusesPart (caveats_of (items_view list)) fault
  unfolding caveats_of
  one_refused list i value fault lt is e refused = grind (arith, common_steps, nothing_kept)

-- Returns the parsed value if the parser consumed all tokens.
abbrev of_parsed : Option (Json × List Token) → Option Data
of_parsed parsed = option_and_then of_json (option_and_then (λ p. if_last p.0 p.1) parsed)

pub reads_text : (d : Data) → HasNumbers (outline d) → tree.depth (outline d) ≤ max_depth → read (compact_text d) ≡ of_json (outline d)
reads_text d numbers shallow =
    let ts = json_tokens (outline d) in
    let same : tokens (compact_text d) ≡ ts = ap tokens (sym (print-outline d)) ∙ tokens-print ts (ArePrintable-json_tokens (outline d) numbers) in
    ap of_parsed (ap (value max_depth) (same ∙ sym (append-nil ts)) ∙ value-json_tokens (outline d) max_depth [] shallow)

abbrev mutual
  pub HasTexts : Data → Type 0
  HasTexts null = Unit {0}
  HasTexts (boolean b) = Unit {0}
  HasTexts (number n) = IsUtf8 (number_text n)
  HasTexts (string s) = IsUtf8 s
  HasTexts (array ds) = ItemsHaveTexts ds
  HasTexts (object ms) = MembersHaveTexts ms

  pub ItemsHaveTexts : Items → Type 0
  ItemsHaveTexts no_items = Unit {0}
  ItemsHaveTexts (item d ds) = HasTexts d × ItemsHaveTexts ds

  pub MembersHaveTexts : Members → Type 0
  MembersHaveTexts no_members = Unit {0}
  MembersHaveTexts (member k d ms) = IsUtf8 k × HasTexts d × MembersHaveTexts ms

after_comma : (later : Bool) (text : List ℕ) → IsUtf8 text → IsUtf8 (comma_if later ++ text)
after_comma true text u = IsUtf8-append (44 ∷ []) text (IsUtf8-are_ascii (44 ∷ []) refl) u
after_comma false text u = u

mutual
  pub utf8_text : (d : Data) → HasTexts d → IsUtf8 (compact_text d)
  utf8_text null h = IsUtf8-are_ascii _ refl
  utf8_text (boolean b) h = IsUtf8-boolean b
  utf8_text (number n) h = h
  utf8_text (string s) h = IsUtf8-quoted s h
  utf8_text (array ds) h = IsUtf8-append (91 ∷ []) (items_text false ds) (IsUtf8-are_ascii (91 ∷ []) refl) (utf8_items false ds h)
  utf8_text (object ms) h = IsUtf8-append (123 ∷ []) (members_text false ms) (IsUtf8-are_ascii (123 ∷ []) refl) (utf8_members false ms h)

  utf8_items : (later : Bool) (ds : Items) → ItemsHaveTexts ds → IsUtf8 (items_text later ds)
  utf8_items later no_items h = IsUtf8-are_ascii (93 ∷ []) refl
  utf8_items later (item d ds) h =
      after_comma later (compact_text d ++ items_text true ds) (IsUtf8-append (compact_text d) (items_text true ds) (utf8_text d h.0) (utf8_items true ds h.1))

  utf8_members : (later : Bool) (ms : Members) → MembersHaveTexts ms → IsUtf8 (members_text later ms)
  utf8_members later no_members h = IsUtf8-are_ascii (125 ∷ []) refl
  utf8_members later (member k d ms) h =
      let rest : List ℕ = compact_text d ++ members_text true ms in
      let value : IsUtf8 rest = IsUtf8-append (compact_text d) (members_text true ms) (utf8_text d h.1) (utf8_members true ms h.2) in
      after_comma later (quoted k ++ 58 ∷ rest)
      (subst IsUtf8 (append_assoc (quoted k) (58 ∷ []) rest) (IsUtf8-append (quoted k ++ 58 ∷ []) rest (IsUtf8-key k h.0) value))

-- The text of a field. The flag is true if the text belongs under the plain name, and false if the
-- text belongs under the base64 name.
abbrev pub FieldText : Type 0
FieldText = Bool × List ℕ

abbrev pub text_by_test : Bool → List ℕ → FieldText
text_by_test true bytes = (true, bytes)
text_by_test false bytes = (false, encode_of url_safe_no_pad bytes)

abbrev pub field_text : List ℕ → FieldText
field_text bytes = text_by_test (is_utf8 bytes) bytes

abbrev pub location_text : List ℕ → Option FieldText
location_text [] = None
location_text (byte ∷ bytes) = Some (field_text (byte ∷ bytes))

abbrev pub named : List ℕ → List ℕ → FieldText → Members → Members
named plain base64 (true, text) rest = member plain (string text) rest
named plain base64 (false, text) rest = member base64 (string text) rest

abbrev pub identified : FieldText → Members → Members
identified identifier rest = named (codes "i") (codes "i64") identifier rest

abbrev pub located : Option FieldText → Members → Members
located None rest = rest
located (Some location) rest = named (codes "l") (codes "l64") location rest

abbrev pub whole : Items → FieldText → Option FieldText → List ℕ → Data
whole caveats identifier location signature = object (member (codes "c") (array caveats) (identified identifier (located location
    (member (codes "s64") (string signature) (member (codes "v") (number (unsigned 2)) no_members)))))

-- Inserts a field's text into the members of an object.
abbrev put_text : List ℕ → List ℕ → FieldText → Members → Members
put_text plain base64 (true, text) rest = put plain (string text) rest
put_text plain base64 (false, text) rest = put base64 (string text) rest

put_is : (plain base64 bytes : List ℕ) (rest : Members) → put_member plain base64 bytes rest ≡ put_text plain base64 (field_text bytes) rest
unfolding put_member
put_is plain base64 bytes rest = grind (arith, is_utf8 bytes)

pub caveat_is : (bytes : List ℕ) → caveat_object bytes ≡ object (identified (field_text bytes) no_members)
caveat_is bytes = ap object (put_is (codes "i") (codes "i64") bytes no_members ∙ (grind (arith, codes "i", codes "i64", field_text bytes)))

location_is : (location : List ℕ) → with_location location no_members ≡ located (location_text location) no_members
location_is location = grind (arith, put_is)

-- Returns the JSON object of a pass. The version, the signature and the caveats are added to the
-- given members.
with_others : Items → List ℕ → Members → Data
with_others caveats signature members =
    object (put (codes "v") (number (unsigned 2)) (put (codes "s64") (string signature) (put (codes "c") (array caveats) members)))

pub object_is : (pass : Plain) →
    object_of pass ≡ whole (caveat_objects pass.caveats) (field_text pass.identifier) (location_text pass.location) (encode_of url_safe_no_pad pass.signature)
unfolding object_of with_others
object_is pass = grind (arith, location_is, put_is)

pub two_is_two : number_of (decimal 2) ≡ Some (unsigned 2)
unfolding serde_json_on_literals digits
two_is_two = refl

caveat_reads : (bytes : List ℕ) → of_json (outline (caveat_object bytes)) ≡ Some (caveat_object bytes)
caveat_reads bytes = subst (λ (d : Data). of_json (outline d) ≡ Some d) (sym (caveat_is bytes)) (grind (arith, field_text bytes))

pub caveats_read : (caveats : List (List ℕ)) → of_items (items_outline (caveat_objects caveats)) ≡ Some (caveat_objects caveats)
caveats_read [] = refl
caveats_read (caveat ∷ caveats) = grind (arith, caveat_reads caveat, caveats_read caveats)

-- The conditions under which the text of a JSON value is read back as the same value:
--
-- - The numbers are valid.
-- - The nesting depth is at most `most`.
-- - No number is a float.
-- - All strings are UTF-8.
pub record IsFine (Numbers : Type 0) (depth most : ℕ) (float : Bool) (Texts : Type 0) : Type 0 where
  pub numbers : Numbers
  pub shallow : depth ≤ most
  pub no_float : float ≡ false
  pub texts : Texts

abbrev pub IsFineData : ℕ → Data → Type 0
IsFineData most d = IsFine (HasNumbers (outline d)) (tree.depth (outline d)) most (has_float d) (HasTexts d)

abbrev AreFineItems : ℕ → Items → Type 0
AreFineItems most ds = IsFine (ItemsHaveNumbers (items_outline ds)) (tree.items_depth (items_outline ds)) most (items_have_float ds) (ItemsHaveTexts ds)

abbrev AreFineMembers : Members → Type 0
AreFineMembers ms = IsFine (MembersHaveNumbers (members_outline ms)) (tree.members_depth (members_outline ms)) 0 (members_have_float ms) (MembersHaveTexts ms)

text_is_fine : (name text : List ℕ) (rest : Members) → IsUtf8 name → IsUtf8 text → AreFineMembers rest → AreFineMembers (member name (string text) rest)
text_is_fine name text rest one two h = record { numbers = (tt, h.numbers); shallow = omega arith; no_float = h.no_float; texts = (one, two, h.texts) }

named_is_fine : (test : Bool) (plain base64 bytes : List ℕ) (rest : Members) → is_utf8 bytes ≡ test → IsUtf8 plain → IsUtf8 base64 → AreFineMembers rest →
    AreFineMembers (named plain base64 (text_by_test test bytes) rest)
named_is_fine true plain base64 bytes rest e one two h = text_is_fine plain bytes rest one (IsUtf8-from_is_utf8 bytes e) h
named_is_fine false plain base64 bytes rest e one two h = text_is_fine base64 (encode_of url_safe_no_pad bytes) rest two (IsUtf8-from_ascii (encode_of
    url_safe_no_pad bytes) (IsAscii-encode_of url_safe_no_pad bytes)) h

identified_is_fine : (bytes : List ℕ) (rest : Members) → AreFineMembers rest → AreFineMembers (identified (field_text bytes) rest)
identified_is_fine bytes rest h = search (rules, named_is_fine)

located_is_fine : (location : List ℕ) (rest : Members) → AreFineMembers rest → AreFineMembers (located (location_text location) rest)
located_is_fine [] rest h = h
located_is_fine (byte ∷ bytes) rest h =
    named_is_fine (is_utf8 (byte ∷ bytes)) (codes "l") (codes "l64") (byte ∷ bytes) rest refl (IsUtf8-are_ascii (codes "l") refl)
    (IsUtf8-are_ascii (codes "l64") refl) h

caveat_is_fine : (bytes : List ℕ) → IsFineData 1 (caveat_object bytes)
caveat_is_fine bytes =
    let h = identified_is_fine bytes no_members (record { numbers = tt; shallow = omega arith; no_float = refl; texts = tt }) in
    subst (IsFineData 1) (sym (caveat_is bytes)) (record { numbers = h.numbers; shallow = omega arith; no_float = h.no_float; texts = h.texts })

caveats_are_fine : (caveats : List (List ℕ)) → AreFineItems 1 (caveat_objects caveats)
caveats_are_fine [] = grind arith
caveats_are_fine (caveat ∷ caveats) = grind (arith, caveat_is_fine caveat, or_from, caveats_are_fine caveats)

pub object_is_fine : (pass : Plain) → IsFineData 3 (object_of pass)
unfolding serde_json_on_literals digits
object_is_fine pass =
    let signature : List ℕ = encode_of url_safe_no_pad pass.signature in
    let version : Members = member (codes "v") (number (unsigned 2)) no_members in
    let ends = text_is_fine (codes "s64") signature version (IsUtf8-are_ascii (codes "s64") refl) (IsUtf8-from_ascii (encode_of url_safe_no_pad pass.signature)
    (IsAscii-encode_of url_safe_no_pad pass.signature)) (search rules) in
    let signed : Members = member (codes "s64") (string signature) version in
    let members = identified_is_fine pass.identifier (located (location_text pass.location) signed) (located_is_fine pass.location signed ends) in
    let caveats = caveats_are_fine pass.caveats in
    subst (IsFineData 3) (sym (object_is pass)) (record {
      numbers = (caveats.numbers, members.numbers);
      shallow = omega arith;
      no_float = or_from _ _ caveats.no_float members.no_float;
      texts = (IsUtf8-are_ascii (codes "c") refl, caveats.texts, members.texts);
    })
