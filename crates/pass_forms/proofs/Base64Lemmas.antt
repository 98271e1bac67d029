-- Lemmas about base64, and about the bytes that a pass text wraps. A byte is a number below 256.
use Rattle.std.proofs.{Common.{◌*◌, Bool, true, slice_index, false, inl, not, ◌==◌, inr, if◌then◌else◌, replicate, ◌%◌, ◌⊎◌, cond}, lemmas.Bool.and_parts}
use Rattle.std.proofs.lemmas.{Bool.{cases_Bool, cases_lt, Decides.Decides-eqb}, Grind.elements, List.{get_or-drop, take-append-drop}, Slice.Eq.starts_is}
use Rattle.std.specs.{List.list_all, Option.{option_map, option_or, ok_or, option_and_then}, Result.{IfOk, result_ok}, declared.option.Option.Option}
use Rattle.std.specs.declared.{option.Option.TheVariants.{None, Some}, result.Result.{Result, TheVariants.{Ok, Err}}}
use Rattle.base64.proofs.{Decoding.{IsLeftover, IsLeftover_next}, EngineFacts.{decode_of_bytes, front_bytes, decode_of-encode_of, decode_of_strict}}
use Rattle.base64.{proofs.{RoundTrip.decode-encode, Tables.{IsDecodeTable_from, are_tables_inverse}}, specs.Decode.{IsDecodeTable, decode_group}}
use Rattle.base64.specs.Decode.{decode_outcome, decoded_bytes, groups_bytes, groups_error, no_leftover, push_leftover, scan_bytes, scan_steps}
use Rattle.base64.specs.{Engines.{standard, url_safe, url_safe_no_pad, standard_no_pad}, GeneralPurpose.{IsBytes, decode_of, IsConsistent, IsStrict, encode_of}}
use Rattle.base64.specs.{GeneralPurpose.engine_symbols, Rfc4648.{encode, encode_symbols}, declared.decode.DecodeError.DecodeError}
use Rattle.base64.specs.declared.engine.{DecodePaddingMode.TheVariants.Indifferent, general_purpose.GeneralPurpose.GeneralPurpose}
use Rattle.pass_forms.proofs.Common.{◌≡◌, ℕ, zero, suc, ◌+◌, ◌/◌, ◌<◌, ltb, List, [], ◌∷◌, ◌++◌, take, drop, refl, arith, lt-ltb, nat_tests, map, sym, ◌∙◌}
use Rattle.pass_forms.proofs.Common.{decoded_of, ap, common_steps, ◌≤◌, length, ◌↔◌, subst, rules, le-ltb, FormFault, TooLong, Malformed, Form, IsUnwrapped}
use Rattle.pass_forms.{proofs.Common.{unwrapping, max_text_len}, specs.{Envelope.{IsBase64, starts_with_brace, Wraps, form_of}, computed.Reading.by_decoders}}
use Rattle.pass_forms.specs.computed.Reading.{from_base64, with_its_form}

abbrev TypeOf : {A : Type 0} → A → Type 0
TypeOf {A} x = A

-- `Leftover` is the decoder's state after the scan of the last group of symbols. The decoder's own
-- type for this state has no public name.
abbrev Leftover : Type 0
Leftover = TypeOf no_leftover

pub nil_is_bytes : IsBytes []
nil_is_bytes i = grind (arith, elements)

pub one_more : (byte : ℕ) (bytes : List ℕ) → byte < 256 → IsBytes bytes → IsBytes (byte ∷ bytes)
one_more byte bytes small others = grind arith

pub bytes_from_passes : (text : List ℕ) → list_all (λ byte. ltb byte 256) text ≡ true → IsBytes text
bytes_from_passes [] e = nil_is_bytes
bytes_from_passes (byte ∷ text) e = one_more byte text (grind (arith, nat_tests)) (bytes_from_passes text (grind arith))

pub passes_from_bytes : (text : List ℕ) → IsBytes text → list_all (λ byte. ltb byte 256) text ≡ true
passes_from_bytes [] bytes = refl
passes_from_bytes (byte ∷ text) bytes = rw (lt-ltb byte 256 (bytes 0)) (passes_from_bytes text (λ i. bytes (suc i)))

pub append_is_bytes : (a b : List ℕ) → IsBytes a → IsBytes b → IsBytes (a ++ b)
append_is_bytes [] b front back i = back i
append_is_bytes (x ∷ a) b front back zero = front 0
append_is_bytes (x ∷ a) b front back (suc i) = append_is_bytes a b (λ k. front (suc k)) back i

group_is_bytes : (m0 m1 m2 m3 : ℕ) → m0 < 64 → m1 < 64 → m2 < 64 → m3 < 64 → IsBytes (decode_group m0 m1 m2 m3)
group_is_bytes m0 m1 m2 m3 l0 l1 l2 l3 = grind arith

groups_are_bytes : (dec s : List ℕ) (q : ℕ) → IsDecodeTable dec → IsBytes s → groups_error dec s q ≡ None → IsBytes (groups_bytes dec s q)
unfolding groups_error groups_bytes
groups_are_bytes dec s zero table bytes none = nil_is_bytes
groups_are_bytes dec s (suc q) table bytes none = grind (arith, append_is_bytes, group_is_bytes, groups_are_bytes dec s q table bytes (grind arith))

module _ (dec : List ℕ) (pad at : ℕ) (table : IsDecodeTable dec) where
  push_keeps : (st : Leftover) (i b : ℕ) → IsLeftover st i → b < 256 → (next : Result Leftover DecodeError) → push_leftover dec pad at st i b ≡ next →
      IfOk next (λ st. IsLeftover st (i + 1))
  push_keeps st i b held small (Ok next) e = IsLeftover_next dec pad at st i b next table held small e
  push_keeps st i b held small (Err error) e = tt

  scan_keeps : (r : Result Leftover DecodeError) (i : ℕ) (bs : List ℕ) → IfOk r (λ st. IsLeftover st i) → IsBytes bs →
      IfOk (scan_steps dec pad at r i bs) (λ st. (k : ℕ) → slice_index st.morsels k < 64)
  unfolding scan_steps
  scan_keeps (Err e) i bs held bytes = tt
  scan_keeps (Ok st) i [] held bytes = held.3
  scan_keeps (Ok st) i (b ∷ bs) held bytes =
      scan_keeps (push_leftover dec pad at st i b) (i + 1) bs (push_keeps st i b held (bytes 0) _ refl) (λ j. bytes (suc j))

zeros_below : (k : ℕ) → slice_index (0 ∷ 0 ∷ 0 ∷ 0 ∷ []) k < 64
zeros_below k = grind (arith, elements)

scan_is_bytes : (r : Result Leftover DecodeError) → IfOk r (λ st. (k : ℕ) → slice_index st.morsels k < 64) → IsBytes (scan_bytes r)
scan_is_bytes (Ok st) small =
    let n : ℕ = st.morsels_count * 6 / 8 in
    let group : List ℕ = decode_group (slice_index st.morsels 0) (slice_index st.morsels 1) (slice_index st.morsels 2) (slice_index st.morsels 3) in
    front_bytes (take n group) (drop n group) (rw take-append-drop (group_is_bytes _ _ _ _ (small 0) (small 1) (small 2) (small 3)))
scan_is_bytes (Err e) small = nil_is_bytes

no_error : (error : Option DecodeError) (bytes b : List ℕ) → decode_outcome error bytes ≡ Ok b → error ≡ None
no_error error bytes b ok = grind arith

pub decode_of_are_bytes : (e : GeneralPurpose) (s b : List ℕ) → IsBytes s → decode_of e s ≡ Ok b → IsBytes b
decode_of_are_bytes e s b bytes ok =
    let table : IsDecodeTable e.decode_table = IsDecodeTable_from e.encode_table e.decode_table
    (are_tables_inverse e.encode_table e.decode_table e.padding.value e.tables) in
    decode_of_bytes e s b (grind (arith, append_is_bytes, groups_are_bytes, scan_is_bytes, scan_keeps, zeros_below, get_or-drop, no_error _ _ b ok)) ok

passes_at : (p : ℕ → Bool) (t : List ℕ) (i : ℕ) → p 0 ≡ true → list_all p t ≡ true → p (slice_index t i) ≡ true
passes_at p [] zero past all = past
passes_at p [] (suc i) past all = past
passes_at p (x ∷ xs) zero past all = (and_parts (p x) (list_all p xs) all).0
passes_at p (x ∷ xs) (suc i) past all = passes_at p xs i past (and_parts (p x) (list_all p xs) all).1

symbols_pass : (p : ℕ → Bool) (t m : List ℕ) → p 0 ≡ true → list_all p t ≡ true → list_all p (encode_symbols t m) ≡ true
unfolding encode_symbols
symbols_pass p t [] past all = refl
symbols_pass p t (a ∷ []) past all = grind (arith, passes_at)
symbols_pass p t (a ∷ b ∷ []) past all = grind (arith, passes_at)
symbols_pass p t (a ∷ b ∷ c ∷ rest) past all = grind (arith, passes_at p t, symbols_pass p t rest past all)

copies_pass : (p : ℕ → Bool) (x k : ℕ) → p x ≡ true → list_all p (replicate k x) ≡ true
copies_pass p x zero passes = refl
copies_pass p x (suc k) passes = rw passes (copies_pass p x k passes)

-- Converts a symbol of the URL-safe base64 alphabet to the symbol of the standard alphabet with the
-- same value.
abbrev pub standard_symbol : ℕ → ℕ
standard_symbol x = if x == 45 then 43 else if x == 95 then 47 else x

index_map : (t : List ℕ) (i : ℕ) → standard_symbol (slice_index t i) ≡ slice_index (map standard_symbol t) i
index_map [] zero = refl
index_map [] (suc i) = refl
index_map (x ∷ t) zero = refl
index_map (x ∷ t) (suc i) = index_map t i

symbols_map : (t m : List ℕ) → map standard_symbol (encode_symbols t m) ≡ encode_symbols (map standard_symbol t) m
unfolding encode_symbols
symbols_map t [] = refl
symbols_map t (a ∷ []) = cc (index_map t (a / 4), index_map t (a % 4 * 16))
symbols_map t (a ∷ b ∷ []) = cc (index_map t (a / 4), index_map t (a % 4 * 16 + b / 16), index_map t (b % 16 * 4))
symbols_map t (a ∷ b ∷ c ∷ m) = grind (arith, index_map, symbols_map t m)

padding_map : (k : ℕ) → map standard_symbol (replicate k 61) ≡ replicate k 61
padding_map zero = refl
padding_map (suc k) = ap (λ (rest : List ℕ). 61 ∷ rest) (padding_map k)

encode_map : (t m : List ℕ) (padding : Bool) → map standard_symbol (encode t 61 padding m) ≡ encode (map standard_symbol t) 61 padding m
encode_map t m padding = grind (arith, common_steps, symbols_map, padding_map)

-- The 64 symbols of the standard base64 alphabet (RFC 4648, section 4).
abbrev standard_symbols : List ℕ
standard_symbols = engine_symbols standard

abbrev url_safe_symbols : List ℕ
url_safe_symbols = engine_symbols url_safe

some_ok : (r : Result (List ℕ) DecodeError) (b : List ℕ) → result_ok r ≡ Some b → r ≡ Ok b
some_ok r b some = grind arith

pub decoded_spells : (e : GeneralPurpose) (text b : List ℕ) → IsStrict e → IsBytes text → decoded_of e text ≡ Some b → (text ≡ encode_of e b) × IsBytes b
unfolding decoded_of
decoded_spells e text b strict bytes decoded =
    let ok = some_ok (decode_of e text) b decoded in
    (decode_of_strict e text b strict bytes ok, decode_of_are_bytes e text b bytes ok)

standard_decodes : (b : List ℕ) (padding : Bool) → IsBytes b → decoded_bytes standard.decode_table 61 (encode standard_symbols 61 padding b) ≡ b
standard_decodes b padding are = (decode-encode standard.encode_table standard.decode_table b 61 false Indifferent padding standard.tables are tt).1

spelled_by : (text b : List ℕ) (P : List ℕ → Type 0) → ((text ≡ encode_of url_safe_no_pad b) ⊎ (text ≡ encode_of url_safe b)
    ⊎ (text ≡ encode_of standard_no_pad b) ⊎ (text ≡ encode_of standard b)) →
    ((padding : Bool) → P (encode url_safe_symbols 61 padding b) × P (encode standard_symbols 61 padding b)) → P text
spelled_by text b P (inl e) each = rw e (each false).0
spelled_by text b P (inr (inl e)) each = rw e (each true).0
spelled_by text b P (inr (inr (inl e))) each = rw e (each false).1
spelled_by text b P (inr (inr (inr e))) each = rw e (each true).1

spelled_decodes : (text b : List ℕ) → IsBase64 text b → decoded_bytes standard.decode_table 61 (map standard_symbol text) ≡ b
spelled_decodes text b is = spelled_by text b (λ t. decoded_bytes standard.decode_table 61 (map standard_symbol t) ≡ b) is.spelling (λ padding.
    let decodes = standard_decodes b padding is.are_bytes in
    (rw (encode_map url_safe_symbols b padding) decodes, rw (encode_map standard_symbols b padding) decodes))

pub spells_one : (text a b : List ℕ) → IsBase64 text a → IsBase64 text b → a ≡ b
spells_one text a b left right = sym (spelled_decodes text a left) ∙ spelled_decodes text b right

pub spelling_passes : (p : ℕ → Bool) (text b : List ℕ) → p 0 ≡ true → p 61 ≡ true → list_all p standard_symbols ≡ true → list_all p url_safe_symbols ≡ true
    → IsBase64 text b → list_all p text ≡ true
spelling_passes p text b past padded std url is = spelled_by text b (λ t. list_all p t ≡ true) is.spelling (λ padding.
    (grind (arith, common_steps, symbols_pass, copies_pass), grind (arith, common_steps, symbols_pass, copies_pass)))

-- No base64 text starts with a brace.
pub spelling_brace : (text b : List ℕ) → IsBase64 text b → starts_with_brace text ≡ true → ⊥
spelling_brace text b is brace =
    let no_brace : ℕ → Bool = λ x. not (x == 123) in
    let cut : text ≡ 123 ∷ drop 1 text = (starts_is Decides-eqb text (123 ∷ []) (starts_with_brace text) refl).0 brace in
    let all : list_all no_brace text ≡ true = spelling_passes no_brace text b refl refl refl refl is in
    cc (rw cut at all)

-- `IsDecoded text bytes` means that at least one of the four base64 engines decodes `text` to
-- `bytes`.
abbrev IsDecoded : List ℕ → List ℕ → Type 0
IsDecoded text b = (decoded_of url_safe_no_pad text ≡ Some b) ⊎ (decoded_of url_safe text ≡ Some b) ⊎ (decoded_of standard_no_pad text ≡ Some b)
    ⊎ (decoded_of standard text ≡ Some b)

decoded_is : (text b : List ℕ) → IsBytes text → IsDecoded text b → IsBase64 text b
decoded_is text b bytes (inl e) = let s = decoded_spells url_safe_no_pad text b (refl, refl) bytes e in record { are_bytes = s.1; spelling = inl s.0 }
decoded_is text b bytes (inr (inl e)) =
    let s = decoded_spells url_safe text b (refl, refl) bytes e in record { are_bytes = s.1; spelling = inr (inl s.0) }
decoded_is text b bytes (inr (inr (inl e))) =
    let s = decoded_spells standard_no_pad text b (refl, refl) bytes e in record { are_bytes = s.1; spelling = inr (inr (inl s.0)) }
decoded_is text b bytes (inr (inr (inr e))) =
    let s = decoded_spells standard text b (refl, refl) bytes e in record { are_bytes = s.1; spelling = inr (inr (inr s.0)) }

decoded_by : (e : GeneralPurpose) (text b : List ℕ) → IsConsistent e → IsBytes b → text ≡ encode_of e b → decoded_of e text ≡ Some b
unfolding decoded_of
decoded_by e text b consistent bytes spelling = rw spelling (rw (decode_of-encode_of e b consistent bytes) refl)

is_decoded : (text b : List ℕ) → IsBase64 text b → IsDecoded text b
is_decoded text b is = elim is.spelling [
  | inl e ↦ inl (decoded_by url_safe_no_pad text b refl is.are_bytes e)
  | inr (inl e) ↦ inr (inl (decoded_by url_safe text b refl is.are_bytes e))
  | inr (inr (inl e)) ↦ inr (inr (inl (decoded_by standard_no_pad text b refl is.are_bytes e)))
  | inr (inr (inr e)) ↦ inr (inr (inr (decoded_by standard text b refl is.are_bytes e)))
]

one_answer : (w x y z : Option (List ℕ)) (b : List ℕ) → (w ≡ Some b) ⊎ (x ≡ Some b) ⊎ (y ≡ Some b) ⊎ (z ≡ Some b) →
    ((c : List ℕ) → (w ≡ Some c) ⊎ (x ≡ Some c) ⊎ (y ≡ Some c) ⊎ (z ≡ Some c) → c ≡ b) → option_or (option_or w x) (option_or y z) ≡ Some b
one_answer (Some c) x y z b some one = ap (λ (l : List ℕ). Some l) (one c (inl refl))
one_answer None (Some c) y z b some one = ap (λ (l : List ℕ). Some l) (one c (inr (inl refl)))
one_answer None None (Some c) z b some one = ap (λ (l : List ℕ). Some l) (one c (inr (inr (inl refl))))
one_answer None None None z b some one = grind arith

decoders_spell : (text b : List ℕ) → IsBytes text → by_decoders text ≡ Some b → IsBase64 text b
unfolding by_decoders
decoders_spell text b bytes found = decoded_is text b bytes (grind arith)

spells_to_decoders : (text b : List ℕ) → IsBytes text → IsBase64 text b → by_decoders text ≡ Some b
unfolding by_decoders
spells_to_decoders text b bytes is = one_answer _ _ _ _ b (is_decoded text b is) (λ c found. spells_one text c b (decoded_is text c bytes found) is)

pub from_base64_is : (text : List ℕ) → IsBytes text → from_base64 text ≡ by_decoders text
unfolding from_base64
from_base64_is text bytes = rw (passes_from_bytes text bytes) refl

pub from_base64_spells : (text b : List ℕ) → from_base64 text ≡ Some b → IsBase64 text b
unfolding from_base64
from_base64_spells text b found = by_test (list_all (λ byte. ltb byte 256) text) refl found
  where
    by_test : (test : Bool) → list_all (λ byte. ltb byte 256) text ≡ test → cond test (by_decoders text) None ≡ Some b → IsBase64 text b
    by_test true passes found = decoders_spell text b (bytes_from_passes text passes) found
    by_test false passes found = absurd cc

pub spells_from_base64 : (text b : List ℕ) → IsBase64 text b → from_base64 text ≡ Some b
spells_from_base64 text b is =
    let bytes : IsBytes text = bytes_from_passes text (spelling_passes (λ byte. ltb byte 256) text b refl refl refl refl is) in
    from_base64_is text bytes ∙ spells_to_decoders text b bytes is

pub wraps_one : (text : List ℕ) (f g : Form) (a b : List ℕ) → Wraps text f a → Wraps text g b → (f ≡ g) × (a ≡ b)
wraps_one text f g a b (inl x) (inl y) = (x.1 ∙ sym y.1, x.2 ∙ sym y.2)
wraps_one text f g a b (inl x) (inr y) = absurd (spelling_brace text b y.0 x.0)
wraps_one text f g a b (inr x) (inl y) = absurd (spelling_brace text a x.0 y.0)
wraps_one text f g a b (inr x) (inr y) =
    let same = spells_one text a b x.0 y.0 in
    let content = sym x.1 ∙ rw (sym same) at y.1 in
    (cc content, same)

abbrev pub Answer : Type 0
Answer = Result (Form × List ℕ) FormFault

decoded_answer : (text : List ℕ) (found : Option (List ℕ)) → ((b : List ℕ) → (found ≡ Some b) ↔ IsBase64 text b) → length text ≤ max_text_len →
    starts_with_brace text ≡ false → IsUnwrapped text (ok_or (option_and_then with_its_form found) Malformed)
decoded_answer text None exact short brace = (short, none)
  where
    none : (form : Form) (b : List ℕ) → Wraps text form b → ⊥
    none form b (inl plain) = cc (plain.0, brace)
    none form b (inr is) = cc ((exact b).1 is.0)
decoded_answer text (Some b) exact short brace = by_form (form_of b) refl
  where
    by_form : (found : Option Form) → form_of b ≡ found → IsUnwrapped text (ok_or (option_map (λ form. (form, b)) found) Malformed)
    by_form None e = (short, none)
      where
        none : (form : Form) (other : List ℕ) → Wraps text form other → ⊥
        none form other (inl plain) = cc (plain.0, brace)
        none form other (inr is) = cc ((exact other).1 is.0, is.1, e)
    by_form (Some form) e = (short, inr ((exact b).0 refl, e))

pub unwrapped_answers : (text : List ℕ) → IsUnwrapped text (unwrapping text)
unfolding unwrapping
unwrapped_answers text = elim (cases_lt max_text_len (length text)) [
  | inl long ↦ rw (lt-ltb max_text_len (length text) long) long
  | inr short ↦ elim (cases_Bool (starts_with_brace text)) [
    | inl brace ↦ rw (le-ltb max_text_len (length text) short, brace) (short, inl (brace, refl, refl))
    | inr brace ↦ rw (le-ltb max_text_len (length text) short, brace)
        (decoded_answer text (from_base64 text) (λ b. (from_base64_spells text b, spells_from_base64 text b)) short brace)
  ]
]

one_unwrapped : (text : List ℕ) (x y : Answer) → IsUnwrapped text x → IsUnwrapped text y → x ≡ y
one_unwrapped text (Ok (f, a)) (Ok (g, b)) left right =
    let same = wraps_one text f g a b left.1 right.1 in
    rw (same.0, same.1) refl
one_unwrapped text (Ok (f, a)) (Err Malformed) left right = absurd (right.1 f a left.1)
one_unwrapped text (Err Malformed) (Ok (g, b)) left right = absurd (left.1 g b right.1)
one_unwrapped text (Err TooLong) (Err TooLong) left right = refl
one_unwrapped text (Err Malformed) (Err Malformed) left right = refl
one_unwrapped text x y left right = first_of (search rules, omega arith)

pub unwrapped_is : (text : List ℕ) (answer : Answer) → (unwrapping text ≡ answer) ↔ IsUnwrapped text answer
unwrapped_is text answer = grind (arith, unwrapped_answers, one_unwrapped)

pub answers_as : (text : List ℕ) (answer : Answer) → answer ≡ unwrapping text → IsUnwrapped text answer
answers_as text answer is = subst (IsUnwrapped text) (sym is) (unwrapped_answers text)
