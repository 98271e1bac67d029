-- Lemmas for the proof that the readers recover each written V1 packet, varint and V2 field.
use Rattle.std.proofs.{Common.{leb, ◌&&◌, ◌^◌, codes, ◌*◌, ◌%◌, inl, inr}, Math.Seq.take-append-add, lemmas.Bool.{and_parts, leb-true, cases_lt}}
use Rattle.std.proofs.lemmas.{List.{drop-take, drop_at, take-take, take_at, length-drop, length-take, take-append-drop}, Option.{cond_some, some_pair_parts}}
use Rattle.std.proofs.lemmas.{Option.same_Some, Slice.Eq.bytes_eq-Decides}
use Rattle.pass_forms.proofs.Common.{List, None, Some, [], ap, drop, length, refl, sym, take, ℕ, ◌++◌, ◌+◌, ◌-◌, ◌<◌, ◌∙◌, ◌∷◌, ◌≡◌, ◌≤◌, FitsPacket}
use Rattle.pass_forms.proofs.Common.{append_assoc, arith, Option, length-append, packet, common_steps, nat_tests, ◌/◌, lt-ltb, le-ltb, zero, suc, field}
use Rattle.pass_forms.specs.{V2.{groups, varint}, computed.{Parts.{after_prefix, before_suffix, ◌>>=◌}, V2Reading.{above, varint_up_to, field_at, optional_at}}}
use Rattle.pass_forms.{proofs.Common.optional_field, specs.{V1.{four_hex_digits, packet_len, hex_digit}, computed.V1Reading.{digit_value, len_at, packet_at}}}

-- The keys of V1's packets.
abbrev pub location_key : List ℕ
location_key = codes "location "

abbrev pub identifier_key : List ℕ
identifier_key = codes "identifier "

abbrev pub caveat_key : List ℕ
caveat_key = codes "cid "

abbrev pub verifier_id_key : List ℕ
verifier_id_key = codes "vid "

abbrev pub caveat_location_key : List ℕ
caveat_location_key = codes "cl "

abbrev pub signature_key : List ℕ
signature_key = codes "signature "

digit_takes : (byte n : ℕ) → digit_value byte ≡ Some n → (n < 16) × (byte ≡ hex_digit n)
digit_takes byte n h = grind (arith, nat_tests)

abbrev value : ℕ → ℕ → ℕ → ℕ → ℕ
value x y z w = x * 4096 + y * 256 + z * 16 + w

pub bind_some : {A B : Type 0} (o : Option A) (f : A → Option B) (y : B) → (o >>= f) ≡ Some y → (x : A) × (o ≡ Some x) × (f x ≡ Some y)
bind_some o f y e = grind arith

joined : (a b c d x y z w n : ℕ) (rest : List ℕ) → (x < 16) × (a ≡ hex_digit x) → (y < 16) × (b ≡ hex_digit y) → (z < 16) × (c ≡ hex_digit z) →
    (w < 16) × (d ≡ hex_digit w) → value x y z w ≡ n → (n < 2 ^ 16) × (a ∷ b ∷ c ∷ d ∷ rest ≡ four_hex_digits n ++ rest)
joined a b c d x y z w n rest ha hb hc hd is_n = grind arith

len_takes : (bytes : List ℕ) (n : ℕ) → len_at bytes ≡ Some n → (n < 2 ^ 16) × (rest : List ℕ) × (bytes ≡ four_hex_digits n ++ rest)
len_takes (a ∷ b ∷ c ∷ d ∷ rest) n e =
    let x = bind_some _ _ n e in
    let y = bind_some _ _ n x.2 in
    let z = bind_some _ _ n y.2 in
    let w = bind_some _ _ n z.2 in
    let tx = digit_takes a x.0 x.1 in
    let ty = digit_takes b y.0 y.1 in
    let tz = digit_takes c z.0 z.1 in
    let tw = digit_takes d w.0 w.1 in
    let j = joined a b c d x.0 y.0 z.0 w.0 n rest tx ty tz tw (same_Some (value x.0 y.0 z.0 w.0) n w.2) in
    (j.0, rest, j.1)
len_takes bytes n e = absurd cc

len_again : (n : ℕ) (rest : List ℕ) → n < 2 ^ 16 → len_at (four_hex_digits n ++ rest) ≡ Some n
len_again n rest h = grind (arith, nat_tests)

pub after_prefix_takes : (prefix bytes rest : List ℕ) → after_prefix prefix bytes ≡ Some rest → bytes ≡ prefix ++ rest
after_prefix_takes prefix bytes rest e = grind (arith, common_steps, take-append-drop, bytes_eq-Decides)

before_suffix_takes : (suffix bytes front : List ℕ) → before_suffix suffix bytes ≡ Some front → bytes ≡ front ++ suffix
before_suffix_takes suffix bytes front e = grind (arith, common_steps, take-append-drop, bytes_eq-Decides)

framed : (bytes more key text : List ℕ) (n : ℕ) → n < 2 ^ 16 → bytes ≡ four_hex_digits n ++ more → n ≤ length bytes →
    drop 4 (take n bytes) ≡ key ++ (text ++ 10 ∷ []) → (bytes ≡ packet key text ++ drop n bytes) × FitsPacket key text
framed bytes more key text n fits begins within body =
    let whole = take n bytes in
    let whole_len : length whole ≡ n = omega (arith, length-take n bytes) in
    let body_len : length (drop 4 whole) ≡ length key + (length text + 1) =
    ap length body ∙ omega (arith, length-append key (text ++ 10 ∷ []), length-append text (10 ∷ [])) in
    let long : 4 ≤ n = omega (arith, length-drop 4 whole) in
    let is_n : packet_len key text ≡ n = omega (arith, length-drop 4 whole) in
    let digits : take 4 whole ≡ four_hex_digits n = take-take 4 n bytes long ∙ ap (take 4) begins ∙ take_at (four_hex_digits n) more 4 refl in
    let split : whole ≡ packet key text = sym (take-append-drop 4 whole) ∙ ap (λ (x : List ℕ). x ++ drop 4 whole) (digits ∙ ap four_hex_digits (sym is_n)) ∙ ap
    (λ (x : List ℕ). four_hex_digits (packet_len key text) ++ x) body in
    (sym (take-append-drop n bytes) ∙ ap (λ (x : List ℕ). x ++ drop n bytes) split, omega arith)

pub packet_takes : (key bytes text rest : List ℕ) → packet_at key bytes ≡ Some (text, rest) → (bytes ≡ packet key text ++ rest) × FitsPacket key text
unfolding packet_at
packet_takes key bytes text rest e =
    let behind = bind_some _ _ (text, rest) e in
    let body = bind_some _ _ (text, rest) behind.2 in
    let len = bind_some _ _ (text, rest) body.2 in
    let n = len.0 in
    let content = bind_some _ _ (text, rest) len.2 in
    let found = bind_some _ _ (text, rest) content.2 in
    let same = some_pair_parts found.0 text (drop n bytes) rest found.2 in
    let digits = len_takes bytes n len.1 in
    let m = n - (4 + length key) in
    let cut = cond_some (leb (4 + length key) n && leb n (length bytes)) (take m body.0) content.0 content.1 in
    let tests = and_parts (leb (4 + length key) n) (leb n (length bytes)) cut.0 in
    let is_len : n ≡ 4 + (length key + m) = omega (arith, leb-true (4 + length key) n tests.0) in
    let leads : drop 4 bytes ≡ key ++ body.0 =
    (cond_some (leb 4 (length bytes)) (drop 4 bytes) behind.0 behind.1).1 ∙ after_prefix_takes key behind.0 body.0 body.1 in
    let is_body : drop 4 (take n bytes) ≡ key ++ (text ++ 10 ∷ []) =
    ap (λ (x : ℕ). drop 4 (take x bytes)) is_len ∙ drop-take 4 (length key + m) bytes ∙ ap (take (length key + m)) leads ∙ take-append-add key body.0 m
    ∙ ap (λ (x : List ℕ). key ++ x) (cut.1 ∙ before_suffix_takes (10 ∷ []) content.0 found.0 found.1 ∙ ap (λ (x : List ℕ). x ++ 10 ∷ []) same.0) in
    let parts = framed bytes digits.1 key text n digits.0 digits.2 (leb-true n (length bytes) tests.1) is_body in
    (parts.0 ∙ ap (λ (x : List ℕ). packet key text ++ x) same.1, parts.1)

pub length-packet : (key text : List ℕ) → length (packet key text) ≡ packet_len key text
length-packet key text = grind (arith, common_steps)

packet_by : (key text rest bytes : List ℕ) (n : ℕ) → n ≡ packet_len key text → n ≤ length bytes → len_at bytes ≡ Some n →
    drop 4 bytes ≡ key ++ ((text ++ 10 ∷ []) ++ rest) → drop n bytes ≡ rest → packet_at key bytes ≡ Some (text, rest)
unfolding packet_at
packet_by key text rest bytes n is_len inside read behind back = grind (arith, common_steps, bytes_eq-Decides)

pub packet_again : (key text rest : List ℕ) → FitsPacket key text → packet_at key (packet key text ++ rest) ≡ Some (text, rest)
packet_again key text rest fits =
    let bytes = packet key text ++ rest in
    let body = key ++ (text ++ 10 ∷ []) in
    let n = packet_len key text in
    let read : len_at bytes ≡ Some n = ap len_at (append_assoc (four_hex_digits n) body rest) ∙ len_again n (body ++ rest) fits in
    packet_by key text rest bytes n refl (omega (arith, length-append (packet key text) rest, length-packet key text)) read (grind (arith, common_steps))
    (drop_at (packet key text) rest n (length-packet key text))

pub packet_other : (key other text rest : List ℕ) → ((tail : List ℕ) → after_prefix key (other ++ tail) ≡ None) →
    packet_at key (packet other text ++ rest) ≡ None
unfolding packet_at
packet_other key other text rest differs = grind (arith, common_steps, differs)

pub varint_more : (most byte : ℕ) (rest : List ℕ) → byte ≤ most → 128 ≤ byte → byte < 256 →
    varint_up_to most (byte ∷ rest) ≡ above most (byte - 128) (varint_up_to (most / 128) rest)
unfolding varint_up_to
varint_more most byte rest within low top = rw (le-ltb most byte within, le-ltb byte 128 low, lt-ltb byte 256 top) refl

pub varint_last : (most byte : ℕ) (rest : List ℕ) → byte ≤ most → byte < 128 → varint_up_to most (byte ∷ rest) ≡ Some (byte, rest)
unfolding varint_up_to
varint_last most byte rest within low = rw (le-ltb most byte within, lt-ltb byte 128 low) refl

above_parts : (most low high : ℕ) (after : List ℕ) (n : ℕ) (rest : List ℕ) → above most low (Some (high, after)) ≡ Some (n, rest) →
    (0 < high) × (n ≡ low + 128 * high) × (after ≡ rest)
above_parts most low high after n rest e = grind (arith, nat_tests)

pub above_some : (most low : ℕ) (tail : Option (ℕ × List ℕ)) (n : ℕ) (rest : List ℕ) → above most low tail ≡ Some (n, rest) →
    (high : ℕ) × (tail ≡ Some (high, rest)) × (0 < high) × (n ≡ low + 128 * high)
above_some most low None n rest e = absurd cc
above_some most low (Some (high, after)) n rest e =
    let parts = above_parts most low high after n rest e in
    (high, rw parts.2 refl, parts.0, parts.1)

pub no_bytes : (most : ℕ) (bytes : List ℕ) → length bytes ≡ 0 → varint_up_to most bytes ≡ None
unfolding varint_up_to
no_bytes most bytes len = grind (arith, common_steps)

groups_enough : (more n : ℕ) → n < 128 → groups more n ≡ n ∷ []
unfolding groups
groups_enough more n small = grind (arith, nat_tests)

groups_more : (more n : ℕ) → 128 ≤ n → groups (suc more) n ≡ (128 + n % 128) ∷ groups more (n / 128)
unfolding groups
groups_more more n large = rw (le-ltb n 128 large) refl

groups_same : (more less n : ℕ) → n ≤ more → n ≤ less → groups more n ≡ groups less n
groups_same (suc more) (suc less) n m l = grind (arith, groups_enough, groups_more, groups_same more less (n / 128) (omega arith) (omega arith))
groups_same more less n m l = groups_enough more n (omega arith) ∙ sym (groups_enough less n (omega arith))

varint_large : (n : ℕ) → 128 ≤ n → varint n ≡ (128 + n % 128) ∷ varint (n / 128)
unfolding varint
varint_large zero large = absurd (omega arith)
varint_large (suc m) large = groups_more m (suc m) large
    ∙ ap (λ (x : List ℕ). (128 + suc m % 128) ∷ x) (groups_same m (suc m / 128) (suc m / 128) (omega arith) (omega arith))

pub varint_small : (n : ℕ) → n < 128 → varint n ≡ n ∷ []
unfolding varint
varint_small n small = groups_enough n n small

pub varint_of_two : (n : ℕ) → 128 ≤ n → n < 2 ^ 14 → varint n ≡ (128 + n % 128) ∷ n / 128 ∷ []
varint_of_two n large small = grind (arith, varint_large, varint_small)

last_takes : (byte : ℕ) (bytes : List ℕ) (n : ℕ) (rest : List ℕ) → byte < 128 → ◌≡◌ {A = Option (ℕ × List ℕ)} (Some (byte, bytes)) (Some (n, rest)) →
    byte ∷ bytes ≡ varint n ++ rest
last_takes byte bytes n rest small e = grind (arith, common_steps, varint_small)

varint_takes : (most : ℕ) (bytes : List ℕ) (n : ℕ) (rest : List ℕ) → varint_up_to most bytes ≡ Some (n, rest) → bytes ≡ varint n ++ rest
unfolding varint_up_to
varint_takes most [] n rest e = absurd cc
varint_takes most (byte ∷ bytes) n rest e = elim (cases_lt most byte) [
  | inl big ↦ cc (rw (lt-ltb most byte big) at e)
  | inr within ↦ elim (cases_lt byte 128) [
    | inl small ↦ last_takes byte bytes n rest small (sym (varint_last most byte bytes within small) ∙ e)
    | inr low ↦ elim (cases_lt byte 256) [
      | inr large ↦ cc (rw (le-ltb most byte within, le-ltb byte 128 low, le-ltb byte 256 large) at e)
      | inl top ↦
          let more = above_some most (byte - 128) (varint_up_to (most / 128) bytes) n rest (sym (varint_more most byte bytes within low top) ∙ e) in
          grind (arith, common_steps, varint_large, varint_takes (most / 128) bytes more.0 rest more.1)
    ]
  ]
]

large_again : (most n : ℕ) (rest : List ℕ) → 128 ≤ n → n ≤ most → varint_up_to (most / 128) (varint (n / 128) ++ rest) ≡ Some (n / 128, rest) →
    varint_up_to most (varint n ++ rest) ≡ Some (n, rest)
large_again most n rest large within others = grind (arith, nat_tests, common_steps, varint_large, varint_more)

small_again : (most n : ℕ) (rest : List ℕ) → n < 128 → n ≤ most → varint_up_to most (varint n ++ rest) ≡ Some (n, rest)
small_again most n rest small within = grind (arith, common_steps, varint_small, varint_last)

again_below : (bound most n : ℕ) (rest : List ℕ) → n ≤ bound → n ≤ most → varint_up_to most (varint n ++ rest) ≡ Some (n, rest)
again_below zero most n rest b within = small_again most n rest (omega arith) within
again_below (suc bound) most n rest b within =
    grind (arith, small_again, large_again, again_below bound (most / 128) (n / 128) rest (omega arith) (omega arith))

varint_again : (n : ℕ) (rest : List ℕ) → n ≤ length (varint n ++ rest) → varint_up_to (length (varint n ++ rest)) (varint n ++ rest) ≡ Some (n, rest)
varint_again n rest within = again_below n (length (varint n ++ rest)) n rest (omega arith) within

pub field_takes : (type : ℕ) (bytes text rest : List ℕ) → field_at type bytes ≡ Some (text, rest) → bytes ≡ field type text ++ rest
unfolding field_at
field_takes type bytes text rest e = grind (arith, common_steps, after_prefix_takes, varint_takes, take-append-drop)

pub field_again : (type : ℕ) (text rest : List ℕ) → field_at type (field type text ++ rest) ≡ Some (text, rest)
unfolding field_at
field_again type text rest = grind (arith, common_steps, bytes_eq-Decides, varint_again)

pub optional_takes : (type : ℕ) (bytes : List ℕ) → bytes ≡ optional_field type (optional_at type bytes).0 ++ (optional_at type bytes).1
optional_takes type bytes = grind (arith, field_takes type bytes)

pub optional_again : (type : ℕ) (text : Option (List ℕ)) (rest : List ℕ) → field_at type rest ≡ None →
    optional_at type (optional_field type text ++ rest) ≡ (text, rest)
optional_again type text rest none = grind (arith, field_again)
