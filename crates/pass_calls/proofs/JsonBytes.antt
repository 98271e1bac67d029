-- Lemmas for the proof that the strings of a JSON value have at most as many bytes as the JSON
-- text.
use Rattle.json.specs.Json as json
use Rattle.std.proofs.Common.{◌++◌, option_map, ◌≡◌, ℕ, ◌+◌, ◌≤◌, Bool, true, false, cond, ◌&&◌, ◌==◌, List, [], ◌∷◌, length, Option, Some, None}
use Rattle.std.proofs.{Common.{option_and_then, refl, ap, arith, suc, zero, subst}, lemmas.{Bool.{eqb-true, and_parts}, List.length-append}}
use Rattle.std.specs.{Char.{is_digit, encode_utf8}, Cmp.Lexicographic.slice_cmp, Ordering.{nat_cmp, match_ordering}, Prelude.⊤, declared.cmp.Ordering.Ordering}
use Rattle.std.specs.declared.cmp.Ordering.TheVariants.{Equal}
use Rattle.json.specs.{Align.{span, span_byte}, Json.{Json, Parse, parse_map, after_end_array, read_key, items_step, members_step, if_last, items, members}}
use Rattle.json.specs.{Json.{value_with, value}, Lex.{Mode, in_string, in_escape, Class, class, Lexeme, token, comma, colon, between, lex, lex_byte}}
use Rattle.json.specs.Lex.{operator_lexeme, string_token, Place, fresh, after_value, after_comma, after_key, begins_colon, place_token, punctuate, tokens}
use Rattle.json.specs.Text.{code_unit, is_high_surrogate, is_low_surrogate, surrogate_pair, Within, plain, after_backslash, after_u, after_high, prepend}
use Rattle.json.specs.{Text.content, Token.Token, Word.{number_before, word}}
use Rattle.serde_json.specs.{Data.{Data, string, array, object, Items, no_items, item, Members, no_members, member, put}, Find.{get, get_member}}
use Rattle.serde_json.specs.Read.{max_depth, of_items, of_json, of_members, read}

abbrev is_found : Option ℕ → Bool
is_found None = false
is_found (Some u) = true

abbrev pub AtMost : {A : Type 0} → (A → ℕ) → ℕ → Option A → Type 0
AtMost f n None = ⊤
AtMost f n (Some a) = f a ≤ n

pub over : {A : Type 0} (f : A → ℕ) (m n : ℕ) → m ≤ n → (o : Option A) → AtMost f m o → AtMost f n o
over f m n le o x = grind arith

pub under : {A B : Type 0} (f : A → ℕ) (g : B → ℕ) (h : A → B) (extra n m : ℕ) → extra + n ≤ m → ((a : A) → g (h a) ≡ extra + f a) → (o : Option A)
    → AtMost f n o → AtMost g m (option_map h o)
under f g h extra n m le is o x = grind (arith, is)

abbrev mode : Within → Mode
mode plain = in_string
mode after_backslash = in_escape
mode after_u = in_string
mode (after_high h) = in_string

both : (n : ℕ) (b : Bool) (x y : Option (List ℕ)) → (b ≡ true → AtMost length n x) → (b ≡ false → AtMost length n y) → AtMost length n (cond b x y)
both n b x y f g = grind (arith, f, g)

then : (n : ℕ) (f : ℕ → Option (List ℕ)) (o : Option ℕ) → (is_found o ≡ true → (u : ℕ) → AtMost length n (f u)) → AtMost length n (option_and_then f o)
then n f o h = grind (arith, h)

longer : (n m : ℕ) (a : List ℕ) (r : Option (List ℕ)) → AtMost length m r → length a + m ≤ n → AtMost length n (prepend a r)
longer n m a r h le = under length length (λ s. a ++ s) (length a) m n le (length-append a) r h

length-encode : (u : ℕ) → length (encode_utf8 u) ≤ 4
unfolding encode_utf8
length-encode u = grind arith

span_plain : (x : ℕ) (xs : List ℕ) → (x == 34) ≡ false → (x == 92) ≡ false → span in_string (x ∷ xs) ≡ 1 + span in_string xs
unfolding span
span_plain x xs q b = grind arith

span_backslash : (x : ℕ) (xs : List ℕ) → (x == 92) ≡ true → span in_string (x ∷ xs) ≡ 1 + span in_escape xs
unfolding span
span_backslash x xs b = ap (λ y. span in_string (y ∷ xs)) (eqb-true x 92 b)

span_escape : (x : ℕ) (xs : List ℕ) → span in_escape (x ∷ xs) ≡ 1 + span in_string xs
unfolding span
span_escape x xs = refl

span_hex : (x : ℕ) (xs : List ℕ) → is_digit x 16 ≡ true → span in_string (x ∷ xs) ≡ 1 + span in_string xs
span_hex x xs h = span_plain x xs (grind (arith, (eqb-true x 34), eqb-true x 34)) (grind (arith, (eqb-true x 92), eqb-true x 92))

span_unit : (a b c d : ℕ) (xs : List ℕ) → is_found (code_unit a b c d) ≡ true → span in_string (a ∷ b ∷ c ∷ d ∷ xs) ≡ 4 + span in_string xs
unfolding code_unit
span_unit a b c d xs h = grind (arith, span_hex)

pub content-span : (w : Within) (xs : List ℕ) → AtMost length (span (mode w) xs) (content w xs)
unfolding content
content-span plain (x ∷ xs) =
    let n = span in_string (x ∷ xs) in
    let escaped = λ (le : span in_escape xs ≤ n). over length _ n le _ (content-span after_backslash xs) in
    let next = λ (le : 1 + span in_string xs ≤ n). longer n _ (x ∷ []) _ (content-span plain xs) le in
    grind (arith, escaped, next, span_backslash x xs, span_plain x xs)
content-span after_backslash (x ∷ xs) =
    let n = span in_escape (x ∷ xs) in
    let after = over length _ n (omega (arith, span_escape x xs)) _ (content-span after_u xs) in
    let next = λ (c : ℕ). longer n _ (c ∷ []) _ (content-span plain xs) (omega (arith, span_escape x xs)) in
    grind (arith, after, next)
content-span after_u (a ∷ b ∷ c ∷ d ∷ xs) =
    let n = span in_string (a ∷ b ∷ c ∷ d ∷ xs) in
    then n _ (code_unit a b c d) (λ f u. both n (is_high_surrogate u) _ _
    (λ h. over length _ n (omega (arith, span_unit a b c d xs f)) _ (content-span (after_high u) xs))
    (λ h. both n (is_low_surrogate u) _ _ (λ l. tt) (λ l. longer n _ (encode_utf8 u) _ (content-span plain xs)
    (omega (arith, span_unit a b c d xs f, length-encode u)))))
content-span (after_high h) (s ∷ u ∷ a ∷ b ∷ c ∷ d ∷ xs) =
    let n = span in_string (s ∷ u ∷ a ∷ b ∷ c ∷ d ∷ xs) in
    both n ((s == 92) && (u == 117)) _ _ (λ e. then n _ (code_unit a b c d) (λ f l. both n (is_low_surrogate l) _ _
    (λ y. longer n _ (encode_utf8 (surrogate_pair h l)) _ (content-span plain xs)
    (omega (
      arith,
      span_backslash s (u ∷ a ∷ b ∷ c ∷ d ∷ xs) (and_parts _ _ e).0,
      span_escape u (a ∷ b ∷ c ∷ d ∷ xs),
      span_unit a b c d xs f,
      length-encode (surrogate_pair h l),
    ))) (λ y. tt))) (λ e. tt)
content-span w xs = tt

abbrev pub token_bytes : Token → ℕ
token_bytes (Token.key s) = length s
token_bytes (Token.string s) = length s
token_bytes t = 0

abbrev pub tokens_bytes : List Token → ℕ
tokens_bytes [] = 0
tokens_bytes (t ∷ ts) = token_bytes t + tokens_bytes ts

abbrev lexeme_bytes : Lexeme → ℕ
lexeme_bytes (token t) = token_bytes t
lexeme_bytes l = 0

abbrev lexemes_bytes : List Lexeme → ℕ
lexemes_bytes [] = 0
lexemes_bytes (l ∷ ls) = lexeme_bytes l + lexemes_bytes ls

number_bytes : (t : List ℕ) (rest : Option (List ℕ)) → token_bytes (number_before t rest) ≡ 0
number_bytes t rest = grind arith

one_of : (b : Bool) (x y : Token) → token_bytes x ≡ 0 → token_bytes y ≡ 0 → token_bytes (cond b x y) ≡ 0
one_of b x y e f = grind arith

operator_bytes : (x : ℕ) → lexeme_bytes (operator_lexeme x) ≡ 0
operator_bytes x = grind arith

string_bytes : (n : ℕ) (found : Option (List ℕ)) → AtMost length n found → token_bytes (string_token found) ≤ n
string_bytes n found h = grind arith

lex_step : (m : Mode) (c : Class) (x : ℕ) (xs : List ℕ) → ((next : Mode) → lexemes_bytes (lex next xs) + span next xs ≤ length xs)
    → lexemes_bytes (lex_byte m c x xs (λ next. lex next xs)) + span_byte m c (λ next. span next xs) ≤ suc (length xs)
unfolding word
lex_step m c x xs ih = grind (arith, string_bytes, content-span, operator_bytes, one_of, number_bytes)

lexed : (m : Mode) (xs : List ℕ) → lexemes_bytes (lex m xs) + span m xs ≤ length xs
unfolding lex span
lexed m [] = omega arith
lexed m (x ∷ xs) = lex_step m (class x) x xs (λ next. lexed next xs)

placed : (p : Place) (t : Token) (b : Bool) (k : Place → List Token) (n : ℕ) → ((next : Place) → tokens_bytes (k next) ≤ n)
    → tokens_bytes (place_token p t b k) ≤ token_bytes t + n
placed p t b k n h = grind arith

punctuated : (p : Place) (ls : List Lexeme) → tokens_bytes (punctuate p ls) ≤ lexemes_bytes ls
unfolding punctuate
punctuated p (token t ∷ ls) = placed p t (begins_colon ls) (λ next. punctuate next ls) (lexemes_bytes ls) (λ next. punctuated next ls)
punctuated after_value (comma ∷ ls) = omega (arith, punctuated after_comma ls)
punctuated after_key (colon ∷ ls) = omega (arith, punctuated fresh ls)
punctuated p ls = grind arith

pub tokens_fit : (text : List ℕ) → tokens_bytes (tokens text) ≤ length text
tokens_fit text = omega (arith, punctuated fresh (lex between text), lexed between text)

abbrev mutual
  json_bytes : Json → ℕ
  json_bytes (json.string s) = length s
  json_bytes (json.array js) = json_items_bytes js
  json_bytes (json.object ms) = json_members_bytes ms
  json_bytes j = 0

  json_items_bytes : json.Items → ℕ
  json_items_bytes json.no_items = 0
  json_items_bytes (json.item j js) = json_bytes j + json_items_bytes js

  json_members_bytes : json.Members → ℕ
  json_members_bytes json.no_members = 0
  json_members_bytes (json.member k j ms) = json_bytes j + json_members_bytes ms

-- The bytes of a parsed value and of the tokens that follow the value.
abbrev with_rest : {A : Type 0} → (A → ℕ) → A × List Token → ℕ
with_rest f p = f p.0 + tokens_bytes p.1

abbrev Uses : {A : Type 0} → (A → ℕ) → Parse A → Type 0
Uses f p = (ts : List Token) → AtMost (with_rest f) (tokens_bytes ts) (p ts)

mapped : {A B : Type 0} (f : A → ℕ) (g : B → ℕ) (h : A → B) (extra m n : ℕ) → extra + m ≤ n → ((a : A) → g (h a) ≡ extra + f a)
    → (o : Option (A × List Token)) → AtMost (with_rest f) m o → AtMost (with_rest g) n (parse_map h o)
mapped f g h extra m n le is = under (with_rest f) (with_rest g) (λ p. (h p.0, p.1)) extra m n le (λ p. omega (arith, is p.0))

and_more : {B : Type 0} (g : B → ℕ) (h : Json → B → B) → ((j : Json) (b : B) → g (h j b) ≡ json_bytes j + g b) → (more : Parse B) → Uses g more
    → (n : ℕ) (o : Option (Json × List Token)) → AtMost (with_rest json_bytes) n o
    → AtMost (with_rest g) n (option_and_then (λ q. parse_map (h q.0) (more q.1)) o)
and_more g h is more uses n None x = tt
and_more g h is more uses n (Some q) x = mapped g g (h q.0) (json_bytes q.0) (tokens_bytes q.1) n x (is q.0) (more q.1) (uses q.1)

key_begins : (ts : List Token) → AtMost (λ q. tokens_bytes q.1) (tokens_bytes ts) (read_key ts)
key_begins ts = grind arith

module _ (p : Parse Json) (uses : Uses json_bytes p) where
  item_turn : (more : Parse json.Items) → Uses json_items_bytes more → (ts : List Token) (o : Option (List Token)) → AtMost tokens_bytes (tokens_bytes ts) o
      → AtMost (with_rest json_items_bytes) (tokens_bytes ts) (items_step p more ts o)
  item_turn more again ts (Some r) e = omega arith
  item_turn more again ts None e = and_more json_items_bytes json.item (λ j b. refl) more again _ (p ts) (uses ts)

  items_use : (n : ℕ) → Uses json_items_bytes (items p n)
  unfolding items
  items_use zero ts = tt
  items_use (suc n) ts = item_turn (items p n) (items_use n) ts (after_end_array ts) (grind arith)

  member_turn : (more : Parse json.Members) → Uses json_members_bytes more → (n : ℕ) (o : Option (Option (List ℕ) × List Token))
      → AtMost (λ q. tokens_bytes q.1) n o → AtMost (with_rest json_members_bytes) n (option_and_then (λ q. members_step p more q.0 q.1) o)
  member_turn more again n o e = grind (arith, and_more, json_members_bytes, over, tokens_bytes)

  members_use : (n : ℕ) → Uses json_members_bytes (members p n)
  unfolding members
  members_use zero ts = tt
  members_use (suc n) ts = member_turn (members p n) (members_use n) _ (read_key ts) (key_begins ts)

one_level : (a : Parse json.Items) (o : Parse json.Members) → Uses json_items_bytes a → Uses json_members_bytes o → Uses json_bytes (value_with a o)
one_level a o p q = grind arith

value_uses : (depth : ℕ) → Uses json_bytes (value depth)
unfolding value
value_uses zero = one_level (λ ts. None) (λ ts. None) (λ ts. tt) (λ ts. tt)
value_uses (suc d) =
    one_level (λ ts. items (value d) (length ts) ts) (λ ts. members (value d) (length ts) ts) (λ ts. items_use (value d) (value_uses d) (length ts) ts)
    (λ ts. members_use (value d) (value_uses d) (length ts) ts)

abbrev mutual
  pub data_bytes : Data → ℕ
  data_bytes (string s) = length s
  data_bytes (array ds) = items_bytes ds
  data_bytes (object ms) = members_bytes ms
  data_bytes d = 0

  pub items_bytes : Items → ℕ
  items_bytes no_items = 0
  items_bytes (item d ds) = data_bytes d + items_bytes ds

  pub members_bytes : Members → ℕ
  members_bytes no_members = 0
  members_bytes (member k d ms) = data_bytes d + members_bytes ms

put_bytes : (k : List ℕ) (d : Data) (ms : Members) → members_bytes (put k d ms) ≤ data_bytes d + members_bytes ms
put_bytes k d no_members = omega arith
put_bytes k d (member l e ms) = grind (arith, put_bytes k d ms)

one_member : (k : List ℕ) (ms : json.Members) (found : Members) (m n : ℕ) (o : Option Data) → AtMost data_bytes m o
    → ((all : Members) → AtMost members_bytes (n + members_bytes all) (of_members ms all))
    → AtMost members_bytes (m + n + members_bytes found) (option_and_then (λ d. of_members ms (put k d found)) o)
one_member k ms found m n o x h = grind (arith, over, members_bytes, put_bytes)

mutual
  json_fits : (j : Json) → AtMost data_bytes (json_bytes j) (of_json j)
  json_fits (json.array js) = grind (arith, items_fit js)
  json_fits (json.object ms) = grind (arith, members_fit ms no_members)
  json_fits j = grind arith

  items_fit : (js : json.Items) → AtMost items_bytes (json_items_bytes js) (of_items js)
  items_fit json.no_items = omega arith
  items_fit (json.item j js) = grind (arith, json_fits j, items_fit js)

  members_fit : (ms : json.Members) (found : Members) → AtMost members_bytes (json_members_bytes ms + members_bytes found) (of_members ms found)
  members_fit json.no_members found = omega arith
  members_fit (json.member k j ms) found = one_member k ms found (json_bytes j) (json_members_bytes ms) (of_json j) (json_fits j) (members_fit ms)

last_fits : (n : ℕ) (o : Option (Json × List Token)) → AtMost (with_rest json_bytes) n o → AtMost json_bytes n (option_and_then (λ p. if_last p.0 p.1) o)
last_fits n o x = grind arith

all_fit : (n : ℕ) (o : Option Json) → AtMost json_bytes n o → AtMost data_bytes n (option_and_then of_json o)
all_fit n None x = tt
all_fit n (Some j) x = over data_bytes (json_bytes j) n x (of_json j) (json_fits j)

pub read_fits : (text : List ℕ) (found : Data) → read text ≡ Some found → data_bytes found ≤ length text
read_fits text found is =
    let fits = all_fit _ _ (last_fits _ (value max_depth (tokens text)) (value_uses max_depth (tokens text))) in
    omega (arith, tokens_fit text, subst (AtMost data_bytes (tokens_bytes (tokens text))) is fits)

abbrev pub found_bytes : Option Data → ℕ
found_bytes None = 0
found_bytes (Some d) = data_bytes d

-- The total length in bytes of the strings in the named member's value, or 0 if there is no such
-- member.
abbrev pub bytes_at : List ℕ → Data → ℕ
bytes_at k value = found_bytes (get k value)

-- The two names are different.
abbrev pub Apart : List ℕ → List ℕ → Type 0
Apart k l = (name : List ℕ) → slice_cmp nat_cmp k name ≡ Equal → slice_cmp nat_cmp l name ≡ Equal → ⊥

pub one_name : (k : List ℕ) (ms : Members) → found_bytes (get_member k ms) ≤ members_bytes ms
one_name k no_members = omega arith
one_name k (member l e ms) = grind (arith, one_name k ms)

one_here : (a b c : Ordering) (e : Data) (x y z : Option Data) → (a ≡ Equal → b ≡ Equal → ⊥) → (a ≡ Equal → c ≡ Equal → ⊥)
    → (b ≡ Equal → c ≡ Equal → ⊥) → found_bytes (match_ordering a x (Some e) x) + found_bytes (match_ordering b y (Some e) y)
    + found_bytes (match_ordering c z (Some e) z) ≤ data_bytes e + (found_bytes x + found_bytes y + found_bytes z)
one_here a b c e x y z ab ac bc = grind arith

module _ (k l m : List ℕ) (kl : Apart k l) (km : Apart k m) (lm : Apart l m) where
  pub three_names : (ms : Members) → found_bytes (get_member k ms) + found_bytes (get_member l ms) + found_bytes (get_member m ms) ≤ members_bytes ms
  three_names no_members = omega arith
  three_names (member name e ms) =
      omega (
        arith,
        three_names ms,
        one_here (slice_cmp nat_cmp k name) (slice_cmp nat_cmp l name) (slice_cmp nat_cmp m name) e (get_member k ms) (get_member l ms) (get_member m ms)
            (kl name) (km name) (lm name),
      )

  pub three_values : (value : Data) → bytes_at k value + bytes_at l value + bytes_at m value ≤ data_bytes value
  three_values value = grind (arith, three_names)

pub one_value : (k : List ℕ) (value : Data) → bytes_at k value ≤ data_bytes value
one_value k value = grind (arith, one_name)
