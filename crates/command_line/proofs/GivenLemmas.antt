-- Lemmas about the rows that clap collects for arguments, about clap's search for an argument by
-- name, and about clap's walk over the arguments of a command.
use Rattle.std.proofs.Common.{Bool, List, Some, [], ap, append_assoc, arith, false, is_some, map, not, refl, sym, true, ℕ, ◌&&◌, ◌++◌, ◌==◌, ◌∙◌, ◌∷◌, ◌≡◌}
use Rattle.std.proofs.{Common.{find, unwrap_or, None, Option, fold, ap₂, codes, cond, inl, inr, subst}, lemmas.Bool.{and_parts, cases_Bool, Decides.nat_tests}}
use Rattle.std.{proofs.lemmas.{Grind.common_steps, List.append-nil, Slice.Eq.bytes_eq-Decides}, specs.{List.list_any, Option.option_map_or, Str.bytes_eq}}
use Rattle.clap.{proofs.{CutLemmas.Lacks, LexerLemmas.{name_and_value-at, name_and_value-without}, SimpleLemmas.is_false}, specs.Faults.check_fault}
use Rattle.clap.specs.{Faults.{defaults_fault, flag_word_fault, level_fault, settle_fault, step_fault, turn_fault, walk_fault}, Kinds.{Kinds, or_else}}
use Rattle.clap.specs.{Lexer.{long_of, strip_byte}, Simple.{filled, filled_from, index_after, with_index, wants_index}, Walk.{arg_by_id, arg_by_index}}
use Rattle.clap.specs.Walk.{arg_by_long, at_row, has_long, has_row, Held, Waiting, Walk, after_step, finished, idle, is_multiple, long_or_other, next_position}
use Rattle.clap.specs.Walk.{nothing_held, option, positional, rows_after, settled, takes_several, walk_from, walked, more_values, without, with_default}
use Rattle.clap.specs.{Words.{Row as Found, Rule, Text, Shape}, declared.parser.matches.ValueSource.TheVariants.CommandLine}
use Rattle.command_line.specs.{Application.{positionals_named, option_named}, Given.{Given, rule_given, row_given, are_apart, option_given, flag_given}}
use Rattle.command_line.specs.Given.{positional_given, positionals_given, left_out, options_spelled, AreSpelled, option_rows, positional_rows, rows_given}
use Rattle.command_line.specs.Given.{are_new, are_options_named, is_in_order, has_no_positionals, positionals_spelled, end_fault}

pub same_text : (text : Text) → bytes_eq text text ≡ true
same_text text = (bytes_eq-Decides text text).1 refl

past : (id : Text) (change : Found → List Found) (missing before tail : List Found) → has_row id before ≡ false
    → at_row id change missing (before ++ tail) ≡ before ++ at_row id change missing tail
past id change missing [] tail new = refl
past id change missing (row ∷ before) tail new = grind (arith, past id change missing before tail)

pub added : (name : Text) (values : List Text) (rows : List Found) → has_row name rows ≡ false
    → at_row name (more_values CommandLine values) (row_given name values ∷ []) rows ≡ rows ++ row_given name values ∷ []
added name values rows new = ap (at_row name (more_values CommandLine values) (row_given name values ∷ [])) (sym (append-nil rows))
    ∙ past name (more_values CommandLine values) (row_given name values ∷ []) rows [] new

untouched : (name : Text) (rows : List Found) → has_row name rows ≡ false → without name rows ≡ rows
untouched name rows new = ap (at_row name (λ _. []) []) (sym (append-nil rows)) ∙ (past name (λ _. []) [] rows [] new ∙ append-nil rows)

pub set_row : (name : Text) (values : List Text) (rows : List Found) → has_row name rows ≡ false
    → at_row name (more_values CommandLine values) (row_given name values ∷ []) (without name rows) ≡ rows ++ row_given name values ∷ []
set_row name values rows new =
    ap (at_row name (more_values CommandLine values) (row_given name values ∷ [])) (untouched name rows new) ∙ added name values rows new

find_there : {X : Type 0} (test : X → Bool) (before : List X) (x : X) (after : List X) → list_any test before ≡ false → test x ≡ true
    → find test (before ++ x ∷ after) ≡ Some x
find_there test [] x after none is = rw is refl
find_there test (y ∷ before) x after none is = grind (arith, find_there test before x after)

pub record IsFound (rules : List Rule) (rule : Rule) : Type 0 where
  pub by_id : arg_by_id rules rule.id ≡ Some rule
  pub by_name : (not (is_some rule.index) && has_long rule rule.id) ≡ true → arg_by_long rules rule.id ≡ Some rule
  pub by_place : option_map_or (λ place. place == unwrap_or rule.index 0) rule.index false ≡ true → arg_by_index rules (unwrap_or rule.index 0) ≡ Some rule

unfoldable pub AreFound : List Rule → ℕ → List Given → Type 0
AreFound rules i [] = Unit {0}
AreFound rules i (one ∷ given) = IsFound rules (with_index i (filled (rule_given one))) × AreFound rules (index_after i (rule_given one)) given

pub all_found : (rules before : List Rule) (i : ℕ) (given : List Given) (others : List Rule) → rules ≡ before ++ filled_from i (map rule_given given ++ others)
    → are_apart before (filled_from i (map rule_given given ++ others)) ≡ true → AreFound rules i given
unfolding AreFound
all_found rules before i [] others same apart = tt
all_found rules before i (one ∷ given) others same apart =
    let rule = with_index i (filled (rule_given one)) in
    let rest = filled_from (index_after i (rule_given one)) (map rule_given given ++ others) in
    let parts = and_parts _ _ apart in
    let here = and_parts _ _ parts.0 in
    let ways = and_parts _ _ here.1 in (
      record {
        by_id = ap (find (λ other. bytes_eq other.id rule.id)) same ∙ find_there _ before rule rest (is_false _ here.0) (same_text rule.id);
        by_name = λ is. ap (find (λ other. not (is_some other.index) && has_long other rule.id)) same ∙ find_there _ before rule rest (is_false _ ways.0) is;
        by_place = λ is. ap (find (λ other. option_map_or (λ place. place == unwrap_or rule.index 0) other.index false)) same
            ∙ find_there _ before rule rest (is_false _ ways.1) is;
      },
      all_found rules (before ++ rule ∷ []) (index_after i (rule_given one)) given others (same ∙ sym (append_assoc before (rule ∷ []) rest)) parts.1,
    )

lacks : (name : Text) → not (list_any (λ byte. byte == 61) name) ≡ true → Lacks 61 name
lacks name without i within is = grind (arith, common_steps, nat_tests)

long_with : (first : ℕ) (name value : Text) → not (list_any (λ byte. byte == 61) (first ∷ name)) ≡ true
    → long_of (codes "--" ++ (first ∷ name ++ 61 ∷ value)) ≡ Some (first ∷ name, Some value)
long_with first name value named = ap (λ parts. Some parts) (name_and_value-at (first ∷ name) value (lacks (first ∷ name) named))

long_alone : (first : ℕ) (name : Text) → not (list_any (λ byte. byte == 61) (first ∷ name)) ≡ true
    → long_of (codes "--" ++ (first ∷ name)) ≡ Some (first ∷ name, None)
long_alone first name named = ap (λ parts. Some parts) (name_and_value-without (first ∷ name) (lacks (first ∷ name) named))

-- The state of a walk with the given rows and the given pending argument.
abbrev held_with : List Found → Option (Text × List Text) → Held
held_with rows pending = record { rows = rows; pending = pending; skip = 0 }

-- The state of clap's walk between two options.
abbrev at_option : List Found → Option (Text × List Text) → Walk
at_option rows pending = record (walk_from nothing_held) { held = held_with rows pending }

-- The state of clap's walk after `--`. The next text belongs to the positional argument at the
-- given position.
abbrev at_place : List Found → Option (Text × List Text) → Waiting → ℕ → Walk
at_place rows pending waiting place = record {
  held = held_with rows pending;
  waiting = waiting;
  position = place;
  is_trailing = true;
  stopped = None;
}

none_spelled : (given : List Given) → has_no_positionals given ≡ true → (positionals_spelled given ≡ []) × (positional_rows given ≡ [])
none_spelled [] none = (refl, refl)
none_spelled (positional_given required name value ∷ given) none = cc
none_spelled (positionals_given required name first more ∷ given) none = cc
none_spelled (_ ∷ given) none = none_spelled given none

module _ (s : Shape) where
  abbrev again : Bool
  again = s.args_override_self

  IsStep : Walk → Text → Walk → Type 0
  IsStep w argument next = (walked s.rules [] w argument ≡ next) × (turn_fault s [] w argument ≡ [])

  -- Clap can store the values of the pending argument, and clap's rows are then `now`.
  abbrev Holds : Held → List Found → Type 0
  Holds held now = ((settled s.rules held).rows ≡ now) × (settle_fault s.rules again held ≡ [])

  -- Clap's walk over the arguments succeeds and ends with the rows `now`.
  Settles : Walk → List Text → List Found → Type 0
  Settles w arguments now = (end : Walk) × (fold (walked s.rules []) w arguments ≡ end) × (walk_fault s [] w arguments ≡ []) × Holds end.held now

  step_on : (w next : Walk) (argument : Text) (arguments : List Text) (rows : List Found) → IsStep w argument next → Settles next arguments rows
      → Settles w (argument ∷ arguments) rows
  unfolding IsStep Settles walk_fault
  step_on w next argument arguments rows is on = grind arith

  stands : (w : Walk) (arguments : List Text) (now : List Found) → arguments ≡ [] → Holds w.held now → Settles w arguments now
  unfolding Settles walk_fault
  stands w arguments now none holds = rw none (w, refl, refl, holds)

  -- The state of clap's walk after an argument that looks like a long option.
  abbrev after_long : Text → Held → Option (Text × Option Text) → Walk
  after_long argument held long =
      let met = long_or_other s.rules idle argument long held in after_step s.rules argument (record (walk_from nothing_held) { held = held }) met.0 met.1

  abbrev long_fails : Text → Held → Option (Text × Option Text) → Kinds
  long_fails argument held long =
      let met = long_or_other s.rules idle argument long held in
      or_else (flag_word_fault s.rules again long argument held) (step_fault s 1 met.0 met.1)

  module _ (first : ℕ) (name : Text) (rows now : List Found) (pending : Option (Text × List Text)) (holds : Holds (held_with rows pending) now)
      (named : not (list_any (λ byte. byte == 61) (first ∷ name)) ≡ true) (new : has_row (first ∷ name) now ≡ false) where
    flag_step : IsFound s.rules (filled (rule_given (flag_given (first ∷ name))))
        → IsStep (at_option rows pending) (codes "--" ++ (first ∷ name)) (at_option (now ++ row_given (first ∷ name) (codes "true" ∷ []) ∷ []) None)
    unfolding IsStep walked
    flag_step found =
        let argument = codes "--" ++ (first ∷ name) in
        let long = long_alone first name named in
        let by_name = found.by_name (rw (same_text (first ∷ name)) refl) in (
          ap (after_long argument (held_with rows pending)) long ∙ rw (by_name, holds.0, set_row (first ∷ name) (codes "true" ∷ []) now new) refl,
          ap (long_fails argument (held_with rows pending)) long ∙ rw (by_name, holds.1, holds.0, new) refl,
        )

    -- The state of clap's walk after an option whose value is the next argument.
    abbrev waits : Walk
    waits = record (at_option now (Some (first ∷ name, []))) { waiting = option (first ∷ name) }

    module _ (required : Bool) (defaults : List Text)
        (found : IsFound s.rules (filled (record (option_named (first ∷ name)) { required = required; defaults = defaults }))) where
      by_name : arg_by_long s.rules (first ∷ name) ≡ Some (filled (record (option_named (first ∷ name)) { required = required; defaults = defaults }))
      by_name = found.by_name (rw (same_text (first ∷ name)) refl)

      option_step : (value : Text)
          → IsStep (at_option rows pending) (codes "--" ++ (first ∷ name ++ 61 ∷ value)) (at_option (now ++ row_given (first ∷ name) (value ∷ []) ∷ []) None)
      unfolding IsStep walked
      option_step value = grind (arith, long_with, by_name, set_row)

      name_step : IsStep (at_option rows pending) (codes "--" ++ (first ∷ name)) waits
      unfolding IsStep walked
      name_step = grind (arith, long_alone, by_name)

      value_step : (value : Text) → not (is_some (strip_byte 45 value)) ≡ true → IsStep waits value (at_option now (Some (first ∷ name, value ∷ [])))
      unfolding IsStep walked
      value_step value dashless = grind (arith, same_text)

      value_holds : (value : Text) → Holds (held_with now (Some (first ∷ name, value ∷ []))) (now ++ row_given (first ∷ name) (value ∷ []) ∷ [])
      value_holds value = (rw found.by_id (set_row (first ∷ name) (value ∷ []) now new), rw (found.by_id, new) refl)

  dashes_step : (rows : List Found) (pending : Option (Text × List Text)) → IsStep (at_option rows pending) (codes "--") (at_place rows pending idle 1)
  unfolding IsStep walked
  dashes_step rows pending = (refl, refl)

  positional_step : (rule : Rule) (place : ℕ) (rows now : List Found) (pending : Option (Text × List Text)) (waiting : Waiting) (argument : Text)
      → arg_by_index s.rules place ≡ Some rule → takes_several rule ≡ false → Holds (held_with rows pending) now
      → IsStep (at_place rows pending waiting place) argument
      (at_place now (Some (rule.id, argument ∷ [])) (cond (is_multiple rule) positional idle) (next_position rule place))
  unfolding IsStep walked
  positional_step rule place rows now pending waiting argument by_place one holds = grind arith

  more_walked : (required : Bool) (name : Text) (place : ℕ) (rows before : List Found) (some : List Text) (last : Text) (more : List Text)
      → IsFound s.rules (with_index place (filled (record (positionals_named name) { required = required }))) → has_row name before ≡ false
      → Holds (held_with rows (Some (name, last ∷ []))) (before ++ row_given name some ∷ [])
      → Settles (at_place rows (Some (name, last ∷ [])) positional place) more (before ++ row_given name (some ++ more) ∷ [])
  more_walked required name place rows before some last [] found new holds =
      stands (at_place rows (Some (name, last ∷ [])) positional place) [] _ refl (rw (append-nil some) holds)
  more_walked required name place rows before some last (argument ∷ more) found new holds =
      let rule = with_index place (filled (record (positionals_named name) { required = required })) in
      let by_place = found.by_place (grind (arith, nat_tests)) in
      let now = before ++ row_given name some ∷ [] in
      step_on _ _ argument more _ (positional_step rule place rows now (Some (name, last ∷ [])) positional argument by_place refl holds)
      (subst (λ (values : List Text). Settles (at_place now (Some (name, argument ∷ [])) positional place) more (before ++ row_given name values ∷ []))
      (append_assoc some (argument ∷ []) more) (more_walked required name place now before (some ++ argument ∷ []) argument more found new
      (rw found.by_id (grind (arith, past, same_text, argument ∷ [])), rw found.by_id refl)))

  positionals_walked : (i : ℕ) (given : List Given) (rows now : List Found) (pending : Option (Text × List Text)) (waiting : Waiting) → AreFound s.rules i given
      → are_new now (positional_rows given) ≡ true → is_in_order given ≡ true → Holds (held_with rows pending) now
      → Settles (at_place rows pending waiting i) (positionals_spelled given) (now ++ positional_rows given)
  unfolding AreFound
  positionals_walked i [] rows now pending waiting found new ordered holds =
      stands (at_place rows pending waiting i) [] _ refl (holds.0 ∙ sym (append-nil now), holds.1)
  positionals_walked i (positional_given required name value ∷ given) rows now pending waiting found new ordered holds =
      let rule = with_index i (filled (rule_given (positional_given required name value))) in
      let parts = and_parts (not (has_row name now)) _ new in
      let fresh = is_false _ parts.0 in
      let row = row_given name (value ∷ []) in
      step_on _ _ value (positionals_spelled given) _
      (positional_step rule i rows now pending waiting value (found.0.by_place (grind (arith, nat_tests))) refl holds)
      (subst (Settles (at_place now (Some (name, value ∷ [])) idle (next_position rule i)) (positionals_spelled given))
      (append_assoc now (row ∷ []) (positional_rows given))
      (positionals_walked (next_position rule i) given now (now ++ row ∷ []) (Some (name, value ∷ [])) idle found.1 parts.1 ordered
      (rw found.0.by_id (set_row name (value ∷ []) now fresh), rw (found.0.by_id, fresh) refl)))
  positionals_walked i (positionals_given required name first more ∷ given) rows now pending waiting found new ordered holds =
      let rule = with_index i (filled (rule_given (positionals_given required name first more))) in
      let parts = and_parts (not (has_row name now)) _ new in
      let fresh = is_false _ parts.0 in
      rw (none_spelled given ordered).1 (step_on _ _ first more _
      (positional_step rule i rows now pending waiting first (found.0.by_place (grind (arith, nat_tests))) refl holds)
      (more_walked required name i now now (first ∷ []) first more found.0 fresh (rw found.0.by_id (added name (first ∷ []) now fresh), rw found.0.by_id refl)))
  positionals_walked i (left_out rule ∷ given) rows now pending waiting found new ordered holds = elim (cases_Bool (wants_index rule)) [
    | inl wants ↦
        let nothing = none_spelled given (rw wants at ordered) in
        stands (at_place rows pending waiting i) (positionals_spelled given) _ nothing.0 (rw (nothing.1, append-nil now) holds)
    | inr none ↦ positionals_walked i given rows now pending waiting (rw none at found.1) new (rw none at ordered) holds
  ]
  positionals_walked i (_ ∷ given) rows now pending waiting found new ordered holds =
      positionals_walked i given rows now pending waiting found.1 new ordered holds

  -- Clap's walk over the arguments `tail` succeeds and adds the rows `last`.
  GoesOn : List Text → List Found → List Found → Type 0
  GoesOn tail last now = (rows : List Found) (pending : Option (Text × List Text)) → Holds (held_with rows pending) now → are_new now last ≡ true
      → Settles (at_option rows pending) tail (now ++ last)

  module _ (tail : List Text) (last : List Found) where
    -- Clap's walk over the given options and the arguments `tail` succeeds. The walk adds the rows
    -- of the options, and then the rows `last`.
    OptionsGoOn : List Given → List Found → Type 0
    OptionsGoOn given now = (rows : List Found) (pending : Option (Text × List Text)) → Holds (held_with rows pending) now
        → are_new now (option_rows given ++ last) ≡ true → Settles (at_option rows pending) (options_spelled given ++ tail) (now ++ (option_rows given ++ last))

    one_more : (given : List Given) (now : List Found) (row : Found) → GoesOn tail last (now ++ row ∷ option_rows given)
        → (GoesOn tail last ((now ++ row ∷ []) ++ option_rows given) → OptionsGoOn given (now ++ row ∷ [])) → (rows : List Found)
        (pending : Option (Text × List Text)) → Holds (held_with rows pending) (now ++ row ∷ []) → are_new (now ++ row ∷ []) (option_rows given ++ last) ≡ true
        → Settles (at_option rows pending) (options_spelled given ++ tail) (now ++ (row ∷ option_rows given ++ last))
    unfolding OptionsGoOn
    one_more given now row then rest rows pending holds new = grind (arith, common_steps, nat_tests)

    options_walked : (i : ℕ) (given : List Given) (now : List Found) → AreFound s.rules i given → are_options_named given ≡ true
        → GoesOn tail last (now ++ option_rows given) → OptionsGoOn given now
    unfolding AreFound GoesOn OptionsGoOn
    options_walked i [] now found named then rows pending holds new = subst (GoesOn tail last) (append-nil now) then rows pending holds new
    options_walked i (flag_given [] ∷ given) now found named then rows pending holds new = cc
    options_walked i (flag_given (first ∷ name) ∷ given) now found named then rows pending holds new =
        let own = and_parts _ _ named in
        let parts = and_parts (not (has_row (first ∷ name) now)) _ new in
        let row = row_given (first ∷ name) (codes "true" ∷ []) in
        step_on _ _ _ _ _ (flag_step first name rows now pending holds own.0 (is_false _ parts.0) found.0)
        (one_more given now row then (options_walked i given (now ++ row ∷ []) found.1 own.1) (now ++ row ∷ []) None (refl, refl) parts.1)
    options_walked i (option_given joined required defaults [] value ∷ given) now found named then rows pending holds new = cc
    options_walked i (option_given true required defaults (first ∷ name) value ∷ given) now found named then rows pending holds new =
        let own = and_parts _ _ named in
        let parts = and_parts (not (has_row (first ∷ name) now)) _ new in
        let row = row_given (first ∷ name) (value ∷ []) in
        step_on _ _ _ _ _ (option_step first name rows now pending holds own.0 (is_false _ parts.0) required defaults found.0 value)
        (one_more given now row then (options_walked i given (now ++ row ∷ []) found.1 own.1) (now ++ row ∷ []) None (refl, refl) parts.1)
    options_walked i (option_given false required defaults (first ∷ name) value ∷ given) now found named then rows pending holds new =
        let own = and_parts _ _ named in
        let value_is = and_parts _ _ own.1 in
        let parts = and_parts (not (has_row (first ∷ name) now)) _ new in
        let fresh = is_false _ parts.0 in
        let row = row_given (first ∷ name) (value ∷ []) in
        step_on _ _ _ _ _ (name_step first name rows now pending holds own.0 fresh required defaults found.0)
        (step_on _ _ _ _ _ (value_step first name rows now pending holds own.0 fresh required defaults found.0 value value_is.0)
        (one_more given now row then (options_walked i given (now ++ row ∷ []) found.1 value_is.1) now (Some (first ∷ name, value ∷ []))
        (value_holds first name rows now pending holds own.0 fresh required defaults found.0 value) parts.1))
    options_walked i (one ∷ given) now found named then rows pending holds new =
        options_walked (index_after i (rule_given one)) given now found.1 named then rows pending holds new

  ends_with_options : (given : List Given) → has_no_positionals given ≡ true → GoesOn [] (positional_rows given) (option_rows given)
  unfolding GoesOn
  ends_with_options given none rows pending holds new =
      stands (at_option rows pending) [] _ refl (rw ((none_spelled given none).1, append-nil (option_rows given)) holds)

  positionals_after_options : (given : List Given) → AreFound s.rules 1 given → is_in_order given ≡ true
      → GoesOn (codes "--" ∷ positionals_spelled given) (positional_rows given) (option_rows given)
  unfolding GoesOn
  positionals_after_options given found ordered rows pending holds new = step_on _ _ (codes "--") (positionals_spelled given) _ (dashes_step rows pending)
      (positionals_walked 1 given rows (option_rows given) pending idle found new ordered holds)

  pub given_taken : (given : List Given) (others : List Rule) (arguments : List Text) → s.rules ≡ filled_from 1 (map rule_given given ++ others)
      → are_apart [] s.rules ≡ true → are_options_named given ≡ true → are_new [] (rows_given given) ≡ true → is_in_order given ≡ true
      → end_fault s (rows_given given) ≡ [] → AreSpelled given arguments
      → (level_fault s [] nothing_held arguments false [] ≡ []) × (rows_after s.rules [] arguments ≡ fold with_default (rows_given given) s.rules)
  unfolding Settles OptionsGoOn
  given_taken given others arguments same apart named new ordered ends spells =
      let found = all_found s.rules [] 1 given others same (rw same at apart) in
      let walked : Settles (walk_from nothing_held) arguments (rows_given given) = elim spells [
        | inl are ↦ rw are
            (options_walked _ (positional_rows given) 1 given [] found named (positionals_after_options given found ordered) [] None (refl, refl) new)
        | inr alone ↦ rw alone.0 (subst (λ (texts : List Text). Settles (walk_from nothing_held) texts (rows_given given)) (append-nil (options_spelled given))
            (options_walked [] (positional_rows given) 1 given [] found named (ends_with_options given alone.1) [] None (refl, refl) new))
      ] in
      let Fails : Held → Kinds = λ held. or_else (settle_fault s.rules again held) (or_else (defaults_fault (settled s.rules held).rows s.rules)
      (check_fault s (finished s.rules held) false)) in (
        ap₂ or_else walked.2 (ap (λ (w : Walk). Fails w.held) walked.1 ∙ ap₂ or_else walked.3.1 (ap (end_fault s) walked.3.0 ∙ ends)),
        ap (λ (w : Walk). finished s.rules w.held) walked.1 ∙ ap (λ (rows : List Found). fold with_default rows s.rules) walked.3.0,
      )
