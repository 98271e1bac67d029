-- Lemmas about the arguments that clap accepts: they name one of the program's commands, and clap
-- finds all values that `can_be_given` allows.
use Rattle.clap.specs.declared.error.kind.ErrorKind.TheVariants as kind
use Rattle.std.proofs.Common.{◌≡◌, List, [], Option, IsSome, Result, Err, arith, true, ◌⊎◌, ℕ, ◌*◌, ◌/◌, ◌%◌, ◌<◌, ◌≤◌, length, take, ◌++◌, Some, None, Ok}
use Rattle.std.proofs.Common.{MatchResult, length-take-le, inl, inr, refl, ap, codes, false, fold, is_some, ◌∷◌, find, map, sym, ◌∙◌, drop, option_map, subst}
use Rattle.std.proofs.lemmas.{Bool.{cases_eq, and_parts, Decides.nat_tests}, Grind.common_steps, List.append-nil, Slice.Eq.bytes_eq-Decides}
use Rattle.std.specs.Str.{bytes_eq}
use Rattle.clap.{proofs.{SimpleLemmas.{is_false, is_nil}, WalkLemmas.find-map}, specs.Faults.{built_fault, turn_fault, walk_fault, defaults_fault, level_fault}}
use Rattle.clap.specs.{Faults.{other_fault, step_fault}, Kinds.{or_else, Kinds}, Simple.{entered, names_of, built, built_leaf, help_shape, inherited, label_of}}
use Rattle.clap.specs.{Simple.{marked_built, help_rule, new_shape, on_top, rows_at, with_leaf_noted}, Walk.{Names, Walk, nothing_held, stop_after, walked}}
use Rattle.clap.specs.{Walk.{after_step, answers_to, idle, rows_after, subcommand_met, subcommand_or_other, walk, walk_from}, Words.subcommand_rows_of}
use Rattle.clap.specs.Words.{IsAmong, Row, Text, fault_of, subcommand_of, App, HasKind, HasMatchesOf, is_simple_and_free, kind_of, Shape, Row as Found, Rule}
use Rattle.clap.specs.{Words.{new_app, with_rule, with_subcommand}, declared.error.{Error.Error, kind.ErrorKind.ErrorKind}}
use Rattle.clap.specs.declared.parser.matches.ArgMatches.{ArgMatches}
use Rattle.command_line.{proofs.GivenLemmas.given_taken, specs.{Application.program_named, Arguments.{root_among, root_of}, Given.{AreSpelled, Given}}}
use Rattle.command_line.specs.{Given.{can_be_given, found_given, rule_given, shape_given}, Job.{ReadsAccepted, ReadsFound, ReadsJob, ReadsRow, RowsAnswerOnce}}
use Rattle.command_line.specs.{Job.{WordsNameARow, RowsTakeWhatTheyAreGiven}, Table.{IsGood, Table, app_of_table, asked, asked_in, refusals, Entry, entry_app}}
use Rattle.command_line.specs.{Table.{entry_named, with_entries}, declared.errors.ArgumentsFault.ArgumentsFault}
use Rattle.hex.{proofs.HexLemmas.{decode_of-odd, decode_of-ok, decode_sized-odd, decode_sized-twice}, specs.Hex.{decode_of, decode_sized}}
use Rattle.hex.specs.declared.error.FromHexError.{FromHexError}
use lib.Seq.{take-append_seam}

module _ (made app : App) (arguments : List Text) (is : made ≡ app) (free : is_simple_and_free app ≡ true) where
  pub accepted : (m : ArgMatches) → HasMatchesOf made arguments m → (is_simple_and_free made ≡ true → fault_of made arguments ≡ [])
      → (fault_of app arguments ≡ []) × (subcommand_rows_of m ≡ subcommand_of app arguments)
  accepted m found clear = grind arith

  pub refused : (e : Error) (k : ErrorKind) → (is_simple_and_free made ≡ true → HasKind (fault_of made arguments) e) → k ≡ kind_of e
      → (k ≡ kind.OutOfMemory → ⊥) → IsAmong k (fault_of app arguments)
  refused e k has same other = grind arith

-- Lemmas for the case in which clap accepts the arguments and finds the values `found`.
module _ {C J V : Type 0} (table : Table C) (Reads : ReadsRow C J V) (arguments : List Text) (found : Option (Text × List Row))
    (clear : fault_of (app_of_table table) arguments ≡ []) (same : found ≡ subcommand_of (app_of_table table) arguments) where
  pub reads_accepted : (result : Result J (ArgumentsFault V)) → ReadsFound Reads (asked_in table found) result → ReadsAccepted table Reads arguments result
  unfolding refusals asked
  reads_accepted result reads = (clear, rw (← same) reads)

  pub reads_fault : (fault : ArgumentsFault V) → ReadsFound Reads (asked_in table found) (let result : Result J (ArgumentsFault V) = Err fault in result)
      → ReadsJob table Reads arguments (Err fault)
  reads_fault fault reads = grind (arith, reads_accepted)

pub row_named : {C : Type 0} (table : Table C) → WordsNameARow C → IsGood table → (arguments : List Text) → refusals table arguments ≡ []
    → IsSome (asked table arguments)
row_named table law good arguments clear = law table arguments clear

pub answers_once : {J V : Type 0} → RowsAnswerOnce J V
answers_once = grind arith

pub none_by_length : (text : List ℕ) → (length text / 2 ≡ 0) ⊎ (64 < length text / 2) → root_of text ≡ None
unfolding root_of
none_by_length text h = grind (arith, nat_tests, decode_of-ok text)

pub root_of_decoded : (text out buffer : List ℕ) (n : ℕ) (r : Result Unit FromHexError) → n ≡ length text / 2 → 1 ≤ n → n ≤ 64 → n ≤ length buffer
    → MatchResult (decode_sized text (length (take n buffer))) (λ bytes. (r ≡ Ok tt) × (out ≡ bytes)) (λ e. r ≡ Err e)
    → MatchResult r (λ _. (root_of text ≡ Some out) × (length out ≡ n)) (λ _. root_of text ≡ None)
unfolding root_of
root_of_decoded text out buffer n r half least most fits decoded = elim (cases_eq (length text % 2) 1) [
  | inl odd ↦ rw (rw (length-take-le n buffer fits, decode_sized-odd text n odd) at decoded) (ap root_among (decode_of-odd text odd))
  | inr even ↦
      let twice : length text ≡ 2 * n = omega arith in
      go (decode_of text) refl r (rw (length-take-le n buffer fits, decode_sized-twice text n twice) at decoded)
]
  where
    go : (d : Result (List ℕ) FromHexError) → decode_of text ≡ d → (r : Result Unit FromHexError) → MatchResult d (λ bytes. (r ≡ Ok tt) × (out ≡ bytes))
        (λ e. r ≡ Err e) → MatchResult r (λ _. (root_among (decode_of text) ≡ Some out) × (length out ≡ n)) (λ _. root_among (decode_of text) ≡ None)
    go (Ok bytes) same (Ok x) h = grind (arith, nat_tests, decode_of-ok text bytes)
    go d same r h = grind arith

pub front_of : (n : ℕ) (out rest : List ℕ) → length out ≡ n → take n (out ++ rest) ≡ out
front_of n out rest full = rw (← full) (take-append_seam out rest)

-- The walk found no subcommand, or a subcommand other than `help`.
abbrev pub StopsNotAtHelp : Option (Text × List Text) → Type 0
StopsNotAtHelp None = Unit {0}
StopsNotAtHelp (Some p) = bytes_eq p.0 (codes "help") ≡ false

module _ (s : Shape) (helps : s.disable_help_subcommand ≡ false) (names : Names) where
  turn_stops : (w : Walk) (word : Text) → turn_fault s names w word ≡ [] → StopsNotAtHelp w.stopped → StopsNotAtHelp (walked s.rules names w word).stopped
  unfolding walked
  turn_stops w word clear before = grind arith

  walk_stops : (words : List Text) (w : Walk) → walk_fault s names w words ≡ [] → StopsNotAtHelp w.stopped
      → StopsNotAtHelp (fold (walked s.rules names) w words).stopped
  unfolding walk_fault
  walk_stops [] w clear before = before
  walk_stops (word ∷ rest) w clear before = grind (arith, walk_stops rest (walked s.rules names w word), turn_stops w word)

pub enters_command : (a : App) (words : List Text) → a.top.subcommand_required ≡ true → built_fault a nothing_held words ≡ []
    → let stop = stop_after a.top.rules (names_of a) words in
    (is_some (entered a stop) ≡ true) × (a.top.disable_help_subcommand ≡ false → StopsNotAtHelp stop)
enters_command a words needs clear = grind (arith, walk_stops)

rules_added : (app : App) (rules : List Rule) → fold with_rule app rules ≡ on_top (λ s. record s { rules = s.rules ++ rules }) app
rules_added app [] = ap (λ (rules : List Rule). on_top (λ s. record s { rules = rules }) app) (sym (append-nil app.top.rules))
rules_added app (rule ∷ rules) = grind (arith, common_steps, nat_tests, rules_added (with_rule app rule) rules)

abbrev shape_of_entry : {C : Type 0} → Entry C → Shape
shape_of_entry entry = record (new_shape entry.name) { rules = entry.rules }

top_is : {C : Type 0} (entry : Entry C) → (entry_app entry).top ≡ shape_of_entry entry
top_is entry = ap (λ (app : App). app.top) (rules_added (new_app entry.name) entry.rules)

abbrev with_more : App → List Shape → App
with_more app shapes = record { top = record app.top { is_leaf = false }; subs = app.subs ++ shapes }

entries_added : {C : Type 0} (app : App) (entry : Entry C) (entries : List (Entry C))
    → with_entries app (entry ∷ entries) ≡ with_more app (map shape_of_entry (entry ∷ entries))
entries_added app entry [] = ap (λ (s : Shape). with_subcommand app s) (top_is entry)
entries_added app entry (next ∷ entries) =
    grind (arith, common_steps, nat_tests, top_is, entries_added (with_subcommand app (entry_app entry).top) next entries)

no_other_name : (name : Text) → bytes_eq name (codes "help") ≡ false → bytes_eq (codes "help") name ≡ false
no_other_name name other = grind arith

shape_found : {C : Type 0} (above : Shape) (entries : List (Entry C)) (name : Text) → bytes_eq name (codes "help") ≡ false
    → find (λ s. answers_to name (label_of s)) (map built_leaf (map (inherited above) (map shape_of_entry entries) ++ help_shape ∷ []))
    ≡ option_map (λ entry. built_leaf (inherited above (shape_of_entry entry))) (entry_named name entries)
shape_found above [] name other = rw (no_other_name name other) refl
shape_found above (next ∷ entries) name other = grind (arith, shape_found above entries name other)

-- The state of clap's walk after the walk has stopped at the command with the given name. The list
-- `arguments` has the arguments after the name.
abbrev at_command : Text → List Text → Walk
at_command name arguments = record (walk_from nothing_held) { stopped = Some (name, arguments) }

arguments_kept : (c : List Rule) (names : Names) (name : Text) (some arguments : List Text)
    → fold (walked c names) (at_command name some) arguments ≡ at_command name (some ++ arguments)
unfolding walked
arguments_kept c names name some [] = ap (at_command name) (sym (append-nil some))
arguments_kept c names name some (argument ∷ arguments) = grind (arith, common_steps, nat_tests, arguments_kept c names name (some ++ argument ∷ []) arguments)

arguments_pass : (s : Shape) (names : Names) (name : Text) (some arguments : List Text) → walk_fault s names (at_command name some) arguments ≡ []
unfolding walk_fault walked
arguments_pass s names name some [] = refl
arguments_pass s names name some (argument ∷ arguments) = arguments_pass s names name (some ++ argument ∷ []) arguments

module _ {C : Type 0} (title : Text) (first : Entry C) (others : List (Entry C)) where
  abbrev app : App
  app = built (with_more (program_named title) (map shape_of_entry (first ∷ others)))

  -- The shape of the program, from which its commands inherit.
  abbrev above : Shape
  above = with_leaf_noted (marked_built (with_more (program_named title) []).top)

  module _ (entry : Entry C) (is : entry_named entry.name (first ∷ others) ≡ Some entry)
      (no_help : bytes_eq entry.name (codes "help") ≡ false) (arguments : List Text) where
    abbrev shape : Shape
    shape = built_leaf (shape_of_entry entry)

    shape_is : find (λ s. answers_to entry.name (label_of s)) app.subs ≡ Some shape
    shape_is = shape_found above (first ∷ others) entry.name no_help ∙ ap (option_map (λ (e : Entry C). built_leaf (inherited above (shape_of_entry e)))) is

    abbrev after_name : Option Text → Walk
    after_name met =
        let step = subcommand_or_other app.top.rules met idle 1 entry.name nothing_held in
        after_step app.top.rules entry.name (walk_from nothing_held) step.0 step.1

    abbrev name_fails : Option Text → Kinds
    name_fails met =
        let step = subcommand_or_other app.top.rules met idle 1 entry.name nothing_held in
        or_else (other_fault app.top met entry.name nothing_held) (step_fault app.top 1 step.0 step.1)

    met : subcommand_met (names_of app) idle entry.name ≡ Some entry.name
    met = ap (option_map (λ (label : Text × List Text). label.0)) (sym (find-map (answers_to entry.name) label_of app.subs) ∙ ap (option_map label_of) shape_is)

    meets : walked app.top.rules (names_of app) (walk_from nothing_held) entry.name ≡ at_command entry.name []
    unfolding walked
    meets = ap after_name met

    passes : turn_fault app.top (names_of app) (walk_from nothing_held) entry.name ≡ []
    passes = ap name_fails met ∙ rw no_help refl

    walks : walk app.top.rules (names_of app) nothing_held (entry.name ∷ arguments) ≡ at_command entry.name arguments
    walks = grind (arith, meets, arguments_kept)

    walks_clear : walk_fault app.top (names_of app) (walk_from nothing_held) (entry.name ∷ arguments) ≡ []
    unfolding walk_fault
    walks_clear = grind (arith, passes, meets, arguments_pass)

    finds : entered app (walk app.top.rules (names_of app) nothing_held (entry.name ∷ arguments)).stopped
        ≡ Some (entry.name, rows_after shape.rules [] arguments)
    finds = ap (λ (w : Walk). entered app w.stopped) walks ∙ ap (option_map (λ (s : Shape). rows_at s arguments)) shape_is

    clear : level_fault shape [] nothing_held arguments false [] ≡ [] → built_fault app nothing_held (entry.name ∷ arguments) ≡ []
    unfolding defaults_fault
    clear below = grind (arith, walks, walks_clear, shape_is)

name_found : {C : Type 0} (name : Text) (entries : List (Entry C)) (entry : Entry C) → entry_named name entries ≡ Some entry → entry.name ≡ name
name_found name [] entry is = cc
name_found name (next ∷ entries) entry is = grind (arith, name_found name entries entry, bytes_eq-Decides next.name name)

asked_where_entered : {C : Type 0} (title : Text) (first : Entry C) (others : List (Entry C)) (stop : Option (Text × List Text))
    → is_some (entered (app title first others) stop) ≡ true → StopsNotAtHelp stop
    → IsSome (asked_in (record { title = title; entries = first ∷ others }) (entered (app title first others) stop))
asked_where_entered title first others None met other = cc
asked_where_entered {C} title first others (Some p) met other =
    let found = shape_found (above title first others) (first ∷ others) p.0 other in
    rw found (go (entry_named p.0 (first ∷ others)) refl (rw found at met))
  where
    enter : Option (Entry C) → Option (Text × List Found)
    enter named = option_map (λ s. rows_at s p.1) (option_map (λ entry. built_leaf (inherited (above title first others) (shape_of_entry entry))) named)

    go : (named : Option (Entry C)) → entry_named p.0 (first ∷ others) ≡ named → is_some (enter named) ≡ true
        → IsSome (asked_in (record { title = title; entries = first ∷ others }) (enter named))
    go None is met = cc
    go (Some entry) is met =
        let rows = (rows_at (built_leaf (inherited (above title first others) (shape_of_entry entry))) p.1).1 in
        let Asks : Option (Entry C) → Type 0 = λ named. IsSome {T = C × List Found} (option_map (λ (e : Entry C). (e.command, rows)) named) in
        subst Asks (sym (ap (λ (name : Text). entry_named name (first ∷ others)) (name_found p.0 (first ∷ others) entry is) ∙ is)) refl

named : {C : Type 0} (title : Text) (entries : List (Entry C)) (arguments : List Text)
    → let table : Table C = record { title = title; entries = entries } in refusals table arguments ≡ [] → IsSome (asked table arguments)
unfolding refusals asked
named {C} title [] arguments clear =
    let none = built (program_named title) in
    go (stop_after none.top.rules (names_of none) (drop 1 arguments)) (enters_command none (drop 1 arguments) refl clear).0
  where
    go : (stop : Option (Text × List Text)) → is_some (entered (built (program_named title)) stop) ≡ true
        → let table : Table C = record { title = title; entries = [] } in IsSome (asked_in table (entered (built (program_named title)) stop))
    go None met = cc
    go (Some p) met = cc
named {C} title (first ∷ others) arguments clear =
    let table : Table C = record { title = title; entries = first ∷ others } in
    let made = entries_added (program_named title) first others in
    let met = enters_command (app title first others) (drop 1 arguments) refl (ap (λ (app : App). fault_of app arguments) (sym made) ∙ clear) in
    subst (λ (app : App). IsSome (asked_in table (subcommand_of app arguments))) (sym made)
    (asked_where_entered title first others (stop_after (app title first others).top.rules (names_of (app title first others)) (drop 1 arguments))
    met.0 (met.1 refl))

pub arguments_name_a_row : {C : Type 0} → WordsNameARow C
arguments_name_a_row table = named table.title table.entries

taken : {C : Type 0} (title : Text) (entries : List (Entry C)) (entry : Entry C) (given : List Given) (program : Text) (arguments : List Text)
    → entry_named entry.name entries ≡ Some entry → map rule_given given ≡ entry.rules → can_be_given entry.name given ≡ true → AreSpelled given arguments
    → let table : Table C = record { title = title; entries = entries } in
    (refusals table (program ∷ entry.name ∷ arguments) ≡ [])
    × (asked table (program ∷ entry.name ∷ arguments) ≡ Some (entry.command, found_given entry.name given))
unfolding refusals asked
taken title [] entry given program arguments is rules can spells = cc
taken {C} title (first ∷ others) entry given program arguments is rules can spells =
    let table : Table C = record { title = title; entries = first ∷ others } in
    let shape = shape_given entry.name given in
    let made = entries_added (program_named title) first others in
    let helps = and_parts _ _ can in
    let apart = and_parts _ _ helps.1 in
    let new = and_parts _ _ apart.1 in
    let named = and_parts _ _ new.1 in
    let ordered = and_parts _ _ named.1 in
    let leaf = given_taken shape given (help_rule ∷ []) arguments refl apart.0 named.0 new.0 ordered.0 (is_nil _ ordered.1) spells in
    let same : shape ≡ built_leaf (shape_of_entry entry) = ap (λ (rules : List Rule). built_leaf (record (new_shape entry.name) { rules = rules })) rules in
    let no_help = is_false _ helps.0 in (
      ap (λ (app : App). fault_of app (program ∷ entry.name ∷ arguments)) made
          ∙ clear title first others entry is no_help arguments (ap (λ (s : Shape). level_fault s [] nothing_held arguments false []) (sym same) ∙ leaf.0),
      ap (λ (app : App). asked_in table (subcommand_of app (program ∷ entry.name ∷ arguments))) made
          ∙ (ap (asked_in table) (finds title first others entry is no_help arguments
          ∙ ap (λ (rows : List Found). Some (entry.name, rows)) (ap (λ (s : Shape). rows_after s.rules [] arguments) (sym same) ∙ leaf.1))
          ∙ ap (option_map (λ (e : Entry C). (e.command, found_given entry.name given))) is),
    )

pub rows_take_what_they_are_given : {C : Type 0} → RowsTakeWhatTheyAreGiven C
rows_take_what_they_are_given table = taken table.title table.entries
