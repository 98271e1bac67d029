-- This file defines the arguments of a command with their values. The file also defines how the
-- values are written on a command line, and what clap finds for them.
use Rattle.std.specs.{List.list_any, Option.option_map_or, Prelude.{◌≡◌, ◌⊎◌, ◌==◌, ◌&&◌, ◌||◌, Bool, true, false, not, List, [], ◌∷◌, ◌++◌, Some, None, codes}}
use Rattle.std.specs.{Prelude.{fold, is_some, map, unwrap_or, if◌then◌else◌}, Str.bytes_eq}
use Rattle.clap.specs.{Faults.{check_fault, defaults_fault}, Kinds.{Kinds, or_else}, Lexer.strip_byte, Simple.{built_leaf, new_shape, wants_index}}
use Rattle.clap.specs.{Walk.{has_long, has_row, is_empty, reading_by, with_default}, Words.{Row as Found, Rule, Shape, Text}}
use Rattle.clap.specs.declared.parser.matches.ValueSource.TheVariants.{CommandLine}
use Rattle.command_line.specs.Application.{flag_named, option_named, positional_named, positionals_named}

-- An argument of a command with its value.
--
-- - `option_given` is an option. The first field is true if one text `--NAME=VALUE` has both the
--   name and the value. The second field is true if the option is required. The other fields are
--   the defaults, the name and the value.
-- - `flag_given` is a flag.
-- - `positional_given` is a positional argument with one value.
-- - `positionals_given` is a positional argument with one or more values. The first value has a
--   separate field.
-- - `left_out` is an argument without a value.
pub data Given : Type 0 where
  option_given : Bool → Bool → List Text → Text → Text → Given
  flag_given : Text → Given
  positional_given : Bool → Text → Text → Given
  positionals_given : Bool → Text → Text → List Text → Given
  left_out : Rule → Given

abbrev pub rule_given : Given → Rule
rule_given (option_given joined required defaults name value) = record (option_named name) { required = required; defaults = defaults }
rule_given (flag_given name) = flag_named name
rule_given (positional_given required name value) = record (positional_named name) { required = required }
rule_given (positionals_given required name first more) = record (positionals_named name) { required = required }
rule_given (left_out rule) = rule

-- The texts of options and flags. An option is `--NAME=VALUE` or `--NAME VALUE`, and a flag is
-- `--NAME`.
abbrev pub options_spelled : List Given → List Text
options_spelled [] = []
options_spelled (option_given true required defaults name value ∷ given) = (codes "--" ++ (name ++ 61 ∷ value)) ∷ options_spelled given
options_spelled (option_given false required defaults name value ∷ given) = (codes "--" ++ name) ∷ value ∷ options_spelled given
options_spelled (flag_given name ∷ given) = (codes "--" ++ name) ∷ options_spelled given
options_spelled (_ ∷ given) = options_spelled given

-- The texts of positional arguments. A positional argument with several values ends the list.
abbrev pub positionals_spelled : List Given → List Text
positionals_spelled [] = []
positionals_spelled (positional_given required name value ∷ given) = value ∷ positionals_spelled given
positionals_spelled (positionals_given required name first more ∷ given) = first ∷ more
positionals_spelled (_ ∷ given) = positionals_spelled given

-- The row that clap finds for an argument with the given values.
abbrev pub row_given : Text → List Text → Found
row_given name values = record { id = name; values = values; count = None; source = Some CommandLine; reading = reading_by (positional_named name) }

abbrev pub option_rows : List Given → List Found
option_rows [] = []
option_rows (option_given joined required defaults name value ∷ given) = row_given name (value ∷ []) ∷ option_rows given
option_rows (flag_given name ∷ given) = row_given name (codes "true" ∷ []) ∷ option_rows given
option_rows (_ ∷ given) = option_rows given

abbrev pub positional_rows : List Given → List Found
positional_rows [] = []
positional_rows (positional_given required name value ∷ given) = row_given name (value ∷ []) ∷ positional_rows given
positional_rows (positionals_given required name first more ∷ given) = row_given name (first ∷ more) ∷ positional_rows given
positional_rows (_ ∷ given) = positional_rows given

abbrev pub rows_given : List Given → List Found
rows_given given = option_rows given ++ positional_rows given

-- The command with this name and these arguments, as clap builds the command.
abbrev pub shape_given : Text → List Given → Shape
shape_given name given = built_leaf (record (new_shape name) { rules = map rule_given given })

-- The given values, and the defaults of the arguments without a value.
abbrev pub found_given : Text → List Given → List Found
found_given name given = fold with_default (rows_given given) (shape_given name given).rules

-- No argument in `before` has the same name or the same position as the argument of `rule`.
abbrev is_apart : List Rule → Rule → Bool
is_apart before rule =
    not (list_any (λ other. bytes_eq other.id rule.id) before)
    && (not (list_any (λ other. not (is_some other.index) && has_long other rule.id) before)
    && not (list_any (λ other. option_map_or (λ place. place == unwrap_or rule.index 0) other.index false) before))

abbrev pub are_apart : List Rule → List Rule → Bool
are_apart before [] = true
are_apart before (rule ∷ rules) = is_apart before rule && are_apart (before ++ rule ∷ []) rules

-- Each row of the second list belongs to an argument that has no earlier row in either list.
abbrev pub are_new : List Found → List Found → Bool
are_new before [] = true
are_new before (row ∷ rows) = not (has_row row.id before) && are_new (before ++ row ∷ []) rows

-- The text can be the name of an option. The name of an option isn't empty and has no `=`.
abbrev is_option_name : Text → Bool
is_option_name [] = false
is_option_name (first ∷ rest) = not (list_any (λ byte. byte == 61) (first ∷ rest))

-- The name of each option and flag isn't empty and has no `=`. If an option's value is a separate
-- argument, the value doesn't begin with a dash.
abbrev pub are_options_named : List Given → Bool
are_options_named [] = true
are_options_named (option_given joined required defaults name value ∷ given) =
    is_option_name name && ((joined || not (is_some (strip_byte 45 value))) && are_options_named given)
are_options_named (flag_given name ∷ given) = is_option_name name && are_options_named given
are_options_named (_ ∷ given) = are_options_named given

abbrev pub has_no_positionals : List Given → Bool
has_no_positionals [] = true
has_no_positionals (positional_given required name value ∷ given) = false
has_no_positionals (positionals_given required name first more ∷ given) = false
has_no_positionals (_ ∷ given) = has_no_positionals given

-- A positional argument has no value if it comes after `positionals_given`, or after a positional
-- argument without a value.
abbrev pub is_in_order : List Given → Bool
is_in_order [] = true
is_in_order (positionals_given required name first more ∷ given) = has_no_positionals given
is_in_order (left_out rule ∷ given) = if wants_index rule then has_no_positionals given else is_in_order given
is_in_order (_ ∷ given) = is_in_order given

-- The fault of clap's last checks, which test defaults and required arguments.
abbrev pub end_fault : Shape → List Found → Kinds
end_fault shape rows = or_else (defaults_fault rows shape.rules) (check_fault shape (fold with_default rows shape.rules) false)

-- The command allows these arguments with their values. The command's name isn't `help`, and the
-- options have valid names and values. The arguments have different names and positions, and are in
-- order. Each required argument is present.
abbrev pub can_be_given : Text → List Given → Bool
can_be_given name given =
    let shape = shape_given name given in
    not (bytes_eq name (codes "help"))
    && (are_apart [] shape.rules
    && (are_new [] (rows_given given)
    && (are_options_named given && (is_in_order given && is_empty (end_fault shape (rows_given given))))))

-- The arguments on the command line are the options, then `--`, and then the positional arguments.
-- If there are no positional arguments, `--` may be missing.
abbrev pub AreSpelled : List Given → List Text → Type 0
AreSpelled given arguments =
    (arguments ≡ options_spelled given ++ codes "--" ∷ positionals_spelled given)
    ⊎ ((arguments ≡ options_spelled given) × (has_no_positionals given ≡ true))

-- The argument that a rule describes. The function `value` returns the argument's value for the
-- argument's name.
abbrev pub given_by : (Text → Text) → Rule → Given
given_by value rule =
    if is_some rule.long
    then (if rule.value_names == 0 then flag_given rule.id else option_given true rule.required rule.defaults rule.id (value rule.id))
    else (if is_some rule.action then positionals_given rule.required rule.id (value rule.id) [] else positional_given rule.required rule.id (value rule.id))
