-- This file defines a program's commands as the rows of a table. The file also defines the row that
-- arguments name.
use Rattle.std.specs.{List.list_all, Prelude.{◌≡◌, List, Option, fold, map, find, option_map, option_and_then, true}, Str.bytes_eq}
use Rattle.clap.specs.Words.{App, Kinds, Row as Found, Rule, Text, fault_of, is_simple_and_free, new_app, subcommand_of, with_rule, with_subcommand}
use Rattle.command_line.specs.Application.{as_required, flag_named, option_named, positional_named, positionals_named, program_named, with_default}
use Rattle.command_line.specs.{Given.{can_be_given, given_by, rule_given}, declared.table.Argument.{Argument, TheVariants.{Value, Needed, Or, Flag}}}
use Rattle.command_line.specs.declared.table.Argument.TheVariants.{Positional, NeededPositional, NeededPositionalAs, Positionals, NeededPositionals}
use Rattle.command_line.specs.declared.table.{Program.Program, Row.Row}

-- A row of a table: its command, its name, and the rules of its arguments in order.
pub record Entry (C : Type 0) : Type 0 where
  pub command : C
  pub name : Text
  pub rules : List Rule

pub record Table (C : Type 0) : Type 0 where
  pub title : Text
  pub entries : List (Entry C)

abbrev pub rule_for : Argument → Rule
rule_for (Value name value help) = option_named name.now
rule_for (Needed name value help) = as_required (option_named name.now)
rule_for (Or name value help default) = with_default default.now (option_named name.now)
rule_for (Flag name help) = flag_named name.now
rule_for (Positional name) = positional_named name.now
rule_for (NeededPositional name) = as_required (positional_named name.now)
rule_for (NeededPositionalAs name value) = as_required (positional_named name.now)
rule_for (Positionals name value help) = positionals_named name.now
rule_for (NeededPositionals name value help) = as_required (positionals_named name.now)

abbrev pub entry_of : {C : Type 0} → Row C → Entry C
entry_of row = record { command = row.command; name = row.name.now; rules = map rule_for row.arguments.now }

abbrev pub table_of : {C : Type 0} → Program C → Table C
table_of program = record { title = program.name.now; entries = map entry_of program.rows.now }

-- The command of a row, as clap represents the command.
abbrev pub entry_app : {C : Type 0} → Entry C → App
entry_app entry = fold with_rule (new_app entry.name) entry.rules

abbrev pub with_entries : {C : Type 0} → App → List (Entry C) → App
with_entries app entries = fold with_subcommand app (map (λ entry. (entry_app entry).top) entries)

abbrev pub app_of_table : {C : Type 0} → Table C → App
app_of_table table = with_entries (program_named table.title) table.entries

-- The kinds of errors that clap may return for the arguments. The first argument is the program's
-- name. The list is empty if clap accepts the arguments.
unfoldable pub refusals : {C : Type 0} → Table C → List Text → Kinds
refusals table arguments = fault_of (app_of_table table) arguments

abbrev pub entry_named : {C : Type 0} → Text → List (Entry C) → Option (Entry C)
entry_named name entries = find (λ entry. bytes_eq entry.name name) entries

-- The command of the row that clap found, with the values that clap found for the row's arguments.
abbrev pub asked_in : {C : Type 0} → Table C → Option (Text × List Found) → Option (C × List Found)
asked_in table found = option_and_then (λ found. option_map (λ entry. (entry.command, found.1))
    (entry_named found.0 table.entries)) found

unfoldable pub asked : {C : Type 0} → Table C → List Text → Option (C × List Found)
asked table arguments = asked_in table (subcommand_of (app_of_table table) arguments)

-- The conditions on the table of a program. Clap's specs define the results of parsing the
-- program's arguments, and no argument's rule refers to another argument. Each rule describes an
-- option, a flag or a positional argument. Each command allows any value for each of its arguments.
pub record IsGood {C : Type 0} (table : Table C) : Type 0 where
  pub free : is_simple_and_free (app_of_table table) ≡ true
  pub rules : (value : Text → Text) → map (λ entry. map rule_given (map (given_by value) entry.rules)) table.entries ≡ map (λ entry. entry.rules) table.entries
  pub takes : (value : Text → Text) → list_all (λ entry. can_be_given entry.name (map (given_by value) entry.rules)) table.entries ≡ true
