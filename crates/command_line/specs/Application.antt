-- This file defines how the library `clap` represents the arguments and the commands of a program.
use Rattle.std.specs.Prelude.{◌≡◌, [], ◌∷◌, Some, true, false, codes}
use Rattle.clap.specs.{Simple.on_top, Words.{App, Rule, Shape, Text, app_of, new_app, new_rule}}
use Rattle.clap.specs.declared.builder.{action.ArgAction.TheVariants.{Append, SetTrue}, command.Command.{Command, TheViews.out-Command}}

-- The option `--NAME VALUE`.
abbrev pub option_named : Text → Rule
option_named name = record (new_rule name) { long = Some name; value_names = 1 }

-- The flag `--NAME`.
abbrev pub flag_named : Text → Rule
flag_named name = record (new_rule name) { long = Some name; action = Some SetTrue }

-- A positional argument.
abbrev pub positional_named : Text → Rule
positional_named name = record (new_rule name) { value_names = 1 }

-- A positional argument that takes any number of values.
abbrev pub positionals_named : Text → Rule
positionals_named name = record (new_rule name) { action = Some Append; value_names = 1 }

abbrev pub as_required : Rule → Rule
as_required rule = record rule { required = true }

-- The given argument, with `value` as its default.
abbrev pub with_default : Text → Rule → Rule
with_default value rule = record rule { defaults = value ∷ [] }

-- The option `--form FORM`.
abbrev pub form_option : Rule
form_option = option_named (codes "form")

-- The option `--form FORM`, with V2 as its default.
abbrev pub form_or_v2 : Rule
form_or_v2 = with_default (codes "v2") form_option

-- The shape of a program. A program has a version and requires a command.
abbrev pub as_program : Shape → Shape
as_program top = record top { has_version = true; subcommand_required = true }

-- A program with the given name and without commands.
abbrev pub program_named : Text → App
program_named name = on_top as_program (new_app name)

-- `made` is built as `app` describes, and has no global option.
pub record IsMade (app : App) (made : Command) : Type 0 where
  pub app_is : app_of made ≡ app
  pub local : (out-Command made).has_globals ≡ false
