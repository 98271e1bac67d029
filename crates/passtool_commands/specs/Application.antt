-- Defines the program's commands and options for `clap`.
use Rattle.std.specs.Prelude.{[], ◌∷◌, codes}
use Rattle.clap.specs.Words.{Rule}
use Rattle.command_line.specs.{Application.{as_required, flag_named, form_option, form_or_v2, option_named, positionals_named}, Table.Table}
use Rattle.passtool_commands.specs.declared.table.Name.{Name, TheVariants.{Mint, Show, Narrow, Convert, Verify}}

abbrev pub root_option : Rule
root_option = as_required (option_named (codes "root"))

abbrev pub id_option : Rule
id_option = as_required (option_named (codes "id"))

abbrev pub location_option : Rule
location_option = option_named (codes "location")

abbrev pub required_form : Rule
required_form = as_required form_option

-- The flag `--any`.
abbrev pub any_flag : Rule
any_flag = flag_named (codes "any")

-- Any number of positional arguments. Each positional argument is a caveat.
abbrev pub caveat_positionals : Rule
caveat_positionals = positionals_named (codes "caveat")

abbrev pub required_caveats : Rule
required_caveats = as_required caveat_positionals

-- The program's commands:
-- - `mint --root HEX --id TEXT [--location TEXT] [--form F] [CAVEAT]...`
-- - `show`
-- - `narrow [--any] CAVEAT...`
-- - `convert --form F`
-- - `verify --root HEX`
unfoldable pub passtool : Table Name
passtool = record {
  title = codes "passtool";
  entries =
      record { command = Mint; name = codes "mint"; rules = root_option ∷ id_option ∷ location_option ∷ form_or_v2 ∷ caveat_positionals ∷ [] }
      ∷ record { command = Show; name = codes "show"; rules = [] }
      ∷ record { command = Narrow; name = codes "narrow"; rules = any_flag ∷ required_caveats ∷ [] }
      ∷ record { command = Convert; name = codes "convert"; rules = required_form ∷ [] }
      ∷ record { command = Verify; name = codes "verify"; rules = root_option ∷ [] }
      ∷ [];
}
