use Rattle.pass_json.proofs.names.has_only_names.Goals as goal
use Rattle.std.{proofs.Common.{Bor, List, Option, [], ap, false, map, refl, ℕ, ◌∙◌, ◌∷◌, ◌≡◌, arith}, specs.{List.{list_all, list_any}, Map.keys_of}}
use Rattle.std.specs.{Option.{option_map, unwrap_or}, Str.bytes_eq, String.string_bytes, declared.{alloc.Global.Global, string.String.String}}
use Rattle.pass_json.specs.computed.JsonReading.{has_only_names, only_among}
use Rattle.serde_json.specs.{Data.Members, View.members_view, declared.value.Value.Value}

one_among : (key : List ℕ) (names : List (Bor (List ℕ))) →
    list_any (λ name. bytes_eq key name.now) names ≡ list_any (bytes_eq key) (map (λ name. name.now) names)
one_among key [] = refl
one_among key (name ∷ names) = grind (arith, one_among key names)

all_among : (entries : List (String Global × Value)) (names : List (Bor (List ℕ)))
    → list_all (λ key. list_any (λ name. bytes_eq (string_bytes key) name.now) names) (keys_of entries) ≡ only_among (map (λ name. name.now) names)
    (members_view entries)
all_among [] names = refl
all_among (entry ∷ entries) names = grind (arith, one_among (string_bytes entry.0) names, all_among entries names)

pub returns-in-Some : goal.returns-in-Some
unfolding has_only_names
returns-in-Some c = c.are_among.ensures ∙ all_among c.in-Some.members.now.entries c.args.names.now
    ∙ ap (λ (o : Option Members). unwrap_or (option_map (only_among (map (λ name. name.now) c.args.names.now)) o) false) c.in-Some.ensures

pub returns-in-None : goal.returns-in-None
unfolding has_only_names
returns-in-None c = grind arith
