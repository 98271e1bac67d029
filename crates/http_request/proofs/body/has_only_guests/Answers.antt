use Rattle.http_request.proofs.Common.{Bool, List, Option, [], ap, bytes_eq, codes, false, list_all, only_named, refl, unwrap_or, ℕ, ◌&&◌, ◌∙◌, ◌∷◌, ◌≡◌}
use Rattle.std.specs.{Map.keys_of, Option.option_map, String.string_bytes, declared.{alloc.Global.Global, string.String.String}}
use Rattle.serde_json.specs.{Data.Members, View.members_view, declared.value.Value.Value}
use Rattle.http_request.proofs.body.has_only_guests.Goals as goal

all_named : (name : List ℕ) (entries : List (String Global × Value))
    → list_all (λ key. bytes_eq (string_bytes key) name) (keys_of entries) ≡ only_named name (members_view entries)
all_named name [] = refl
all_named name (entry ∷ entries) = ap (λ (b : Bool). bytes_eq (string_bytes entry.0) name && b) (all_named name entries)

pub returns-in-Some : goal.returns-in-Some
returns-in-Some c = c.are_guests.ensures ∙ all_named (codes "guests") c.in-Some.members.now.entries
    ∙ ap (λ (o : Option Members). unwrap_or (option_map (only_named (codes "guests")) o) false) c.in-Some.ensures
