use Rattle.club_gate.proofs.laws.finds_names.Goals as goal
use Rattle.std.proofs.{Common.{codes, cond, drop}, lemmas.{List.take-append-drop, Slice.Eq.bytes_eq-Decides}}
use Rattle.club_gate.{proofs.Common.{Bool, List, None, Option, Some, arith, bytes_eq, refl, sym, take, true, ℕ, ◌∙◌, ◌≡◌}, specs.DecodedPass.identifier_of}
use Rattle.club_gate.specs.DecodedPass.{key_name_in}
use Rattle.club_values.specs.{Laws.ReadsNames, Name.IsName, computed.TextOf.name_of_text}

found : (b : Bool) (o : Option (List ℕ)) (name : List ℕ) → cond b o None ≡ Some name → (b ≡ true) × (o ≡ Some name)
found b o name e = grind arith

name_found : ReadsNames → (identifier name : List ℕ) → key_name_in identifier ≡ Some name → IsName name × (identifier ≡ identifier_of name)
unfolding key_name_in
name_found reads identifier name e =
    let parts = found (bytes_eq (take 4 identifier) (codes "key:")) (name_of_text (drop 4 identifier)) name e in
    let front : take 4 identifier ≡ codes "key:" = (bytes_eq-Decides (take 4 identifier) (codes "key:")).0 parts.0 in
    let named = (reads (drop 4 identifier) name).0 parts.1 in
    (rw named.1 named.0, sym (take-append-drop 4 identifier) ∙ rw (front, named.1) refl)

name_there : ReadsNames → (identifier name : List ℕ) → IsName name → identifier ≡ identifier_of name → key_name_in identifier ≡ Some name
unfolding key_name_in
name_there reads identifier name named e = grind arith

pub returns : goal.returns
returns c = λ identifier name. (name_found c.reads_names.ensures identifier name, λ (h : _). name_there c.reads_names.ensures identifier name h.0 h.1)
