use Rattle.http_request.proofs.{Common.{List, ap, following_parts, segments, sym, ℕ, ◌∙◌, ◌∷◌, ◌≡◌}, RouteLemmas.past_number}
use Rattle.http_request.proofs.path.at_slot.Goals as goal

pub returns-then-is_some : goal.returns-then-is_some
returns-then-is_some c =
    let word = c.next_part.result.0.now in
    let number = c.next_part-2.result.0.now in
    let first : following_parts c.args.rest ≡ segments c.in-Some.rest.now = ap following_parts c.in-Some.is in
    let second : following_parts c.next_part.result.1 ≡ segments c.in_ok-rest.field-0.now = ap following_parts c.in_ok-rest.was in
    let all = first ∙ c.next_part.ensures ∙ ap (λ (parts : List (List ℕ)). word ∷ parts) (second ∙ c.next_part-2.ensures) in
    rw all (sym (past_number c.args.slot word number c.next_part-2.result.1 (sym c.is_some.ensures ∙ c.if-is_some.true)))
