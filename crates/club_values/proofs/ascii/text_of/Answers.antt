use Rattle.club_values.proofs.ascii.text_of.Goals as goal
use Rattle.std.{proofs.{Common.{Result, MatchResult, arith}, lemmas.Str.IsUtf8-from_ascii}, specs.Prelude.IsOk}

no_error : {T E : Type 0} (r : Result T E) (P : T → Type 0) (Q : E → Type 0) → MatchResult r P Q → ((e : E) → Q e → ⊥) → IsOk r
no_error r P Q h never = grind arith

pub unwrap-requires : goal.unwrap-requires
unwrap-requires c = no_error _ _ _ c.from_utf8.ensures.cases (λ e h. h.0 (IsUtf8-from_ascii _ c.requires))
