-- Proves that a sound club can be added to the clubs that a crash may leave.
use Rattle.std.proofs.{Common.{inl, inr, All, List, ◌∷◌}, lemmas.List.Elements.{All-cons, All-head, All-tail}}
use Rattle.club_core.specs.Club.{Club, IsSound}
use Rattle.club_tables.specs.Tables.{Represents}
use Rattle.sqlite.specs.State.{State}

pub sound_widened : (state : State) (club : Club) (others : List Club) (more : Club) → IsSound more
    → All IsSound (club ∷ others) × Represents state club others → All IsSound (club ∷ more ∷ others) × Represents state club (more ∷ others)
sound_widened state club others more sound (all, represents) = (
  All-cons IsSound club (more ∷ others) (All-head IsSound club others all) (All-cons IsSound more others sound (All-tail IsSound club others all)),
  record {
    held = represents.held;
    idle = represents.idle;
    left = λ clean trees may. elim (represents.left clean trees may) [ inl here ↦ inl here | inr there ↦ inr (inr there) ];
  },
)
