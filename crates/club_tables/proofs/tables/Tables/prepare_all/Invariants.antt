use Rattle.club_tables.proofs.Common.{IsTrue, All, take, map, Bor, List, ℕ, HasCleanDisk, Survives, state, IsIdle, IsUnderstood, IsUntouched}
use Rattle.club_tables.proofs.tables.Tables.prepare_all.Given as goal

abbrev pub invariant-loop-text : goal.invariant-loop-text
invariant-loop-text g l = record {
  survives : Survives (state g.S.Store l.fn.self) (state g.S.Store l.self) (λ _. ⊥);
  kept : IsUntouched (state g.S.Store l.fn.self) (state g.S.Store l.self);
  known : IsIdle (state g.S.Store l.fn.self) → HasCleanDisk (state g.S.Store l.self) → IsTrue (state g.S.Store l.self).is_open
      → All (IsUnderstood (state g.S.Store l.fn.self).committed.schema) (map (λ (text : Bor (List ℕ)). text.now) (take l.text-index l.texts));
}
