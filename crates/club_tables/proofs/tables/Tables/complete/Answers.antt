use Rattle.club_tables.proofs.tables.Tables.complete.Goals as goal
use Rattle.club_tables.proofs.Common.{◌≡◌, All, IsTrue, inl, inr, sym, subst, ◌∙◌, arith, All-push, Ghosts, Database, HasCleanDisk, Held, state, HasOrGetsIndex}
use Rattle.club_tables.proofs.{Common.{EnsuresIndex, Understands, texts_by_key, index_text, HoldsClubVersion2, IsKept, IsUnderstood}, CrashLemmas.opened_after}
use Rattle.club_tables.proofs.OpenLemmas.{keeps_after, opens_after, opens_not, kept_then}

ensured_after : {S : Type 0} (g : Ghosts S) (old mid new : Held S) → HasCleanDisk (state g mid) → HasCleanDisk (state g new) → IsTrue (state g new).is_open
    → IsKept (state g old) (state g mid) → (IsTrue (state g mid).is_open → Understands g texts_by_key mid) → HasOrGetsIndex g mid new → EnsuresIndex g old new
ensured_after g old mid new earlier clean is_open kept known (inl it) =
    let after = it.1 clean is_open in
    let before = kept earlier after.0 in
    let here : (state g mid).now ≡ (state g new).committed = before.1 ∙ sym before.2 ∙ sym after.2 in
    let named : IsUnderstood (state g new).committed.schema index_text = subst (λ (db : Database). IsUnderstood db.schema index_text) here it.0 in
    let rows = subst (λ (db : Database). All (IsUnderstood db.schema) texts_by_key) (sym after.2) (known after.0) in
    inl (
      kept_then (state g old) (state g mid) (state g new) (λ _. earlier) kept it.1,
      All-push (IsUnderstood (state g new).committed.schema) texts_by_key index_text rows named,
    )
ensured_after g old mid new earlier clean is_open kept known (inr it) =
    let opened = it.3.was_open (omega arith) in
    let after = it.2 it.1 opened in
    let before = kept earlier after.0 in
    let rows = subst (λ (db : Database). All (IsUnderstood db.schema) texts_by_key) before.2 (known after.0) in
    inr (it.0, before.0, rows, after.2 ∙ before.2, after.1 ∙ before.2, it.3)

pub returns-in-Ok-clause-opens : goal.returns-in-Ok-clause-opens
returns-in-Ok-clause-opens g c =
    let old = c.args.self.now in
    let mid = c.prepare_all.new.self in
    let new = c.ensure_index.new.self in
    let kept = c.prepare_all.ensures.kept in
    let quiet = c.prepare_all.ensures.survives in
    opens_after g.S.Store old mid kept quiet c.ensure_index.ensures.opens
    (keeps_after g.S.Store old mid kept quiet HoldsClubVersion2) (λ club others second. second)
    (λ earlier clean ensured is_open rest. ensured_after g.S.Store old mid new earlier clean is_open (kept rest) (λ opened.
    c.in-Ok.ensures.understood earlier opened rest) ensured) (opened_after g.S.Store old mid new)

pub returns-in-Err-clause-opens : goal.returns-in-Err-clause-opens
returns-in-Err-clause-opens g c =
    opens_not g.S.Store c.args.self.now c.prepare_all.new.self c.prepare_all.ensures.kept c.prepare_all.ensures.survives HoldsClubVersion2 (λ clean.
    let it = c.in-Err.ensures.fault clean in
    record { from = it.from; after = it.after; failure = inr (inr (inl it.failure)) })
