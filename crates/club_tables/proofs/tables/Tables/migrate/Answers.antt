use Rattle.club_tables.proofs.tables.Tables.migrate.Goals as goal
use Rattle.club_tables.proofs.Common.{[], ◌∷◌, All, inl, inr, refl, subst, arith, Database, OLDER_ROOT, FailsToPrepare, first_texts, migration}
use Rattle.club_tables.proofs.{Common.{HoldsClubVersion1, IsUnderstood}, OpenLemmas.{batch_failed, keeps_after, opens_after, opens_not, one_more}}

pub returns-in-Ok-clause-opens : goal.returns-in-Ok-clause-opens
returns-in-Ok-clause-opens g c =
    let old = c.args.self.now in
    let mid = c.prepare_all.new.self in
    let kept = c.prepare_all.ensures.kept in
    let quiet = c.prepare_all.ensures.survives in
    opens_after g.S.Store old mid kept quiet c.add_old_roots.ensures.opens
    (keeps_after g.S.Store old mid kept quiet HoldsClubVersion1) (λ club others first. first) (λ earlier clean ran rest.
    let is_open = ran.was_open (omega arith) in
    let same = kept rest earlier is_open in
    let known = c.in-Ok.ensures.understood earlier is_open rest in
    (mid, same.0, subst (λ (db : Database). All (IsUnderstood db.schema) first_texts) same.2 known, same.2, same.1, ran))
    (batch_failed g.S.Store migration (inr (inl refl)) old mid c.add_old_roots.new.self)

pub returns-in-Err-clause-opens : goal.returns-in-Err-clause-opens
returns-in-Err-clause-opens g c =
    opens_not g.S.Store c.args.self.now c.prepare_all.new.self c.prepare_all.ensures.kept c.prepare_all.ensures.survives HoldsClubVersion1 (λ clean.
    let it = c.in-Err.ensures.fault clean in
    record {
      from = it.from;
      after = it.after;
      failure = inr (inr (inl (one_more (λ text. FailsToPrepare g.S.Store text it.from c.prepare_all.new.self c.in-Err.fault) first_texts (OLDER_ROOT.now ∷ [])
          it.failure)));
    })
