use Rattle.club_tables.proofs.tables.Tables.open.Goals as goal
use Rattle.club_tables.proofs.Common.{◌≡◌, ◌≢◌, ◌⊎◌, ℕ, List, [], ◌∷◌, All, IsTrue, inl, inr, refl, sym, subst, ◌∙◌, arith, Row, Ghosts, Database, HasCleanDisk}
use Rattle.club_tables.proofs.Common.{Held, state, BoundStatement, IsIdle, IsKept, IsUnderstood, VERSION, HasValues, version_values, HasNoDesk, AcceptsTables}
use Rattle.club_tables.proofs.Common.{YieldsRows, HasRunOver, Upgrade, EnsuresIndex, first_texts, texts_by_key, indexed_texts, table_batch, migration}
use Rattle.club_tables.proofs.{Common.{index_batch, HoldsClubAnyVersion, rules}, CrashLemmas.{opened_after, was_clean, at_once}, MakingLemmas.makes_free}
use Rattle.club_tables.proofs.OpenLemmas.{batch_failed, keeps_after, opens_after, opens_not, found_ready, first_found, second_found}

module _ {S : Type 0} (g : Ghosts S) (old mid new : Held S) (rows : List Row) (earlier : HasCleanDisk (state g mid)) (rest : IsIdle (state g old))
    (kept : IsKept (state g old) (state g mid)) (answered : YieldsRows VERSION.now (state g old).now rows) where
  upgraded : (version : ℕ) (texts : List (List ℕ)) (statements : List BoundStatement) → (row : Row) × (rows ≡ row ∷ []) × HasValues row (version_values version)
      → HasRunOver texts statements g mid new → Upgrade version texts statements g old new
  upgraded version texts statements one it =
      let before = kept earlier it.1 in
      let same = it.3 ∙ before.2 in
      let here = rest before.0 ∙ sym same in
      let returned = subst (λ db. YieldsRows VERSION.now db (one.0 ∷ [])) here (subst (YieldsRows VERSION.now (state g old).now) one.1 answered) in
      record {
        from = it.0;
        found = record {
          ready = record { version_row = (one.0, returned, one.2); by_key = subst (λ (db : Database). All (IsUnderstood db.schema) texts) (sym it.3) it.2 };
          same = same;
        };
        same = it.4 ∙ before.2;
        ran = it.5;
      }

  ensured : HasCleanDisk (state g new) → IsTrue (state g new).is_open → (row : Row) × (rows ≡ row ∷ []) × HasValues row (version_values 2)
      → EnsuresIndex g mid new → AcceptsTables g old new
  ensured clean is_open one (inl it) =
      inl (found_ready (state g old) (state g mid) (state g new) earlier clean is_open rest kept (λ _. it.0) 2 indexed_texts rows one answered (λ _. it.1))
  ensured clean is_open one (inr it) = inr (inl (upgraded 2 texts_by_key index_batch one it))

rests : {S : Type 0} (g : Ghosts S) (old new : Held S) → HasCleanDisk (state g new) → IsKept (state g old) (state g new) → IsIdle (state g new)
rests g old new clean kept opened = let k = kept clean opened in k.1 ∙ sym k.2

abbrev HoldsVersion : List Row → ℕ → Type 0
HoldsVersion rows version = (row : Row) × (rows ≡ row ∷ []) × HasValues row (version_values version)

by_version : {Second First : Type 0} (rows : List Row) → (Second × (rows ≡ version_values 2 ∷ [])) ⊎ (First × (rows ≡ version_values 1 ∷ []))
    → (HoldsVersion rows 2 → Second) × (HoldsVersion rows 1 → First)
by_version rows given = grind (arith, rules)

pub returns-in-Err-Memory-clause-opens : goal.returns-in-Err-Memory-clause-opens
returns-in-Err-Memory-clause-opens g c =
    let old = c.args.self.now in
    let mid = c.version.new.self in
    opens_not g.S.Store old mid (λ rest. c.version.ensures.kept) c.version.ensures.survives HoldsClubAnyVersion (λ clean. record {
      from = old;
      after = at_once g.S.Store old (was_clean (state g.S.Store old) (state g.S.Store mid) _ c.version.ensures.survives clean);
      failure = inl (refl, inl (rw c.in-Err-Memory.field-0-is at (c.in-Err-Memory.ensures.fault clean)));
    })

pub returns-in-Err-Storage-clause-opens : goal.returns-in-Err-Storage-clause-opens
returns-in-Err-Storage-clause-opens g c =
    let old = c.args.self.now in
    let mid = c.version.new.self in
    let new = c.make_tables.new.self in
    opens_after g.S.Store old mid (λ rest. c.version.ensures.kept) c.version.ensures.survives c.make_tables.ensures.opens
    (keeps_after g.S.Store old mid (λ rest. c.version.ensures.kept) c.version.ensures.survives HoldsClubAnyVersion) (λ club others found. found)
    (λ earlier clean ran is_open rest.
    let same = (c.version.ensures.kept earlier (ran.was_open (omega arith))).1 in
    let no_desk_table = subst (λ (db : Database). HasNoDesk db.schema) same (makes_free g.S.Store mid (state g.S.Store new).committed ran) in
    inr (inr (inr (record { from = mid; same = same; no_desk_table = no_desk_table; ran = ran })))) (batch_failed g.S.Store table_batch (inl refl) old mid new)

pub returns-then-is_version-clause-opens : goal.returns-then-is_version-clause-opens
returns-then-is_version-clause-opens g c =
    let old = c.args.self.now in
    let mid = c.version.new.self in
    let new = c.complete.new.self in
    let rows = c.in-Ok.found.items in
    let read = c.in-Ok.ensures.ok in
    let one = rw c.as_slice-rows.ensures.value at (c.is_version.ensures.only c.if-is_version.true) in
    opens_after g.S.Store old mid (λ rest. c.version.ensures.kept) c.version.ensures.survives c.complete.ensures.opens
    (λ earlier club others found. (by_version rows ((read earlier).version_of_club club others found)).0 one) (second_found (state g.S.Store new))
    (λ earlier clean it is_open rest. ensured g.S.Store old mid new rows earlier rest c.version.ensures.kept
    (read earlier).version_rows clean is_open one (it is_open (rests g.S.Store old mid earlier c.version.ensures.kept))) (opened_after g.S.Store old mid new)

pub returns-then-is_version-2-clause-opens : goal.returns-then-is_version-2-clause-opens
returns-then-is_version-2-clause-opens g c =
    let old = c.args.self.now in
    let mid = c.version.new.self in
    let new = c.migrate.new.self in
    let rows = c.in-Ok.found.items in
    let read = c.in-Ok.ensures.ok in
    let one = rw c.as_slice-rows.ensures.value at (c.is_version-2.ensures.only c.if-is_version-2.true) in
    opens_after g.S.Store old mid (λ rest. c.version.ensures.kept) c.version.ensures.survives c.migrate.ensures.opens
    (λ earlier club others found. (by_version rows ((read earlier).version_of_club club others found)).1 one) (first_found (state g.S.Store new))
    (λ earlier clean it is_open rest. inr (inr (inl (upgraded g.S.Store old mid new rows earlier rest c.version.ensures.kept
    (read earlier).version_rows 1 first_texts migration one (it (rests g.S.Store old mid earlier c.version.ensures.kept))))))
    (opened_after g.S.Store old mid new)

pub returns-clause-opens : goal.returns-clause-opens
returns-clause-opens g c =
    let old = c.args.self.now in
    let mid = c.version.new.self in
    let two = rw c.as_slice-rows.ensures.value at c.is_version.ensures.one in
    let one = rw c.as_slice-rows.ensures.value at c.is_version-2.ensures.one in
    let not_two : c.in-Ok.found.items ≢ version_values 2 ∷ [] = λ is. absurd (let yes = two is in let no = c.if-is_version.false in cc) in
    let not_one : c.in-Ok.found.items ≢ version_values 1 ∷ [] = λ is. absurd (let yes = one is in let no = c.if-is_version-2.false in cc) in
    opens_not g.S.Store old mid (λ rest. c.version.ensures.kept) c.version.ensures.survives HoldsClubAnyVersion (λ clean. record {
      from = old;
      after = at_once g.S.Store old (was_clean (state g.S.Store old) (state g.S.Store mid) _ c.version.ensures.survives clean);
      failure = inr (inr (inr (refl, c.in-Ok.found.items, (c.in-Ok.ensures.ok clean).query, not_two, not_one)));
    })
