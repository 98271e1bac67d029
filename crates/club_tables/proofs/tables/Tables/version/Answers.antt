use Rattle.club_tables.proofs.tables.Tables.version.Goals as goal
use Rattle.club_tables.proofs.Common.{inl, inr, IfOk-weaker, HasCleanDisk, Database, state, Club, HoldsClubVersion1, HoldsClubVersion2}
use Rattle.club_tables.proofs.{CrashLemmas.{represents_on, was_clean}, MakingLemmas.version_answered, OpenLemmas.version_returned}

pub returns-clause-ok : goal.returns-clause-ok
returns-clause-ok g c clean =
    let old = c.args.self.now in
    let new = c.ask.new.self in
    let earlier : HasCleanDisk (state g.S.Store old) = was_clean (state g.S.Store old) (state g.S.Store new) _ c.ask.ensures.survives clean in
    IfOk-weaker c.ask.result _ _ (λ rows asked. record {
      query = asked clean;
      version_rows = version_answered _ _ rows.items (asked clean).shown;
      version_of_club = λ club others found.
          let stays = λ (H : Database → Club → Type 0).
          represents_on H (state g.S.Store old) (state g.S.Store new) c.ask.ensures.kept c.ask.ensures.survives club others in
          elim (version_returned g.S.Store old rows.items earlier (asked clean) club others found) [
            | inl now ↦ inl (stays HoldsClubVersion2 now.0, now.1)
            | inr first ↦ inr (stays HoldsClubVersion1 first.0, first.1)
          ];
    }) c.ask.ensures.asked
