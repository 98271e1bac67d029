use Rattle.club_tables.proofs.tables.Tables.facility.Goals as goal
use Rattle.club_tables.proofs.{Common.{OfFacility, facility_named, facility_values, arith}, CrashLemmas.read_answer, JoinLemmas.first_held}
use Rattle.club_tables.proofs.MemberLemmas.{facility_shown}

pub returns-clause-reads : goal.returns-clause-reads
returns-clause-reads g c =
    let name = c.args.name.now in
    read_answer (OfFacility name) (rw c.as_bytes.ensures.value at c.answer.ensures.gives) c.answer.ensures.kept c.answer.ensures.survives (λ rows can. can)
    (facility_shown g.S.Store c.args.self.now name) (λ club rows found. first_held facility_values _ (λ a b h. grind arith) (facility_named name club) rows
    found)
