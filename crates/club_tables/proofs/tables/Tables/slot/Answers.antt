use Rattle.club_tables.proofs.tables.Tables.slot.Goals as goal
use Rattle.club_tables.proofs.{Common.OfSlot, CrashLemmas.read_answer, JoinLemmas.use_is, MemberLemmas.slot_shown}

pub returns-clause-reads : goal.returns-clause-reads
returns-clause-reads g c =
    let slot = c.args.slot.now in
    read_answer (OfSlot slot) (rw c.of_slot.ensures at c.answer.ensures.gives) c.answer.ensures.kept c.answer.ensures.survives (λ rows can. can)
    (slot_shown g.S.Store c.args.self.now slot) (λ club rows found. use_is club slot rows found)
