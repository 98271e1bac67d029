use Rattle.club_tables.proofs.tables.Tables.most_taken.Goals as goal
use Rattle.club_tables.proofs.{Common.{◌∙◌, OfTaken}, CrashLemmas.read_answer, NumberLemmas.taken_shown}

pub returns-clause-reads : goal.returns-clause-reads
returns-clause-reads g c =
    let facility = c.args.facility.now in
    read_answer (OfTaken facility) (rw c.as_bytes.ensures.value at c.answer.ensures.gives) c.answer.ensures.kept c.answer.ensures.survives (λ rows can. can)
    (taken_shown g.S.Store c.args.self.now facility) (λ club rows most shown is. is.1 ∙ shown)
