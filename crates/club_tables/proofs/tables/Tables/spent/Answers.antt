use Rattle.club_tables.proofs.tables.Tables.spent.Goals as goal
use Rattle.club_tables.proofs.{Common.{◌∙◌, OfCosts}, CrashLemmas.read_answer, MemberLemmas.costs_shown, NumberLemmas.costs_are}

pub returns-clause-reads : goal.returns-clause-reads
returns-clause-reads g c =
    let key = c.args.key.now in
    read_answer (OfCosts key) (rw c.as_bytes.ensures.value at c.answer.ensures.gives) c.answer.ensures.kept c.answer.ensures.survives (λ rows can. can)
    (costs_shown g.S.Store c.args.self.now key) (λ club rows cost shown are. are.1 ∙ costs_are _ rows shown)
