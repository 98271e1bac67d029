use Rattle.club_tables.proofs.tables.Tables.older_root.Goals as goal
use Rattle.club_tables.proofs.{Common.{OfOlderRoot, older_root_of, older_root_values, arith}, CrashLemmas.read_answer, JoinLemmas.first_held}
use Rattle.club_tables.proofs.MemberLemmas.{older_shown}

pub returns-clause-reads : goal.returns-clause-reads
returns-clause-reads g c =
    let name = c.args.key.now in
    read_answer (OfOlderRoot name) (rw c.as_bytes.ensures.value at c.answer.ensures.gives) c.answer.ensures.kept c.answer.ensures.survives (λ rows can. can)
    (older_shown g.S.Store c.args.self.now name) (λ club rows found. first_held older_root_values _ (λ a b h. grind arith) (older_root_of name club) rows found)
