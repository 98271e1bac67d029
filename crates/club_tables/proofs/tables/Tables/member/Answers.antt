use Rattle.club_tables.proofs.tables.Tables.member.Goals as goal
use Rattle.club_tables.proofs.{Common.{OfMember, option_map, member_named, member_row, member_values, arith}, CrashLemmas.read_answer, JoinLemmas.first_held}
use Rattle.club_tables.proofs.MemberLemmas.{member_shown}

pub returns-clause-reads : goal.returns-clause-reads
returns-clause-reads g c =
    let name = c.args.name.now in
    read_answer (OfMember name) (rw c.as_bytes.ensures.value at c.answer.ensures.gives) c.answer.ensures.kept c.answer.ensures.survives (λ rows can. can)
    (member_shown g.S.Store c.args.self.now name) (λ club rows found.
    first_held member_values _ (λ a b h. grind arith) (option_map (member_row club) (member_named name club)) rows found)
