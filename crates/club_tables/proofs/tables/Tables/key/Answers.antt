use Rattle.club_tables.proofs.tables.Tables.key.Goals as goal
use Rattle.club_tables.proofs.{Common.{OfKey, IsKeyIn, key_named, key_values, row_of_key, arith}, CrashLemmas.read_answer, JoinLemmas.{first_of, truths}}
use Rattle.club_tables.proofs.MemberLemmas.{key_shown}

pub returns-clause-reads : goal.returns-clause-reads
returns-clause-reads g c =
    let name = c.args.name.now in
    read_answer (OfKey name) (rw c.as_bytes.ensures.value at c.answer.ensures.gives) c.answer.ensures.kept c.answer.ensures.survives (λ rows can. can)
    (key_shown g.S.Store c.args.self.now name) (λ club rows found.
    first_of key_values row_of_key IsKeyIn (λ a b yielded. grind (arith, truths)) (key_named name club) rows found)
