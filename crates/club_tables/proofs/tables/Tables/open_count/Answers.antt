use Rattle.club_tables.proofs.tables.Tables.open_count.Goals as goal
use Rattle.club_tables.proofs.{Common.{OfOpen, IsCount, ◌∙◌, rules}, CrashLemmas.read_answer, MemberLemmas.open_shown}

pub returns-in-Err-clause-reads : goal.returns-in-Err-clause-reads
returns-in-Err-clause-reads g c =
    read_answer (OfOpen c.args.member.now c.args.moment) {IsAnswer = IsCount} (search rules) c.ask.ensures.kept c.ask.ensures.survives (λ rows can. can)
    (open_shown g.S.Store c.args.self.now c.args.member.now c.args.moment) (λ club rows count shown is. is ∙ shown)

pub returns-clause-reads : goal.returns-clause-reads
returns-clause-reads g c =
    read_answer (OfOpen c.args.member.now c.args.moment) {IsAnswer = IsCount} (search rules) c.ask.ensures.kept c.ask.ensures.survives (λ rows can. can)
    (open_shown g.S.Store c.args.self.now c.args.member.now c.args.moment) (λ club rows count shown is. is ∙ shown)
