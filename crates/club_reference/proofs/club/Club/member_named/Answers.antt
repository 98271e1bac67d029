use Rattle.std.{proofs.{Common.{◌∙◌, ap, rules, tests}, lemmas.Iterator.{YieldsList-from_slice, Search.find_from_yields_List}}, specs.Str.bytes_eq}
use Rattle.club_rows.specs.declared.member.Member.{Member}
use Rattle.club_core.specs.Club.{Club as Rows, member_named}
use Rattle.club_reference.proofs.club.Club.member_named.Goals as goal

pub returns : goal.returns
returns c =
    c.copied.ensures
    ∙ (find_from_yields_List (λ (row : Member). bytes_eq row.name c.args.name.now) _ _ c.find.result c.find.ensures.ran
    (YieldsList-from_slice c.self.inside.members.items cc) (λ x b q k. search (rules, tests))
    ∙ ap (λ (club : Rows). member_named c.args.name.now club) c.self.view_is)
