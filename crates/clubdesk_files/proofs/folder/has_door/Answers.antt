use Rattle.std.proofs.Common.{ℕ, IsTrue, subst}
use Rattle.clubdesk_files.specs.Folder as spec
use Rattle.clubdesk_files.specs.Folder.{IsDoor}
use Rattle.clubdesk_files.proofs.folder.has_door.Goals as goal

pub returns-else-is_door-clause-failed : goal.returns-else-is_door-clause-failed
returns-else-is_door-clause-failed g c =
    let none : ¬ IsDoor c.in-Ok.file c.caller.result c.in-Ok-Some.door =
    λ is. let found : IsTrue c.is_door.result = c.is_door.ensures.1 is in let not_found = c.if-is_door.false in cc in
    spec.no_door c.in-Ok-Some.door c.in-Ok.file c.from.ensures (rw c.in-Ok-Some.field-0-is at c.in-Ok-Some.ensures.shown) c.in-Ok.ensures.shown
    (subst (λ (user : ℕ). ¬ IsDoor c.in-Ok.file user c.in-Ok-Some.door) c.caller.ensures none)
