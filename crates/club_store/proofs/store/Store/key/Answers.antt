use Rattle.club_store.proofs.store.Store.key.Goals as goal
use Rattle.std.proofs.Common.{Some, sym, ap, ◌∙◌}
use Rattle.club_core.specs.Club.{key_named}
use Rattle.club_rows.specs.declared.key.Key.{Key}
use Rattle.club_store.proofs.StoreLemmas.{both_read, read_as, read_failed, with_older}

pub returns-clause-reads : goal.returns-clause-reads
returns-clause-reads g c =
    read_as (both_read (rw c.self.view_is at c.in_ok-row.ensures.reads) c.in_ok-older.ensures.reads) (λ club read.
    ap (λ (key : Key). Some key) c.new.ensures
    ∙ with_older (key_named c.args.name.now club) c.in-Some.row c.in_ok-older.older (sym c.in-Some.is ∙ read.0) read.1)

pub returns-in_err-older-clause-reads : goal.returns-in_err-older-clause-reads
returns-in_err-older-clause-reads g c =
    read_failed (both_read (rw c.self.view_is at c.in_ok-row.ensures.reads) c.in_err-older.ensures.reads) c.from_residual-in_err-older.ensures.1
