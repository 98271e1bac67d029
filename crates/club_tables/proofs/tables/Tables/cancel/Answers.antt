use Rattle.club_tables.proofs.tables.Tables.cancel.Goals as goal

pub returns : goal.returns
returns g c = rw (c.of_refund-mark.ensures, c.of_return-used.ensures, c.of_freed-taken.ensures) at c.run_three.ensures
