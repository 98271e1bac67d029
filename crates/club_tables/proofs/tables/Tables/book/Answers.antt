use Rattle.club_tables.proofs.tables.Tables.book.Goals as goal

pub returns : goal.returns
returns g c = rw (c.of_booking-row.ensures, c.of_places-taken.ensures, c.of_charge-charge.ensures) at c.run_three.ensures
