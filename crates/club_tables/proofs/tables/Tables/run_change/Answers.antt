use Rattle.club_tables.proofs.tables.Tables.run_change.Goals as goal

pub returns-in-InsertBooking : goal.returns-in-InsertBooking
returns-in-InsertBooking g c = rw c.in-InsertBooking.is c.book.ensures

pub returns-in-MarkCancelled : goal.returns-in-MarkCancelled
returns-in-MarkCancelled g c = rw c.in-MarkCancelled.is c.cancel.ensures
