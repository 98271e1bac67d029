use Rattle.club_tables.proofs.Common.{◌≡◌, ◌≤◌, length, take, vec_len, vec_capacity, AreBookings}
use Rattle.club_tables.proofs.row.bookings_in.Given as goal

abbrev pub invariant-loop-row : goal.invariant-loop-row
invariant-loop-row l = AreBookings (take l.row-index l.rows) l.bookings.items × (vec_len l.bookings ≡ l.row-index) × (length l.rows ≤ vec_capacity l.bookings)
