use Rattle.club_rows.proofs.booking.Booking.from_columns.Goals as goal
use Rattle.std.proofs.Common.{◌≤◌, Bool, true, false, arith}
use Rattle.club_rows.{proofs.ColumnLemmas.column-pos, specs.Columns.truth}

small_truth : (b : Bool) → truth b ≤ 999_999_999
small_truth true = omega arith
small_truth false = omega arith

pub returns-in_err-guests : goal.returns-in_err-guests
returns-in_err-guests c =
    rw c.from_residual-in_err-guests.ensures
    (λ booking of. c.in_err-guests.ensures booking.guests (of.row.guests, column-pos _ _ (omega arith) of.same_guests))

pub returns-in_err-left : goal.returns-in_err-left
returns-in_err-left c =
    rw c.from_residual-in_err-left.ensures
    (λ booking of. c.in_err-left.ensures booking.left (omega arith, of.row.left, column-pos _ _ (omega arith) of.same_left))

pub returns-in_err-charge : goal.returns-in_err-charge
returns-in_err-charge c =
    rw c.from_residual-in_err-charge.ensures
    (λ booking of. c.in_err-charge.ensures (booking.charge, booking.cancelled, booking.refund)
    (record {
      same_charge = column-pos _ _ (omega arith) of.same_charge;
      same_cancelled = column-pos _ _ (small_truth booking.cancelled) of.same_cancelled;
      same_refund = column-pos _ _ (omega arith) of.same_refund;
      largest = of.row.charge;
      at_most = of.row.refund;
      kept = of.row.kept;
    }))
