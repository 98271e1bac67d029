use Rattle.club_store.proofs.store.Store.view.Goals as goal
use Rattle.std.proofs.Common.{◌≡◌, Ok, sym, ◌∙◌}
use Rattle.club_core.specs.Club.{spent_under}
use Rattle.club_store.proofs.StoreLemmas.{both_read, read_as, read_failed, seen_is}
use Rattle.club_tables.specs.ReadsAndChanges.{ReadsClub}

pub returns-clause-reads : goal.returns-clause-reads
returns-clause-reads g c =
    let spent : ReadsClub g.S.Store c.account.new.self c.spent.new.self (Ok c.in_ok-spent.spent)
    (λ club spent. spent ≡ spent_under c.in-Some.key.name club.bookings) = rw c.self.view_is at c.in_ok-spent.ensures.reads in
    let sums = both_read (both_read (both_read c.in_ok-key.ensures.reads c.in_ok-account.ensures.reads) spent) c.in_ok-open_count.ensures.reads in
    let all = both_read (both_read (both_read sums c.in_ok-facility.ensures.reads) c.in_ok-taken.ensures.reads) c.in_ok-booking.ensures.reads in
    read_as all (λ club read.
    let seen = seen_is c.own_bookings_suffice.ensures club c.args.key.now c.in-Some.key c.in-Some-2.account c.args.request.now c.args.moment
    (sym read.0.0.0.0.0.0 ∙ c.in-Some.is) (sym c.in-Some-2.is ∙ read.0.0.0.0.0.1) in
    rw (read.0.0.0.0.1, read.0.0.0.1, read.0.0.1, c.from.ensures, read.0.1, read.1, c.row.ensures) (sym seen))

pub returns-in_err-account-clause-reads : goal.returns-in_err-account-clause-reads
returns-in_err-account-clause-reads g c =
    read_failed (both_read c.in_ok-key.ensures.reads c.in_err-account.ensures.reads) c.from_residual-in_err-account.ensures.1

pub returns-in_err-spent-clause-reads : goal.returns-in_err-spent-clause-reads
returns-in_err-spent-clause-reads g c =
    read_failed (both_read (both_read c.in_ok-key.ensures.reads c.in_ok-account.ensures.reads) (rw c.self.view_is at c.in_err-spent.ensures.reads))
    c.from_residual-in_err-spent.ensures.1

pub returns-in_err-open_count-clause-reads : goal.returns-in_err-open_count-clause-reads
returns-in_err-open_count-clause-reads g c =
    let sums = both_read (both_read c.in_ok-key.ensures.reads c.in_ok-account.ensures.reads) (rw c.self.view_is at c.in_ok-spent.ensures.reads) in
    read_failed (both_read sums c.in_err-open_count.ensures.reads) c.from_residual-in_err-open_count.ensures.1

pub returns-in_err-facility-clause-reads : goal.returns-in_err-facility-clause-reads
returns-in_err-facility-clause-reads g c =
    let sums = both_read (both_read c.in_ok-key.ensures.reads c.in_ok-account.ensures.reads) (rw c.self.view_is at c.in_ok-spent.ensures.reads) in
    read_failed (both_read (both_read sums c.in_ok-open_count.ensures.reads) c.in_err-facility.ensures.reads) c.from_residual-in_err-facility.ensures.1

pub returns-in_err-taken-clause-reads : goal.returns-in_err-taken-clause-reads
returns-in_err-taken-clause-reads g c =
    let sums = both_read (both_read c.in_ok-key.ensures.reads c.in_ok-account.ensures.reads) (rw c.self.view_is at c.in_ok-spent.ensures.reads) in
    let facility = both_read (both_read sums c.in_ok-open_count.ensures.reads) c.in_ok-facility.ensures.reads in
    read_failed (both_read facility c.in_err-taken.ensures.reads) c.from_residual-in_err-taken.ensures.1

pub returns-in_err-booking-clause-reads : goal.returns-in_err-booking-clause-reads
returns-in_err-booking-clause-reads g c =
    let sums = both_read (both_read c.in_ok-key.ensures.reads c.in_ok-account.ensures.reads) (rw c.self.view_is at c.in_ok-spent.ensures.reads) in
    let facility = both_read (both_read sums c.in_ok-open_count.ensures.reads) c.in_ok-facility.ensures.reads in
    read_failed (both_read (both_read facility c.in_ok-taken.ensures.reads) c.in_err-booking.ensures.reads) c.from_residual-in_err-booking.ensures.1
