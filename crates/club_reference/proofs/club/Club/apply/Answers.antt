use Rattle.std.proofs.{Common.{◌≡◌, List, length, map, sym, ap, subst, ◌∙◌}, lemmas.List.{length-map, with_items_is}}
use Rattle.club_core.specs.{After.{after, cancelled_booking}, Club.Club, declared.change.Change.Change}
use Rattle.club_reference.specs.{Rows.rows_of, Widths.FitsWidths}
use Rattle.club_rows.specs.declared.booking.Booking.{Booking}
use Rattle.club_reference.proofs.club.Club.apply.Goals as goal

-- After a cancellation, the club still satisfies its invariant.
pub invariant_of-self-in-MarkCancelled : goal.invariant_of-self-in-MarkCancelled
invariant_of-self-in-MarkCancelled c =
    let inside = c.self.inside in
    let booking = c.in-MarkCancelled.booking in
    let edit : Booking → Booking = cancelled_booking booking.key booking.number c.in-MarkCancelled.refund in
    let made : c.cancel.new.bookings ≡ map edit inside.bookings.items = c.cancel.ensures ∙ ap (map edit) c.deref_mut-in-MarkCancelled.ensures.value in
    let count : length c.cancel.new.bookings ≡ inside.bookings.len =
    ap length made ∙ (length-map inside.bookings.items edit ∙ sym inside.bookings.ok.0) in
    let fits = subst (λ (change : Change). FitsWidths (after change c.args.self.now)) c.in-MarkCancelled.is c.requires in
    let edited : FitsWidths (record (rows_of inside) { bookings = map edit inside.bookings.items }) =
    subst (λ (club : Club). FitsWidths (record club { bookings = map edit club.bookings })) (sym c.self.view_is) fits in
    subst (λ (bookings : List Booking). FitsWidths (record (rows_of inside) { bookings = bookings }))
    (sym made ∙ sym (with_items_is inside.bookings c.cancel.new.bookings count)) edited
