use Rattle.club_reference.proofs.club.Club.part.Goals as goal
use Rattle.std.{proofs.Common.{◌∙◌, ap, List}, specs.{Prelude.filter, Str.bytes_eq}}
use Rattle.club_core.specs.Solo.{part_of}
use Rattle.club_reference.{proofs.StepLemmas.{fits_part, fits_same}, specs.{Rows.rows_of, Widths.own_bookings}}
use Rattle.club_rows.specs.declared.{booking.Booking.Booking, key.Key.Key, member.Member.Member}

pub invariant_of-result : goal.invariant_of-result
invariant_of-result c =
    let name = c.args.member.now in
    let keys = λ (ks : List Key). own_bookings ks name c.deref-4.result.now in
    fits_same _ (part_of name (rows_of c.self.inside))
    (c.in_ok-members.ensures ∙ ap (λ (rows : List Member). filter (λ (m : Member). bytes_eq m.name name) rows) c.deref.ensures.value)
    c.in_ok-facilities.ensures
    (c.in_ok-bookings.ensures ∙ (ap keys c.deref-3.ensures.value ∙ ap (λ (rows : List Booking).
    own_bookings c.self.inside.keys.items name rows) c.deref-4.ensures.value))
    (fits_part name (rows_of c.self.inside) c.self.invariant)
