use Rattle.club_reference.proofs.sums.recorded_booking.Goals as goal
use Rattle.std.proofs.{Common.{◌∙◌, ◌==◌, ◌&&◌, rules, tests}, lemmas.Iterator.{YieldsList-from_slice, Consumers.YieldsList-from_filter}}
use Rattle.std.{proofs.lemmas.Iterator.Search.find_from_yields_List, specs.Str.bytes_eq}
use Rattle.club_reference.specs.Widths.{is_key_of}
use Rattle.club_rows.specs.declared.booking.Booking.{Booking}

pub returns : goal.returns
returns c =
    c.copied.ensures
    ∙ find_from_yields_List (λ (booking : Booking). bytes_eq booking.key c.args.name.now
    && booking.number == c.args.number) _ _ c.find.result c.find.ensures.ran
    (YieldsList-from_filter _ (λ (booking : Booking). is_key_of c.args.keys.now c.args.member.now booking.key) (YieldsList-from_slice c.args.bookings.now cc)
    c.filter.ensures.closure (λ x b q k. search (rules, tests)))
    (λ x b q k. search (rules, tests))
