-- Lemmas about the points and the places of a club after each reply and after a run.
use Rattle.std.proofs.Common.{◌≡◌, ℕ, true, List, [], ◌∷◌, ◌++◌, map, Option, Some, None, refl, ap, ◌∙◌, arith, find, get_or, ◌+◌, Bool, false, cond, not, ◌&&◌}
use Rattle.std.proofs.{Common.{◌||◌, ◌==◌, filter, sum_by, AllPairs, ◌≤◌, sym, ◌-◌, All, MatchOption, option_map}, lemmas.List.Elements.All-weaker}
use Rattle.std.proofs.lemmas.List.{Elements.{filter_agree, All-head, All-tail, All-filter}, Filters.sum_by-filter_both, Folds.{map_fixed, find-append}}
use Rattle.std.{proofs.lemmas.List.{Folds.{list_any-append, list_any_none}, Sums.sum_by-cons}, specs.{List.list_any, Str.bytes_eq}}
use Rattle.club_core.specs.{After.cancelled_booking, Basis.club_account, Club.{Club, booking_under, IsSound, empty_club, member_named, facility_named}}
use Rattle.club_core.specs.{Club.{is_key_of, bookings_of, cost_of, taken_in, is_under}, Laws.OwnBookings, Run.{after_change, Event, Asked, Commanded, step}}
use Rattle.club_core.specs.{Run.{ToMember, EventReply, replies_of, club_after, Outcome, IsEvent}, declared.command.Command.TheVariants.CancelBooking}
use Rattle.club_core.specs.declared.{reply.Reply.TheVariants.Booked, verdict.Verdict.Verdict}
use Rattle.club_laws.proofs.AnswerCases.{answer_cases, written, is_numbered, numbered, found_by_own, find-map, filter-filter, filter-map, sum-map, sum_one_more}
use Rattle.club_laws.proofs.AnswerCases.{found_passes, AreApart, found_is_there, none_found, any_passes, any-map, AllPairs-head, AllPairs-tail, numbered_back}
use Rattle.club_laws.proofs.{AnswerCases.{only_numbered, cancel_cases, at_found, named, none_named}, MemberParts.{is_among, keys_of_run, credit_of}}
use Rattle.club_laws.{proofs.{MemberParts.credit_of_run, SoundSteps.{sound_step, sound_run, nobody_in, covered}}, specs.Conservation.ConservesPoints}
use Rattle.club_laws.specs.Conservation.{ConservesWithoutCorrections, IsNoCorrection, SoundClubsHavePlaces, NeverOverbooks, Entry, charge_told, charge_of_reply}
use Rattle.club_laws.specs.Conservation.{is_entry_of, firsts, refund_given, refunds_by, refunds_given, refund_of_reply, charges_of_replies, refunds_of_replies}
use Rattle.club_laws.specs.Conservation.{keys_given, debits_accepted, total_under, AccountsShowWhatIsUsed, SpendsWithinItsMember}
use Rattle.club_rows.specs.{Rows.{refund_at, IsBooking}, declared.{booking.Booking.Booking, facility.Facility.Facility, member.Member.Member}}
use Rattle.club_values.specs.declared.slot.Slot.{Slot}

-- The charge of the booking, or the default `other` if there is no booking.
abbrev pub charge_or : Option Booking → ℕ → ℕ
charge_or None other = other
charge_or (Some booking) other = booking.charge

-- For each key and number, the first charge in the list `told` is the charge on record. If no
-- booking is on record, the first charge comes from the later entries.
abbrev pub Tells : List Entry → List Booking → List Entry → Type 0
Tells told bookings later =
    (key : List ℕ) (number : ℕ) → charge_told key number told ≡ charge_or (booking_under key number bookings) (charge_told key number later)

-- The entries state the charges of the bookings that are only in `new_bookings`.
abbrev pub TellsNew : List Booking → List Booking → List Entry → Type 0
TellsNew bookings new_bookings entries =
    (later : List Entry) (key : List ℕ) (number : ℕ)
    → charge_or (booking_under key number bookings) (charge_told key number (entries ++ later))
    ≡ charge_or (booking_under key number new_bookings) (charge_told key number later)

found_alike : (booking : Booking) (bookings : List Booking) (key : List ℕ) (number : ℕ) → is_numbered key number booking ≡ true
    → find (is_numbered key number) bookings ≡ find (is_numbered booking.key booking.number) bookings
found_alike booking bookings key number is =
    let it = numbered key number booking is in rw (it.0, it.1) refl

told_again : (bookings : List Booking) (key : List ℕ) (number : ℕ) (booking : Booking) → find (is_numbered key number) bookings ≡ Some booking
    → TellsNew bookings bookings (charge_of_reply (ToMember (Booked booking.key booking.number booking.charge booking.left)))
told_again bookings key number booking found later k n =
    let own = found_by_own key number booking bookings found in grind (arith, found_alike booking bookings k n)

told_first : (bookings : List Booking) (new : Booking) → find (is_numbered new.key new.number) bookings ≡ None
    → TellsNew bookings (bookings ++ new ∷ []) (charge_of_reply (ToMember (Booked new.key new.number new.charge new.left)))
told_first bookings new none later k n = grind (arith, found_alike new bookings k n, find-append (is_numbered k n) bookings (new ∷ []))

told_marked : (bookings : List Booking) (key : List ℕ) (number refund : ℕ) → TellsNew bookings (map (cancelled_booking key number refund) bookings) []
told_marked bookings key number refund later k n = grind (arith, find-map (is_numbered k n) (cancelled_booking key number refund) (λ b. refl) bookings)

pub told_by_step : (club : Club) (event : Event) → TellsNew club.bookings (step club event).club.bookings (charge_of_reply (step club event).reply)
told_by_step club (Asked words moment) =
    answer_cases (λ (v : Verdict). TellsNew club.bookings (after_change v.change club).bookings (charge_of_reply (ToMember v.reply))) club words
    moment (record {
      silent = λ reply h. grind arith;
      repeats_booking = λ key member slot number guests booking k e found same. told_again club.bookings key.name number booking found;
      books = λ key member slot number guests facility k e b. told_first club.bookings (written club key slot number guests facility) b.new;
      cancels_recorded = λ key member slot number booking k e found same before later name n. refl;
      cancels = λ key member slot number booking k e c. told_marked club.bookings booking.key booking.number (refund_at booking moment);
    })
told_by_step club (Commanded (CancelBooking name number)) = λ later key n.
    let told = λ (b : Booking). told_marked club.bookings b.key b.number b.charge later key n in grind (arith, told)
told_by_step club (Commanded command) = λ later key n. grind arith

-- A record of the keys and numbers of earlier entries. The record is a function. It tests whether
-- an earlier entry has a given key and number.
abbrev pub Seen : Type 0
Seen = List ℕ → ℕ → Bool

-- The record after an entry's key and number were added.
abbrev pub with_entry : Entry → Seen → Seen
with_entry entry seen key number = seen key number || (bytes_eq key entry.key && number == entry.number)

-- Whether an entry adds points to a total. The entry's key must pass the test `p`, and its key and
-- number must be new to the record.
abbrev pub counts : (List ℕ → Bool) → Seen → Entry → Bool
counts p seen entry = p entry.key && not (seen entry.key entry.number)

abbrev pub points_of : Entry → ℕ
points_of entry = entry.points

-- The sum of the points that the entries add to a total. For each key and number, only the first
-- entry counts.
abbrev pub unseen_total : (List ℕ → Bool) → Seen → List Entry → ℕ
unseen_total p seen entries = sum_by points_of (filter (counts p seen) (firsts entries))

next_entry : (p : List ℕ → Bool) (seen : Seen) (entry : Entry) (entries : List Entry)
    → unseen_total p seen (entry ∷ entries) ≡ cond (counts p seen entry) entry.points 0 + unseen_total p (with_entry entry seen) entries
next_entry p seen entry entries =
    let others : Entry → Bool = λ (other : Entry). not (is_entry_of entry.key entry.number other) in
    let kept = filter (counts p seen) (filter others (firsts entries)) in
    let rest : kept ≡ filter (counts p (with_entry entry seen)) (firsts entries) =
    filter-filter (counts p seen) others (firsts entries) ∙ filter_agree (λ other. others other
    && counts p seen other) (counts p (with_entry entry seen)) (λ other. grind arith) (firsts entries) in
    grind (arith, sum_by-cons points_of entry kept)

same_unseen : (p : List ℕ → Bool) (seen new_seen : Seen) (entries : List Entry) → ((key : List ℕ) (number : ℕ) → new_seen key number ≡ seen key number)
    → unseen_total p new_seen entries ≡ unseen_total p seen entries
same_unseen p seen new_seen entries h =
    ap (sum_by points_of) (filter_agree (counts p new_seen) (counts p seen) (λ entry. rw (h entry.key entry.number)) (firsts entries))

-- The entries of a reply raise the total from `total` to `new_total`, and update the record from
-- `seen` to `new_seen`.
abbrev pub Moves : (List ℕ → Bool) → ℕ → ℕ → Seen → Seen → List Entry → Type 0
Moves p total new_total seen new_seen entries = (rest : List Entry) → new_total + unseen_total p new_seen rest ≡ total + unseen_total p seen (entries ++ rest)

pub stays : (p : List ℕ → Bool) (total new_total : ℕ) (seen new_seen : Seen) → new_total ≡ total
    → ((key : List ℕ) (number : ℕ) → new_seen key number ≡ seen key number) → Moves p total new_total seen new_seen []
stays p total new_total seen new_seen same kept rest = let later = same_unseen p seen new_seen rest kept in omega arith

adds : (p : List ℕ → Bool) (total new_total : ℕ) (seen new_seen : Seen) (entry : Entry) → new_total ≡ total + cond (counts p seen entry) entry.points 0
    → ((key : List ℕ) (number : ℕ) → new_seen key number ≡ with_entry entry seen key number) → Moves p total new_total seen new_seen (entry ∷ [])
adds p total new_total seen new_seen entry more kept rest =
    let later = same_unseen p (with_entry entry seen) new_seen rest kept in omega (arith, next_entry p seen entry rest)

-- The total of an amount over the bookings under keys that pass the test `p`.
abbrev pub total : (Booking → ℕ) → (List ℕ → Bool) → List Booking → ℕ
total amount p bookings = sum_by amount (filter (λ (b : Booking). p b.key) bookings)

-- Whether one of the bookings passes the test `told` and has this key and number.
abbrev pub has_told : (Booking → Bool) → List Booking → Seen
has_told told bookings key number = list_any (λ (b : Booking). told b && is_numbered key number b) bookings

abbrev pub MovesTotal : (Booking → ℕ) → (Booking → Bool) → (List ℕ → Bool) → List Booking → List Booking → List Entry → Type 0
MovesTotal amount told p bookings new_bookings entries =
    Moves p (total amount p bookings) (total amount p new_bookings) (has_told told bookings) (has_told told new_bookings) entries

-- An entry of a booking that already counts doesn't change the total.
pub moves_again : (amount : Booking → ℕ) (told : Booking → Bool) (p : List ℕ → Bool) (bookings : List Booking) (key : List ℕ) (number points : ℕ)
    (booking : Booking) → find (is_numbered key number) bookings ≡ Some booking → told booking ≡ true
    → MovesTotal amount told p bookings bookings (record { key = key; number = number; points = points } ∷ [])
moves_again amount told p bookings key number points booking found before =
    let own = found_passes (is_numbered key number) bookings booking found in
    let it = numbered key number booking own in
    let there = λ (k : List ℕ) (n : ℕ). any_passes (λ (b : Booking). told b && is_numbered k n b) bookings booking
    (found_is_there (is_numbered key number) bookings booking found) in
    adds p _ _ (has_told told bookings) _ (record { key = key; number = number; points = points }) (grind (arith, there key number))
    (λ k n. grind (arith, there k n, numbered_back k n booking))

-- All bookings count towards the total charge.
abbrev pub MovesCharge : (List ℕ → Bool) → List Booking → List Booking → List Entry → Type 0
MovesCharge = MovesTotal (λ (b : Booking). b.charge) (λ (b : Booking). true)

pub charge_new : (p : List ℕ → Bool) (bookings : List Booking) (new : Booking) → find (is_numbered new.key new.number) bookings ≡ None
    → MovesCharge p bookings (bookings ++ new ∷ []) (record { key = new.key; number = new.number; points = new.charge } ∷ [])
charge_new p bookings new none =
    let unseen = list_any_none (is_numbered new.key new.number) bookings (none_found (is_numbered new.key new.number) bookings none) in
    let more = sum_one_more (λ (b : Booking). b.charge) (λ (b : Booking). p b.key) bookings new in
    adds p _ _ (has_told (λ (b : Booking). true) bookings) _ (record { key = new.key; number = new.number; points = new.charge }) (grind arith)
    (λ key number. grind (arith, list_any-append (is_numbered key number) bookings (new ∷ []), numbered_back key number new))

pub charge_cancelled : (p : List ℕ → Bool) (bookings : List Booking) (key : List ℕ) (number refund : ℕ)
    → MovesCharge p bookings (map (cancelled_booking key number refund) bookings) []
charge_cancelled p bookings key number refund =
    let mark = cancelled_booking key number refund in
    stays p _ _ (has_told (λ (b : Booking). true) bookings) _
    (ap (sum_by (λ (b : Booking). b.charge)) (filter-map mark (λ (b : Booking). p b.key) bookings)
    ∙ sum-map mark (λ (b : Booking). b.charge) (filter (λ (b : Booking). p b.key) bookings))
    (λ k n. any-map mark (is_numbered k n) bookings)

-- Only the cancelled bookings count towards the total refund.
abbrev pub MovesRefund : (List ℕ → Bool) → List Booking → List Booking → List Entry → Type 0
MovesRefund = MovesTotal (λ (b : Booking). b.refund) (λ (b : Booking). b.cancelled)

pub refund_booked : (p : List ℕ → Bool) (bookings : List Booking) (new : Booking) → new.refund ≡ 0 → new.cancelled ≡ false
    → MovesRefund p bookings (bookings ++ new ∷ []) []
refund_booked p bookings new none is_live =
    let more = sum_one_more (λ (b : Booking). b.refund) (λ (b : Booking). p b.key) bookings new in
    stays p _ _ (has_told (λ (b : Booking). b.cancelled) bookings) _ (grind arith) (λ key number.
    grind (arith, list_any-append (λ (b : Booking). b.cancelled && is_numbered key number b) bookings (new ∷ [])))

module _ (key : List ℕ) (number refund : ℕ) where
  -- Only the first booking of the list has this key and number.
  first_alone : (booking : Booking) (bookings : List Booking) → AllPairs AreApart (booking ∷ bookings) → is_numbered key number booking ≡ true
      → map (cancelled_booking key number refund) bookings ≡ bookings
  first_alone booking bookings unique own =
      let same = λ (b : Booking). numbered key number b in
      map_fixed (cancelled_booking key number refund) bookings (λ k d short.
      let apart = AllPairs-head AreApart booking bookings unique k d short in grind (arith, same booking, same (get_or bookings k d)))

  refund_marked : (p : List ℕ → Bool) (bookings : List Booking) (booking : Booking) → AllPairs AreApart bookings
      → find (is_numbered key number) bookings ≡ Some booking → booking.cancelled ≡ false → booking.refund ≡ 0
      → total (λ (b : Booking). b.refund) p (map (cancelled_booking key number refund) bookings)
      ≡ total (λ (b : Booking). b.refund) p bookings + cond (p key) refund 0
  refund_marked p [] booking unique found live none = absurd (cc)
  refund_marked p (b ∷ bookings) booking unique found live none =
      let alone = first_alone b bookings unique in
      let rest = refund_marked p bookings booking (AllPairs-tail AreApart b bookings unique) in
      let kept = λ (x : Booking). sum_by-cons (λ (y : Booking). y.refund) x in
      grind (arith, numbered key number b, kept b, kept (cancelled_booking key number refund b))

  seen_marked : (bookings : List Booking) (booking : Booking) → AllPairs AreApart bookings → find (is_numbered key number) bookings ≡ Some booking
      → booking.cancelled ≡ false → (k : List ℕ) (n : ℕ) → has_told (λ (b : Booking). b.cancelled) (map (cancelled_booking key number refund) bookings) k n
      ≡ (has_told (λ (b : Booking). b.cancelled) bookings k n || (bytes_eq k key && n == number))
  seen_marked [] booking unique found live k n = absurd (cc)
  seen_marked (b ∷ bookings) booking unique found live k n =
      let alone = first_alone b bookings unique in
      let rest = seen_marked bookings booking (AllPairs-tail AreApart b bookings unique) in
      grind (arith, numbered key number b, numbered_back k n b, rest)

pub refund_new : (p : List ℕ → Bool) (bookings : List Booking) (key : List ℕ) (number refund : ℕ) (booking : Booking) → AllPairs AreApart bookings
    → find (is_numbered key number) bookings ≡ Some booking → booking.cancelled ≡ false → booking.refund ≡ 0
    → MovesRefund p bookings (map (cancelled_booking key number refund) bookings) (record { key = key; number = number; points = refund } ∷ [])
refund_new p bookings key number refund booking unique found live none =
    let unseen = list_any_none (λ (b : Booking). b.cancelled && is_numbered key number b) bookings
    (All-weaker (λ b. is_numbered key number b ≡ true → b ≡ booking) (λ (b : Booking). (b.cancelled && is_numbered key number b) ≡ false)
    (λ b is. grind arith) bookings (only_numbered key number bookings booking unique found)) in
    let sum = refund_marked key number refund p bookings booking unique found live none in
    adds p _ _ (has_told (λ (b : Booking). b.cancelled) bookings) _ (record { key = key; number = number; points = refund }) (grind arith)
    (seen_marked key number refund bookings booking unique found live)

-- An event increases the total of the refunds by the refund that the event gives.
abbrev MovesRefunds : (List ℕ → Bool) → List Entry → Club → Event → Outcome → Type 0
MovesRefunds p told club event next = MovesRefund p club.bookings next.club.bookings (refund_given told event next.reply)

charge_step : (p : List ℕ → Bool) (club : Club) (event : Event) → MovesCharge p club.bookings (step club event).club.bookings
    (charge_of_reply (step club event).reply)
charge_step p club (Asked words moment) =
    answer_cases (λ (v : Verdict). MovesCharge p club.bookings (after_change v.change club).bookings (charge_of_reply (ToMember v.reply))) club words
    moment (record {
      silent = λ reply h. grind arith;
      repeats_booking = λ key member slot number guests booking k e found same.
          moves_again _ (λ (b : Booking). true) p club.bookings _ _ _ booking (found_by_own key.name number booking club.bookings found) refl;
      books = λ key member slot number guests facility k e b. charge_new p club.bookings (written club key slot number guests facility) b.new;
      cancels_recorded = λ key member slot number booking k e found same before rest. refl;
      cancels = λ key member slot number booking k e c. charge_cancelled p club.bookings booking.key booking.number (refund_at booking moment);
    })
charge_step p club (Commanded (CancelBooking key number)) =
    cancel_cases (λ o. MovesCharge p club.bookings o.club.bookings (charge_of_reply o.reply)) club key number (λ fault rest. refl) (λ b e before rest. refl)
    (λ row b e live. charge_cancelled p club.bookings b.key b.number b.charge)
charge_step p club (Commanded command) =
    let same : (step club (Commanded command)).club.bookings ≡ club.bookings = grind arith in
    let none : charge_of_reply (step club (Commanded command)).reply ≡ [] = grind arith in rw (same, none) (λ rest. refl)

refund_step : (p : List ℕ → Bool) (told : List Entry) (club : Club) (event : Event) (later : List Entry) → IsSound club → Tells told club.bookings later
    → MovesRefunds p told club event (step club event)
refund_step p told club (Asked words moment) later s tells =
    answer_cases (λ (v : Verdict). MovesRefund p club.bookings (after_change v.change club).bookings (refund_of_reply (ToMember v.reply))) club words
    moment (record {
      silent = λ reply h. grind arith;
      repeats_booking = λ key member slot number guests booking k e found same rest. refl;
      books = λ key member slot number guests facility k e b. refund_booked p club.bookings (written club key slot number guests facility) refl refl;
      cancels_recorded = λ key member slot number booking k e found same before.
          moves_again _ (λ (b : Booking). b.cancelled) p club.bookings _ _ _ booking (found_by_own key.name number booking club.bookings found) before;
      cancels = λ key member slot number booking k e c.
          let row = at_found IsBooking (is_numbered key.name number) club.bookings booking s.rows.bookings c.found in
          refund_new p club.bookings booking.key booking.number (refund_at booking moment) booking s.unique.bookings
          (found_by_own key.name number booking club.bookings c.found) c.still_booked (row.kept c.still_booked);
    })
refund_step p told club (Commanded (CancelBooking key number)) later s tells =
    cancel_cases (MovesRefunds p told club (Commanded (CancelBooking key number))) club key number (λ fault rest. grind arith)
    (λ booking found before. moves_again _ (λ b. b.cancelled) p club.bookings key number (charge_told key number told) booking found before)
    (λ row booking found live.
    let charge : charge_told key number told ≡ booking.charge = rw found at (tells key number) in
    let kept = at_found IsBooking (is_numbered key number) club.bookings booking s.rows.bookings found in
    let it = numbered key number booking (found_passes (is_numbered key number) club.bookings booking found) in
    rw (charge, it.0, it.1) (refund_new p club.bookings key number booking.charge booking s.unique.bookings found live (kept.kept live)))
refund_step p told club (Commanded command) later s tells = λ rest. grind arith

charges_of_run : (p : List ℕ → Bool) (club : Club) (events : List Event) → total (λ b. b.charge) p (club_after club events).bookings
    ≡ total (λ b. b.charge) p club.bookings + unseen_total p (has_told (λ b. true) club.bookings) (charges_of_replies (replies_of club events))
charges_of_run p club [] = omega arith
charges_of_run p club (event ∷ events) =
    let next = (step club event).club in
    charges_of_run p next events ∙ charge_step p club event (charges_of_replies (replies_of next events))

refunds_of_run : (p : List ℕ → Bool) (told : List Entry) (club : Club) (events : List Event) → IsSound club → All IsEvent events
    → Tells told club.bookings (charges_of_replies (replies_of club events)) → total (λ b. b.refund) p (club_after club events).bookings
    ≡ total (λ b. b.refund) p club.bookings + unseen_total p (has_told (λ b. b.cancelled) club.bookings) (refunds_by told events (replies_of club events))
refunds_of_run p told club [] s h tells = omega arith
refunds_of_run p told club (event ∷ events) s h tells =
    let next = (step club event).club in
    let later = charges_of_replies (replies_of next events) in
    refunds_of_run p told next events (sound_step club event s (All-head IsEvent event events h)) (All-tail IsEvent event events h)
    (λ key number. tells key number ∙ told_by_step club event later key number)
    ∙ refund_step p told club event (charge_of_reply (step club event).reply ++ later) s tells (refunds_by told events (replies_of next events))

all_count : (keys : List (List ℕ)) (seen : Seen) (entries : List Entry) → ((key : List ℕ) (number : ℕ) → seen key number ≡ false)
    → unseen_total (is_among keys) seen entries ≡ total_under keys entries
all_count keys seen entries none =
    ap (λ (kept : List Entry). sum_by points_of kept)
    (filter_agree (counts (is_among keys) seen) (λ (entry : Entry). is_among keys entry.key)
    (λ entry. let new = none entry.key entry.number in grind arith) (firsts entries))

cost_and_refund : (bookings : List Booking) → All IsBooking bookings → sum_by (λ b. b.charge) bookings
    ≡ sum_by cost_of bookings + sum_by (λ b. b.refund) bookings
cost_and_refund [] h = refl
cost_and_refund (b ∷ bookings) h =
    let row = (All-head IsBooking b bookings h).refund in
    let more = λ (f : Booking → ℕ). sum_by-cons f b bookings in
    omega (arith, cost_and_refund bookings (All-tail IsBooking b bookings h), more (λ x. x.charge), more cost_of, more (λ x. x.refund))

pub sound_empty : IsSound empty_club
sound_empty = search arith

pub conserved : ConservesPoints
conserved events name member h e =
    let club = club_after empty_club events in
    let replies = replies_of empty_club events in
    let keys = keys_given member.name events replies in
    let p : List ℕ → Bool = is_among keys in
    let s = sound_run empty_club events sound_empty h in
    let same : member.name ≡ name = named (λ (m : Member). m.name) name club.members member e in
    let found : member_named member.name club ≡ Some member = ap (λ (n : List ℕ). member_named n club) same ∙ e in
    let own = filter_agree (λ (b : Booking). is_key_of member.name club b.key) (λ (b : Booking). p b.key) (λ b.
    keys_of_run member.name empty_club b.key events) club.bookings in
    let charges = charges_of_run p empty_club events in
    let refunds = refunds_of_run p (charges_of_replies replies) empty_club events sound_empty h (λ key number. refl) in
    let all_charges = all_count keys (has_told (λ b. true) []) (charges_of_replies replies) (λ key number. refl) in
    let all_refunds = all_count keys (has_told (λ b. b.cancelled) []) (refunds_given events replies) (λ key number. refl) in
    let parts = cost_and_refund (filter (λ (b : Booking). p b.key) club.bookings)
    (All-filter (λ (b : Booking). p b.key) IsBooking club.bookings s.rows.bookings) in
    let credit = credit_of_run member.name empty_club events in
    let credited = ap credit_of found in
    let costs = ap (sum_by cost_of) own in
    let coverage = covered club s name member e in
    record { balance_adds_up = omega arith; coverage = coverage }

no_debits : (name : List ℕ) (events : List Event) (replies : List EventReply) → All IsNoCorrection events → debits_accepted name events replies ≡ 0
no_debits name [] replies h = grind arith
no_debits name (event ∷ events) [] h = grind arith
no_debits name (event ∷ events) (reply ∷ replies) h =
    grind (arith, All-head IsNoCorrection event events h, no_debits name events replies (All-tail IsNoCorrection event events h))

refunds_told : (told : List Entry) (club : Club) (events : List Event) → All IsNoCorrection events
    → refunds_by told events (replies_of club events) ≡ refunds_of_replies (replies_of club events)
refunds_told told club [] h = refl
refunds_told told club (event ∷ events) h =
    let first = All-head IsNoCorrection event events h in
    let kept : refund_given told event (step club event).reply ≡ refund_of_reply (step club event).reply = grind arith in
    rw (kept, refunds_told told (step club event).club events (All-tail IsNoCorrection event events h)) refl

pub conserved_without_corrections : ConservesWithoutCorrections
conserved_without_corrections events name member h without e =
    let replies = replies_of empty_club events in
    let none = no_debits member.name events replies without in
    let all = rw (refunds_told (charges_of_replies replies) empty_club events without) at ((conserved events name member h e).balance_adds_up) in
    omega arith

pub has_places : SoundClubsHavePlaces
has_places club slot sound = go (facility_named slot.facility club) refl
  where
    go : (o : Option Facility) → facility_named slot.facility club ≡ o → MatchOption o (taken_in slot club.bookings ≡ 0) (λ (facility : Facility).
        taken_in slot club.bookings ≤ facility.places)
    go None e = nobody_in club slot sound.references (none_named (λ (f : Facility). f.name) slot.facility club.facilities e)
    go (Some facility) e =
        at_found (λ (f : Facility). (at : Slot) → at.facility ≡ f.name → taken_in at club.bookings ≤ f.places) (λ (f : Facility).
        bytes_eq f.name slot.facility) club.facilities facility
        sound.places e slot (sym (named (λ (f : Facility). f.name) slot.facility club.facilities facility e))

pub has_room : NeverOverbooks
has_room events slot h = has_places (club_after empty_club events) slot (sound_run empty_club events sound_empty h)

pub spent_within : OwnBookings → SpendsWithinItsMember
spent_within own club key here =
    let bookings = bookings_of key.member club in
    let parts = sum_by-filter_both (is_under key.name) (λ (b : Booking). not (is_under key.name b)) (λ _. refl) cost_of bookings in
    let spent = (own club key here).spent in omega arith

pub used_of_account : AccountsShowWhatIsUsed
used_of_account club name account sound e = go (member_named name club) refl e
  where
    go : (found : Option Member) → member_named name club ≡ found → option_map (club_account club) found ≡ Some account
        → account.member.credited - account.balance ≡ sum_by cost_of (bookings_of name club)
    go None row e = absurd (cc)
    go (Some member) row e =
        let coverage = covered club sound name member row in
        let is : account ≡ club_account club member = cc in
        rw (is, ← named (λ (m : Member). m.name) name club.members member row) (omega arith)
