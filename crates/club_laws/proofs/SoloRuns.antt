-- Lemmas for the proof that a member's part of the club determines the replies to the member's
-- requests. Where events failed, the proofs remove them from the run.
use Rattle.std.proofs.Common.{bytes_eq, ◌≡◌, ◌≢◌, ℕ, false, arith, inl, [], ◌∷◌, refl, List, ◌++◌, length, append_assoc, Ok, subst, ◌+◌, Bool, Option, Some}
use Rattle.std.proofs.{Common.{None, option_map, sym, ap, true, cond, Result, ◌∙◌, map}, lemmas.List.Elements.{All-nil, All-cons, All-head, All-tail}}
use Rattle.std.proofs.lemmas.{Simd.map-map, Slice.Eq.bytes_eq-Decides}
use Rattle.club_core.specs.Solo.{outside, part_of, with_others, OwnEvent, OwnAsk, OwnChange, own_ask, own_change, own_part, solo_verdict, own_events}
use Rattle.club_core.specs.Run.{Event, Asked, Commanded, step, ToMember, Response, IsEvent, after_change, command_outcome, EventReply, replies_of, club_after}
use Rattle.club_core.specs.{Club.{Club, empty_club, is_in, key_named, member_named, keys_of, is_key_of, bookings_of}, declared.command.OfficeFault.OfficeFault}
use Rattle.club_core.specs.declared.{change.Change.{Change, TheVariants.{InsertBooking, MarkCancelled}}, reply.Reply.{Reply, TheVariants.{Cancelled, Refused}}}
use Rattle.club_core.specs.{Basis.{Basis, SlotState, basis_of, state_of, key_of}, declared.{refusal.Refusal.TheVariants.Unavailable, slot_use.SlotUse.SlotUse}}
use Rattle.club_core.specs.{Answer.{verdict_in, answer_by_basis}, declared.{command.{Command.Command, OfficeAnswer.OfficeAnswer}, verdict.Verdict.Verdict}}
use Rattle.club_core.specs.{After.after, Laws.TestsTheSignature, Office.office_verdict, Request.{Words, request_slot}, Solo.solo_replies}
use Rattle.club_laws.proofs.AnswerCases.{answer_cases, club_after-append, known_rows, whole_basis, is_own_key, written, filter_twice, sum_in_parts}
use Rattle.club_laws.proofs.{AnswerCases.{found_passes, find_filtered, bytes_same, same_bytes_of, numbered, is_numbered}, MemberParts.fresh_by_command}
use Rattle.club_laws.proofs.MemberParts.{is_named, is_owned, has_name, is_under_one, part_changed, owner, IsKeyed, keyed_step, keyed_from_sound}
use Rattle.club_laws.proofs.{PointRuns.{conserved, has_room}, ServedPasses.{cancelled_by_record, step_of_repeat}, SoundSteps.sound_run}
use Rattle.club_laws.specs.Failed.{is_unavailable, CutsRuns, JoinsRuns, LeavesEvents, LeavesOutFailed, RunsWithoutFailures, Presentation, present_reply}
use Rattle.club_laws.specs.{Failed.{has_failed, answered_events, IsStep, IsRun}, Frame.LeavesThePart, Repeats.{refund_by_office, IsBookedOrCancelled}}
use Rattle.club_laws.specs.{Repeats.WasServed, RunsWithFailures.{CancellationsWithFailures, ConservesWithFailures, PlacesWithFailures, SoundWithFailures}}
use Rattle.club_laws.specs.{RunsWithFailures.{RepeatsWithFailures, RepeatsAfterOneMore, WasReturned, SoloLawWithFailures}, SoloLaw.{SoloLaw, EndsWithThePart}}
use Rattle.club_laws.specs.SoloLaw.{is_ask, replies_to, solo_part}
use Rattle.club_rows.specs.{Rows.{persons_of, refund_at}, declared.{booking.Booking.Booking, facility.Facility.Facility}}
use Rattle.club_values.specs.declared.slot.Slot.{Slot}
use Rattle.pass_caveats.specs.Laws.{TestsTheSet}

pub answers_requests : (club : Club) (words : Words) (moment : ℕ) → is_unavailable (verdict_in club words moment).reply ≡ false
answers_requests club words moment = answer_cases (λ (v : Verdict). is_unavailable v.reply ≡ false) club words moment (grind arith)

pub never_unavailable : (club : Club) (event : Event) → (step club event).reply ≢ ToMember (Refused Unavailable)
never_unavailable club (Asked words moment) e = let answers = answers_requests club words moment in grind arith
never_unavailable club (Commanded command) e = grind arith

pub run_of_answered : {O : Type 0} → LeavesOutFailed O
run_of_answered presentation club last [] [] h = record { responses = refl; left = h }
run_of_answered presentation club last (event ∷ events) (returned ∷ replies) h =
    grind (arith, h.1, run_of_answered presentation h.0 last events replies h.2)
run_of_answered presentation club last events replies h = absurd h

pub events_left : {O : Type 0} → LeavesEvents O
events_left presentation (event ∷ events) (returned ∷ replies) h =
    let rest = events_left presentation events replies (All-tail IsEvent event events h) in
    grind (arith, All-cons IsEvent event (answered_events presentation events replies) (All-head IsEvent event events h) rest)
events_left presentation events replies h = All-nil IsEvent

pub cut : {O : Type 0} → CutsRuns O
cut presentation club last [] rest [] since e h = record { now = club; first = refl; second = h }
cut presentation club last (event ∷ front) rest (returned ∷ before) since e h =
    let parts = cut presentation h.0 last front rest before since (omega arith) h.2 in
    record { now = parts.now; first = (h.0, h.1, parts.first); second = parts.second }
cut presentation club last front rest before since e h = absurd (omega arith)

pub join : {O : Type 0} → JoinsRuns O
join presentation club last [] rest [] since runs = rw (← runs.first) runs.second
join presentation club last (event ∷ front) rest (returned ∷ before) since runs =
    let first = runs.first in
    let later = join presentation first.0 last front rest before since (record { now = runs.now; first = first.2; second = runs.second }) in
    (first.0, first.1, later)
join presentation club last front rest before since runs = absurd runs.first

not_failed : {O : Type 0} (presentation : Presentation O) → ((answer : OfficeAnswer) → presentation.is_fault (presentation.shown answer) ≡ false)
    → (club : Club) (event : Event) → has_failed presentation event (present_reply presentation (step club event).reply) ≡ false
not_failed presentation faultless club (Asked words moment) = answers_requests club words moment
not_failed presentation faultless club (Commanded command) = grind (arith, faultless)

pub run_without_failures : {O : Type 0} → RunsWithoutFailures O
run_without_failures presentation club [] faultless = refl
run_without_failures presentation club (event ∷ events) faultless =
    let outcome = step club event in (
      outcome.club,
      inl (record { success = not_failed presentation faultless club event; reply = refl; steps_club = refl }),
      run_without_failures presentation outcome.club events faultless,
    )

pub sound_with_failures : {O : Type 0} → SoundWithFailures O
sound_with_failures presentation club last events replies s h run =
    let left = (run_of_answered presentation club last events replies run).left in
    rw left (sound_run club (answered_events presentation events replies) s (events_left presentation events replies h))

pub conserved_with_failures : {O : Type 0} → ConservesWithFailures O
conserved_with_failures presentation last events replies name member h run is =
    let left = (run_of_answered presentation empty_club last events replies run).left in
    rw left (conserved (answered_events presentation events replies) name member (events_left presentation events replies h) (rw left at is))

pub places_with_failures : {O : Type 0} → PlacesWithFailures O
places_with_failures presentation last events replies slot h run =
    let left = (run_of_answered presentation empty_club last events replies run).left in
    rw left (has_room (answered_events presentation events replies) slot (events_left presentation events replies h))

module _ {O : Type 0} (presentation : Presentation O) where
  answered-append : (front rest : List Event) (before since : List (Response O)) → length before ≡ length front
      → answered_events presentation (front ++ rest) (before ++ since) ≡ answered_events presentation front before ++ answered_events presentation rest since
  answered-append [] rest [] since e = refl
  answered-append (event ∷ front) rest (returned ∷ before) since e = grind (arith, answered-append front rest before since (omega arith))
  answered-append front rest before since e = absurd (omega arith)

  served_by_machine : (club next : Club) (words : Words) (moment : ℕ) (reply : Reply) → IsBookedOrCancelled reply
      → IsStep presentation club (Asked words moment) (ToMember reply) next
      → (is_unavailable reply ≡ false) × ((step club (Asked words moment)).reply ≡ ToMember reply)
  served_by_machine club next words moment reply h step = grind arith

  served_in_machine_run : (club now : Club) (history : List Event) (before : List (Response O)) (words : Words) (reply : Reply)
      → IsRun presentation club history before now
      → WasReturned history before words reply → WasServed club (answered_events presentation history before) words reply
  served_in_machine_run club now history before words reply run w =
      let parts = cut presentation club now w.front (Asked w.first w.moment ∷ w.rest) w.before (ToMember reply ∷ w.since) w.beside
      (rw (w.place, w.reply_place) at run) in
      let left = (run_of_answered presentation club parts.now w.front w.before parts.first).left in
      let served = served_by_machine parts.now parts.second.0 w.first w.moment reply w.success parts.second.1 in
      record {
        front = answered_events presentation w.front w.before;
        first = w.first;
        moment = w.moment;
        rest = answered_events presentation w.rest w.since;
        place = rw (w.place, w.reply_place, answered-append w.front _ w.before _ w.beside, served.0) refl;
        reply_is = rw (← left) served.1;
        success = w.success;
        same_key = w.same_key;
        same_request = w.same_request;
      }

  repeat_of_step : (club next : Club) (words : Words) (moment : ℕ) (returned : Response O) (reply : Reply)
      → step club (Asked words moment) ≡ record { reply = ToMember reply; club = club } → IsStep presentation club (Asked words moment) returned next
      → (has_failed presentation (Asked words moment) returned ≡ false → returned ≡ ToMember reply) × (next ≡ club)
  repeat_of_step club next words moment returned reply again step = grind arith

pub repeat_with_failures : TestsTheSet → TestsTheSignature → {O : Type 0} → RepeatsWithFailures O
repeat_with_failures set signature presentation club last history rest before since words moment returned reply beside run was accepted =
    let parts = cut presentation club last history (Asked words moment ∷ rest) before (returned ∷ since) beside run in
    let left = (run_of_answered presentation club parts.now history before parts.first).left in
    let served = served_in_machine_run presentation club parts.now history before words reply parts.first was in
    let again = step_of_repeat set signature club (answered_events presentation history before) words moment reply served accepted in
    let one = repeat_of_step presentation parts.now parts.second.0 words moment returned reply (rw (← left) at again) parts.second.1 in
    (one.0, join presentation club last history rest before since (record { now = parts.now; first = parts.first; second = rw one.1 at parts.second.2 }))

pub cancelled_with_failures : TestsTheSet → TestsTheSignature → {O : Type 0} → CancellationsWithFailures O
cancelled_with_failures set signature presentation club last history rest before since words moment returned key number booking beside run was named asks
    accepted =
    let reply = Cancelled key number (refund_by_office booking) in
    let parts = cut presentation club last history (Asked words moment ∷ rest) before (returned ∷ since) beside run in
    let left = (run_of_answered presentation club parts.now history before parts.first).left in
    let again = cancelled_by_record set signature club (answered_events presentation history before) words moment key number booking was named asks accepted in
    let one = repeat_of_step presentation parts.now parts.second.0 words moment returned reply (rw (← left) at again) parts.second.1 in
    (one.0, join presentation club last history rest before since (record { now = parts.now; first = parts.first; second = rw one.1 at parts.second.2 }))

served_and_more : (club : Club) (history : List Event) (event : Event) (words : Words) (reply : Reply) → WasServed club history words reply
    → WasServed club (history ++ event ∷ []) words reply
served_and_more club history event words reply w = record {
  front = w.front;
  first = w.first;
  moment = w.moment;
  rest = w.rest ++ event ∷ [];
  place = rw (w.place, append_assoc) refl;
  reply_is = w.reply_is;
  success = w.success;
  same_key = w.same_key;
  same_request = w.same_request;
}

pub again_with_failures : TestsTheSet → TestsTheSignature → {O : Type 0} → RepeatsAfterOneMore O
again_with_failures set signature presentation club last events replies run =
    let answered = answered_events presentation events replies in
    let left = (run_of_answered presentation club last events replies run).left in
    let served = λ (words : Words) (reply : Reply). served_in_machine_run presentation club last events replies words reply run in
    rw left (
      λ words moment reply was accepted. step_of_repeat set signature club answered words moment reply (served words reply was) accepted,
      λ event words moment reply was. rw (← club_after-append club answered (event ∷ []))
          (step_of_repeat set signature club (answered ++ event ∷ []) words moment reply
          (served_and_more club answered event words reply (served words reply was))),
    )

abbrev state_with : Option Facility → ℕ → Bool → SlotState
state_with facility taken closed = record { facility = facility; held = record { taken = taken; closed = closed } }

abbrev with_outside : SlotUse → SlotState → SlotState
with_outside others state = state_with state.facility (state.held.taken + others.taken) others.closed

own_bookings : (name : List ℕ) (club : Club) → bookings_of name (part_of name club) ≡ bookings_of name club
own_bookings name club = rw (filter_twice (is_owned name) club.keys) (filter_twice (is_under_one (keys_of name club)) club.bookings)

own_state : (name : List ℕ) (club : Club) (slot : Option Slot) → with_outside (outside name club slot) (state_of (part_of name club) slot) ≡ state_of club slot
own_state name club None = refl
own_state name club (Some slot) = rw (sum_in_parts persons_of (is_in slot) (λ (booking : Booking). is_key_of name club booking.key) club.bookings)

pub own_basis : (name : List ℕ) (club : Club) (words : Words) (basis : Basis) → basis_of club words ≡ Some basis → basis.member.name ≡ name
    → option_map (with_others (outside name club (request_slot words.request))) (basis_of (part_of name club) words) ≡ Some basis
own_basis name club words basis e same =
    let rests = known_rows club words basis e in
    let own = basis.member.name in
    let part = part_of own club in
    let named = bytes_same own basis.key.member (found_passes (is_named basis.key.member) club.members basis.member rests.owned) in
    let key_in : key_named basis.key.name part ≡ Some basis.key =
    find_filtered (has_name basis.key.name) (is_owned own) club.keys basis.key rests.known (same_bytes_of basis.key.member own (sym named)) in
    let member_in : member_named basis.key.member part ≡ Some basis.member =
    find_filtered (is_named basis.key.member) (is_named own) club.members basis.member rests.owned (same_bytes_of own own refl) in
    subst (λ (n : List ℕ). option_map (with_others (outside n club (request_slot words.request))) (basis_of (part_of n club) words) ≡ Some basis) same
    (rw (rests.key_name, key_in, member_in, own_bookings own club, own_state own club (request_slot words.request))
    (ap Some (sym (whole_basis club words basis e))))

-- The member's own event leads from the part `part` to the part `next`. If this event is a request,
-- the reply to the request is `reply`. If there is no such event, `next` is `part`.
abbrev pub Follows : Club → List OwnEvent → EventReply → Club → Type 0
Follows part [] reply next = next ≡ part
Follows part (OwnChange change ∷ []) reply next = next ≡ after change part
Follows part (OwnAsk words moment others ∷ []) reply next =
    (reply ≡ ToMember (solo_verdict part words moment others).reply)
    × (next ≡ after_change (solo_verdict part words moment others).change part)
Follows part own reply next = ⊥

module _ (name : List ℕ) (club : Club) (keyed : IsKeyed club) where
  asked_in_part : (words : Words) (moment : ℕ) (key : List ℕ) → key_of words.pass ≡ Some key
      → part_of name (after_change (verdict_in club words moment).change club)
      ≡ cond (is_key_of name club key) (after_change (verdict_in club words moment).change (part_of name club)) (part_of name club)
  asked_in_part words moment key n =
      answer_cases (λ (v : Verdict). part_of name (after_change v.change club)
      ≡ cond (is_key_of name club key) (after_change v.change (part_of name club)) (part_of name club)) club words moment (record {
        silent = λ reply h. grind arith;
        repeats_booking = λ row member slot number guests booking k e found same. grind arith;
        books = λ row member slot number guests facility k e b.
            let changed = part_changed name club (InsertBooking (written club row slot number guests facility) row.member) keyed.known tt in
            let named = k.key_name in grind arith;
        cancels_recorded = λ row member slot number booking k e found same before. grind arith;
        cancels = λ row member slot number booking k e c.
            let changed = part_changed name club (MarkCancelled booking row.member (refund_at booking moment)) keyed.known tt in
            let named = k.key_name in
            grind (arith, numbered row.name number booking (found_passes (is_numbered row.name number) club.bookings booking c.found));
      })

  not_own_key : (words : Words) (basis : Basis) → basis_of club words ≡ Some basis → bytes_eq basis.member.name name ≡ false
      → is_key_of name club basis.key.name ≡ false
  not_own_key words basis e other =
      let k = known_rows club words basis e in
      let named = found_passes (is_named basis.key.member) club.members basis.member k.owned in
      let theirs = owner club keyed.unique basis.key k.known name in
      grind (arith, bytes_eq-Decides basis.member.name name, bytes_eq-Decides basis.member.name basis.key.member)

  -- The answer changes the part in the same way as the member's own event.
  abbrev FollowsAnswer : Verdict → List OwnEvent → Type 0
  FollowsAnswer verdict own = Follows (part_of name club) own (ToMember verdict.reply) (part_of name (after_change verdict.change club))

  asked_follows : (words : Words) (moment : ℕ) (basis : Basis) (is_own : Bool) → basis_of club words ≡ Some basis → bytes_eq basis.member.name name ≡ is_own
      → FollowsAnswer (answer_by_basis words moment (Some basis))
      (cond is_own (OwnAsk words moment (outside name club (request_slot words.request)) ∷ []) [])
  asked_follows words moment basis true e own =
      let itself = bytes_same basis.member.name name own in
      let k = known_rows club words basis e in
      let changed = rw e at (asked_in_part words moment basis.key.name k.key_name) in
      let mine = rw itself at (is_own_key club words basis.key basis.member k) in
      let same = ap (answer_by_basis words moment) (own_basis name club words basis e itself) in
      (ap (λ (v : Verdict). ToMember v.reply) (sym same), changed ∙ rw mine (ap (λ (v : Verdict). after_change v.change (part_of name club)) (sym same)))
  asked_follows words moment basis false e other =
      let changed = rw e at (asked_in_part words moment basis.key.name (known_rows club words basis e).key_name) in
      changed ∙ rw (not_own_key words basis e other) refl

  ask_follows : (words : Words) (moment : ℕ) (basis : Option Basis) → basis_of club words ≡ basis
      → FollowsAnswer (answer_by_basis words moment basis) (own_ask name club words moment basis)
  ask_follows words moment None e = grind arith
  ask_follows words moment (Some basis) e = asked_follows words moment basis (bytes_eq basis.member.name name) e refl

  command_follows : (command : Command) (v : Result (Option Change) OfficeFault) → office_verdict club command ≡ v → Follows (part_of name club)
      (own_change name club v) (command_outcome club command v).reply (part_of name (command_outcome club command v).club)
  command_follows command (Ok (Some change)) e = let changed = part_changed name club change keyed.known (fresh_by_command club command change e) in grind arith
  command_follows command v e = refl

pub follows : (name : List ℕ) (club : Club) (event : Event) → IsKeyed club
    → Follows (part_of name club) (own_part name club event) (step club event).reply (part_of name (step club event).club)
follows name club (Asked words moment) keyed = ask_follows name club keyed words moment (basis_of club words) refl
follows name club (Commanded command) keyed = command_follows name club keyed command (office_verdict club command) refl

pub leaves_the_part : LeavesThePart
leaves_the_part name club event sound none = rw none at (follows name club event (keyed_from_sound club sound))

one_more : (own : List OwnEvent) (part next last : Club) (reply : EventReply) (rest : List OwnEvent) (returned : List EventReply)
    → Follows part own reply next → (returned ≡ map ToMember (solo_replies next rest)) × (solo_part next rest ≡ last)
    → (cond (is_ask own) (reply ∷ returned) returned ≡ map ToMember (solo_replies part (own ++ rest))) × (solo_part part (own ++ rest) ≡ last)
one_more [] part next last reply rest returned f e = rw f at e
one_more (OwnChange change ∷ []) part next last reply rest returned f e = rw f at e
one_more (OwnAsk words moment others ∷ []) part next last reply rest returned f e = grind arith
one_more own part next last reply rest returned f e = absurd f

pub solo : (name : List ℕ) (club : Club) (events : List Event) → IsKeyed club
    → (replies_to name club events (replies_of club events) ≡ map ToMember (solo_replies (part_of name club) (own_events name club events)))
    × (solo_part (part_of name club) (own_events name club events) ≡ part_of name (club_after club events))
solo name club [] keyed = (refl, refl)
solo name club (event ∷ events) keyed =
    let next = (step club event).club in
    one_more (own_part name club event) (part_of name club) (part_of name next) (part_of name (club_after next events)) (step club event).reply
    (own_events name next events) (replies_to name next events (replies_of next events)) (follows name club event keyed)
    (solo name next events (keyed_step club event keyed))

pub solo_law : SoloLaw
solo_law name club events sound = (solo name club events (keyed_from_sound club sound)).0

pub ends_with_the_part : EndsWithThePart
ends_with_the_part name club events sound = (solo name club events (keyed_from_sound club sound)).1

replies_mapped : {A B : Type 0} (f : A → B) (name : List ℕ) (club : Club) (events : List Event) (replies : List A)
    → replies_to name club events (map f replies) ≡ map f (replies_to name club events replies)
replies_mapped f name club [] replies = refl
replies_mapped f name club (event ∷ events) [] = refl
replies_mapped f name club (event ∷ events) (reply ∷ replies) = grind (arith, replies_mapped f name (step club event).club events replies)

pub solo_with_failures : {O : Type 0} → SoloLawWithFailures O
solo_with_failures presentation name club last events replies sound run =
    let answered = answered_events presentation events replies in
    rw (
      (run_of_answered presentation club last events replies run).responses,
      replies_mapped (present_reply presentation) name club answered (replies_of club answered),
      (solo name club answered (keyed_from_sound club sound)).0,
    )
    (map-map (present_reply presentation) ToMember (solo_replies (part_of name club) (own_events name club answered)))
