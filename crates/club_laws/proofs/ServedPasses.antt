-- Lemmas about the passes of served requests, about revoked keys, and about repeated requests.
use Rattle.club_core.specs.declared.request.Request.TheVariants as asked
use Rattle.club_core.specs.Verdict as verdicts
use Rattle.std.proofs.Common.{◌≡◌, ℕ, ◌+◌, true, false, List, [], ◌∷◌, ◌++◌, Option, Some, None, Result, Ok, Err, arith, All, refl, sym, ap, ◌∙◌, option_map}
use Rattle.std.proofs.{Common.{find, ◌&&◌, ◌==◌}, lemmas.{Bool.false_from_ne_true, List.{Elements.{All-nil, All-cons, All-head, All-tail}, Folds.find-append}}}
use Rattle.std.proofs.lemmas.Option.{same_Some}
use Rattle.club_core.specs.Run.{Event, Commanded, step, club_after, ToOffice, after_change, Asked, Outcome, verdict_outcome, replies_of, ToMember}
use Rattle.club_core.specs.declared.{change.Change.TheVariants.{InsertKey, MarkRevoked, ReplaceRoot, InsertBooking, MarkCancelled}, request.Request.Request}
use Rattle.club_core.specs.declared.{pass_fault.PassFault.PassFault, refusal.Refusal.TheVariants.{NotVerified, KeyRevoked, CaveatNotUnderstood, CaveatDenies}}
use Rattle.club_core.specs.{Basis.{Basis, basis_of, key_of, view_of}, Laws.{TestsTheSignature, IsServed, IsAllowedBy, IsAcceptedPass, IsEntitled, IsAcceptedIn}}
use Rattle.club_core.specs.{After.{after, revoked_key, rotated_key, cancelled_booking}, declared.command.Command.TheVariants.{RevokeKey, CancelBooking}}
use Rattle.club_core.specs.{Answer.{answer_to, ask_of, form_refusal, verdict_in}, Request.{Pass, Words, is_signed_under, request_number}}
use Rattle.club_core.specs.declared.{command.OfficeAnswer.TheVariants.Done, reply.Reply.{Reply, TheVariants.{Booked, Cancelled}}, verdict.Verdict.Verdict}
use Rattle.club_core.specs.{Club.{Club, key_named, booking_under}, Verdict.{refusal_verdict, verdict_of}, declared.{change.Change.Change, view.View.View}}
use Rattle.club_laws.proofs.AnswerCases.{known_rows, kept_by_run, club_after-append, cancel_cases, written, answer_cases, own_booking, replies_of-append}
use Rattle.club_laws.proofs.{AnswerCases.{find-map, found_passes, numbered, found_before, is_numbered, same_slots, self_numbered}, MemberParts.has_name}
use Rattle.club_laws.specs.Repeats.{CancellationsReturnTheRecord, refund_by_office, IsBookedOrCancelled, RepeatsReturnTheSame, RepeatsMayBeLeftOut, WasServed}
use Rattle.club_laws.specs.{Rotation.{ServesNoRevokedKey, WasRevoked}, SingleRequest.{RefusesTheUnsigned, MoreCaveatsNeverOpenMore, blind_refusal, words_with}}
use Rattle.club_rows.specs.{Rows.{same_slot, refund_at}, declared.{booking.Booking.Booking, key.Key.Key}}
use Rattle.pass_caveats.specs.{Fault.{first_fault_from, first_fault_of}, Laws.TestsTheSet, declared.{ask.Ask.Ask, caveat.Caveat.Caveat}}

-- The pass meets the conditions that the rules check before they decide the request.
pub record PassesTests (pass : Pass) (request : Request) (moment : ℕ) (basis : Basis) : Type 0 where
  pub signed : is_signed_under pass basis.key moment ≡ true
  pub not_revoked : basis.key.revoked ≡ false
  pub faultless : first_fault_of pass.caveats (ask_of (view_of basis request moment) request moment) ≡ None

served_under : (pass : Pass) (request : Request) (moment : ℕ) (basis : Basis) → IsServed (answer_to (Ok pass) request moment (Some basis)).reply
    → PassesTests pass request moment basis
served_under pass request moment basis h =
    grind (arith, h KeyRevoked, λ (n : ℕ). h (CaveatNotUnderstood n), λ (n : ℕ). h (CaveatDenies n))

pub all_allowed : TestsTheSet → (n : ℕ) (caveats : List (Option Caveat)) (ask : Ask) → first_fault_from n caveats ask ≡ None → All (IsAllowedBy ask) caveats
all_allowed tests n [] ask e = All-nil (IsAllowedBy ask)
all_allowed tests n (None ∷ caveats) ask e = absurd (cc)
all_allowed tests n (Some caveat ∷ caveats) ask e =
    All-cons (IsAllowedBy ask) (Some caveat) caveats ((tests caveat ask).1 (grind arith)) (all_allowed tests (n + 1) caveats ask (grind arith))

none_at_fault : TestsTheSet → (n : ℕ) (caveats : List (Option Caveat)) (ask : Ask) → All (IsAllowedBy ask) caveats → first_fault_from n caveats ask ≡ None
none_at_fault tests n [] ask h = refl
none_at_fault tests n (None ∷ caveats) ask h = absurd (All-head (IsAllowedBy ask) None caveats h)
none_at_fault tests n (Some caveat ∷ caveats) ask h =
    let permitted = (tests caveat ask).0 (All-head (IsAllowedBy ask) (Some caveat) caveats h) in
    rw permitted (none_at_fault tests (n + 1) caveats ask (All-tail (IsAllowedBy ask) (Some caveat) caveats h))

pub accepted_under : TestsTheSet → TestsTheSignature → (pass : Pass) (request : Request) (moment : ℕ) (basis : Basis)
    → IsAcceptedPass pass request moment basis → answer_to (Ok pass) request moment (Some basis) ≡ verdict_of (view_of basis request moment) request moment
accepted_under set signature pass request moment basis h =
    let signed = (signature pass basis.key moment).1 h.signed in
    let valid = h.not_revoked in
    let faultless = none_at_fault set 1 pass.caveats (ask_of (view_of basis request moment) request moment) h.permission in grind arith

pub faultless_front : (n : ℕ) (caveats more : List (Option Caveat)) (ask : Ask) → first_fault_from n (caveats ++ more) ask ≡ None
    → first_fault_from n caveats ask ≡ None
faultless_front n [] more ask e = refl
faultless_front n (None ∷ caveats) more ask e = absurd (cc)
faultless_front n (Some caveat ∷ caveats) more ask e = grind (arith, faultless_front (n + 1) caveats more ask)

pub served_entitled : TestsTheSet → TestsTheSignature → (words : Words) (moment : ℕ) (club : Club) (pass : Result Pass PassFault) (basis : Option Basis)
    → words.pass ≡ pass → basis_of club words ≡ basis → IsServed (answer_to pass words.request moment basis).reply → IsEntitled club words moment
served_entitled set signature words moment club (Err fault) basis e f h = absurd (h (form_refusal fault) refl)
served_entitled set signature words moment club (Ok pass) None e f h = absurd (h NotVerified refl)
served_entitled set signature words moment club (Ok pass) (Some basis) e f h =
    let accepted = served_under pass words.request moment basis h in
    let rests = known_rows club words basis f in
    record {
      pass = pass;
      basis = basis;
      read = e;
      key_name = ap key_of (sym e) ∙ rests.key_name;
      row = rests.known;
      known = f;
      not_revoked = accepted.not_revoked;
      signed = (signature pass basis.key moment).0 accepted.signed;
      permission = all_allowed set 1 pass.caveats (ask_of (view_of basis words.request moment) words.request moment) accepted.faultless;
    }

pub refused_blind : (pass : Result Pass PassFault) (request : Request) (moment : ℕ) → answer_to pass request moment None ≡ refusal_verdict (blind_refusal pass)
refused_blind pass request moment = grind arith

seen_key : (club : Club) (words : Words) (key : Key) → key_of words.pass ≡ Some key.name → key_named key.name club ≡ Some key
    → (basis : Basis) → basis_of club words ≡ Some basis → key ≡ basis.key
seen_key club words key n row basis e =
    let rests = known_rows club words basis e in
    let named = same_Some key.name basis.key.name (sym n ∙ rests.key_name) in
    same_Some key basis.key (sym row ∙ rw named rests.known)

pub unsigned_in : TestsTheSignature → RefusesTheUnsigned
unsigned_in signature words moment club pass key e n row unsigned =
    let is_false : is_signed_under pass key moment ≡ false =
    false_from_ne_true (is_signed_under pass key moment) (λ signed. unsigned ((signature pass key moment).0 signed)) in
    let seen = seen_key club words key (ap key_of e ∙ n) row in grind arith

wide_under : (wide narrow : Pass) (more : List (Option Caveat)) (request : Request) (moment : ℕ) (basis : Option Basis)
    → narrow.caveats ≡ wide.caveats ++ more → ((b : Basis) → basis ≡ Some b → is_signed_under wide b.key moment ≡ true)
    → IsServed (answer_to (Ok narrow) request moment basis).reply → answer_to (Ok wide) request moment basis ≡ answer_to (Ok narrow) request moment basis
wide_under wide narrow more request moment None e signed h = refl
wide_under wide narrow more request moment (Some basis) e signed h =
    let accepted = served_under narrow request moment basis h in
    let ask = ask_of (view_of basis request moment) request moment in
    let faultless = faultless_front 1 wide.caveats more ask (rw e at accepted.faultless) in
    let is_signed = signed basis refl in grind arith

pub wide_in : TestsTheSignature → MoreCaveatsNeverOpenMore
wide_in signature wide narrow more key request moment club w n e row signed h =
    let words = words_with narrow request in
    let same : basis_of club (words_with wide request) ≡ basis_of club words = rw (w, n) refl in
    let of_row : (b : Basis) → basis_of club words ≡ Some b → is_signed_under wide b.key moment ≡ true =
    λ b is. rw (← seen_key club words key n row b is) ((signature wide key moment).1 signed) in
    ap (λ (b : Option Basis). answer_to (Ok wide) request moment b) same
    ∙ wide_under wide narrow more request moment (basis_of club words) e of_row h

abbrev IsRevoked : List ℕ → Club → Type 0
IsRevoked name club = option_map (λ (key : Key). key.revoked) (key_named name club) ≡ Some true

stays_revoked : (name : List ℕ) (club : Club) (change : Change) → IsRevoked name club → IsRevoked name (after change club)
stays_revoked name club (InsertKey new) h = grind (arith, find-append (has_name name) club.keys (new ∷ []))
stays_revoked name club (MarkRevoked other) h = grind (arith, find-map (has_name name) (revoked_key other) (λ k. refl) club.keys)
stays_revoked name club (ReplaceRoot other former root until) h = grind (arith, find-map (has_name name) (rotated_key other root until) (λ k. refl) club.keys)
stays_revoked name club change h = h

revoked_since : (club : Club) (history : List Event) (name : List ℕ) → WasRevoked club history name → IsRevoked name (club_after club history)
revoked_since club history name was =
    let start = club_after club was.front in
    let then = (step start (Commanded (RevokeKey name))).club in
    rw (was.place, club_after-append club was.front (Commanded (RevokeKey name) ∷ was.rest))
    (kept_by_run (IsRevoked name) (stays_revoked name) then was.rest (grind (
      arith,
      find-map (has_name name) (revoked_key name) (λ k. refl) start.keys,
      found_passes (has_name name) start.keys,
    )))

pub serves_nothing : TestsTheSet → TestsTheSignature → ServesNoRevokedKey
serves_nothing set signature club history name words moment was named served =
    let end = club_after club history in
    let entitled = served_entitled set signature words moment end words.pass (basis_of end words) refl refl served in
    let same : name ≡ entitled.basis.key.name = same_Some name entitled.basis.key.name (sym named ∙ (ap key_of entitled.read ∙ entitled.key_name)) in
    let since : IsRevoked entitled.basis.key.name end = rw same at (revoked_since club history name was) in
    let row = entitled.row in
    let valid = entitled.not_revoked in
    absurd (grind arith)

-- The request asks to book or cancel this booking, and the reply has the booking's recorded values.
abbrev pub IsAgain : Booking → Request → Reply → Type 0
IsAgain booking (asked.Book slot number guests) reply =
    ((same_slot booking.slot slot && booking.guests == guests) ≡ true) × (reply ≡ Booked booking.key booking.number booking.charge booking.left)
IsAgain booking (asked.Cancel slot number) reply =
    (same_slot booking.slot slot ≡ true) × (booking.cancelled ≡ true) × (reply ≡ Cancelled booking.key booking.number booking.refund)
IsAgain booking request reply = ⊥

-- The booking of a served request is on record, under the key that the request's pass names.
pub record IsRecorded (bookings : List Booking) (words : Words) (reply : Reply) (booking : Booking) : Type 0 where
  pub key_name : key_of words.pass ≡ Some booking.key
  pub number_is : request_number words.request ≡ Some booking.number
  pub found : booking_under booking.key booking.number bookings ≡ Some booking
  pub again : IsAgain booking words.request reply

abbrev HasRecord : List Booking → Words → Reply → Type 0
HasRecord bookings words reply = (booking : Booking) × IsRecorded bookings words reply booking

still_again : (booking : Booking) (name : List ℕ) (n refund : ℕ) (request : Request) (reply : Reply) → IsAgain booking request reply
    → IsAgain (cancelled_booking name n refund booking) request reply
still_again booking name n refund (asked.Book slot number guests) reply h = h
still_again booking name n refund (asked.Cancel slot number) reply h = grind arith
still_again booking name n refund request reply h = absurd h

stays_after : (club : Club) (change : Change) (words : Words) (reply : Reply) → HasRecord club.bookings words reply
    → HasRecord (after change club).bookings words reply
stays_after club (InsertBooking booking member) words reply h = (h.0, let r = h.1 in grind (arith, found_before))
stays_after club (MarkCancelled booking member refund) words reply h =
    let mark = cancelled_booking booking.key booking.number refund in
    let again = still_again h.0 booking.key booking.number refund words.request reply in
    let r = h.1 in (mark h.0, grind (arith, find-map (is_numbered h.0.key h.0.number) mark (λ b. refl) club.bookings, again))
stays_after club change words reply h = h

stays_on_record : (club : Club) (events : List Event) (words : Words) (reply : Reply) → HasRecord club.bookings words reply
    → HasRecord (club_after club events).bookings words reply
stays_on_record club events words reply =
    kept_by_run (λ (c : Club). HasRecord c.bookings words reply) (λ c change. stays_after c change words reply) club events

recorded : (words : Words) (bookings : List Booking) (reply : Reply) (key : List ℕ) (number : ℕ) (booking : Booking) → key_of words.pass ≡ Some key
    → request_number words.request ≡ Some number → find (is_numbered key number) bookings ≡ Some booking → IsAgain booking words.request reply
    → HasRecord bookings words reply
recorded words bookings reply key number booking k n found again =
    let it = numbered key number booking (found_passes (is_numbered key number) bookings booking found) in
    (booking, grind arith)

pub recorded_when_served : (club : Club) (words : Words) (moment : ℕ) → IsBookedOrCancelled (verdict_in club words moment).reply
    → HasRecord (after_change (verdict_in club words moment).change club).bookings words (verdict_in club words moment).reply
recorded_when_served club words moment =
    answer_cases (λ (v : Verdict). IsBookedOrCancelled v.reply → HasRecord (after_change v.change club).bookings words v.reply) club words moment (record {
      silent = λ reply h s. absurd (grind arith);
      repeats_booking = λ key member slot number guests booking k e found same s.
          recorded words _ _ key.name number booking k.key_name (ap request_number e) found (rw e (same, refl));
      books = λ key member slot number guests facility k e b s.
          let new = written club key slot number guests facility in
          recorded words _ _ key.name number new k.key_name (ap request_number e)
          (find-append (is_numbered key.name number) club.bookings (new ∷ []) ∙ rw (b.new, (self_numbered new))) (rw e (grind (arith, same_slots slot)));
      cancels_recorded = λ key member slot number booking k e found same before s.
          recorded words _ _ key.name number booking k.key_name (ap request_number e) found (rw e (same, before, refl));
      cancels = λ key member slot number booking k e c s.
          let mark = cancelled_booking booking.key booking.number (refund_at booking moment) in
          recorded words _ _ key.name number (mark booking) k.key_name (ap request_number e)
          (find-map (is_numbered key.name number) mark (λ b. refl) club.bookings ∙ ap (option_map mark) c.found)
          (rw e (grind (arith, self_numbered booking)));
    })

seen_on_record : (club : Club) (words : Words) (moment : ℕ) (basis : Basis) (reply : Reply) (r : HasRecord club.bookings words reply)
    → basis_of club words ≡ Some basis → (view_of basis words.request moment).booking ≡ Some r.0
seen_on_record club words moment basis reply r is =
    let k = known_rows club words basis is in
    let own = own_booking club words basis.key basis.member r.0.number k in grind arith

decides_by_record : (booking : Booking) (request : Request) (reply : Reply) (view : View) (moment : ℕ) → view.booking ≡ Some booking
    → IsAgain booking request reply → verdicts.verdict_of view request moment ≡ verdicts.reply_only reply
decides_by_record booking request reply view moment e again = grind arith

step_by_record : TestsTheSet → TestsTheSignature → (club : Club) (words : Words) (moment : ℕ) (reply : Reply) → HasRecord club.bookings words reply
    → IsAcceptedIn club words moment
    → step club (Asked words moment) ≡ record { reply = ToMember reply; club = club }
step_by_record set signature club words moment reply r a =
    let accepted = accepted_under set signature a.pass words.request moment a.basis a.acceptance in
    let seen = seen_on_record club words moment a.basis reply r a.known in
    let decided = decides_by_record r.0 words.request reply (view_of a.basis words.request moment) moment seen r.1.again in
    rw (a.known, a.read) (ap (verdict_outcome club) (accepted ∙ decided))

pub recorded_since : (club : Club) (history : List Event) (words : Words) (reply : Reply) → WasServed club history words reply
    → HasRecord (club_after club history).bookings words reply
recorded_since club history words reply w =
    let start = club_after club w.front in
    let then = (step start (Asked w.first w.moment)).club in
    let returned : (verdict_in start w.first w.moment).reply ≡ reply = let e = w.reply_is in cc in
    let first = recorded_when_served start w.first w.moment (rw returned w.success) in
    let later : HasRecord (club_after then w.rest).bookings w.first reply = stays_on_record then w.rest w.first reply (rw returned at first) in
    let end : club_after club history ≡ club_after then w.rest = rw w.place (club_after-append club w.front (Asked w.first w.moment ∷ w.rest)) in
    (later.0, grind arith)

pub step_of_repeat : TestsTheSet → TestsTheSignature → RepeatsReturnTheSame
step_of_repeat set signature club history words moment reply w a =
    step_by_record set signature (club_after club history) words moment reply (recorded_since club history words reply w) a

pub left_out : TestsTheSet → TestsTheSignature → RepeatsMayBeLeftOut
left_out set signature club history words moment reply rest w a =
    let again = step_of_repeat set signature club history words moment reply w a in
    record {
      replies =
          replies_of-append club history (Asked words moment ∷ rest)
          ∙ ap (λ (outcome : Outcome). replies_of club history ++ outcome.reply ∷ replies_of outcome.club rest) again;
      others = replies_of-append club history rest;
      kept =
          club_after-append club history (Asked words moment ∷ rest)
          ∙ (ap (λ (outcome : Outcome). club_after outcome.club rest) again ∙ sym (club_after-append club history rest));
    }

recorded_by_office : (club : Club) (words : Words) (key : List ℕ) (number : ℕ) (booking : Booking) → key_of words.pass ≡ Some key
    → words.request ≡ asked.Cancel booking.slot number → booking_under key number club.bookings ≡ Some booking
    → (step club (Commanded (CancelBooking key number))).reply ≡ ToOffice Done
    → HasRecord (step club (Commanded (CancelBooking key number))).club.bookings words (Cancelled key number (refund_by_office booking))
recorded_by_office club words key number booking named asks found =
    let it = numbered key number booking (found_passes (is_numbered key number) club.bookings booking found) in
    cancel_cases (λ o. o.reply ≡ ToOffice Done → HasRecord o.club.bookings words (Cancelled key number (refund_by_office booking))) club key number
    (λ fault returned. absurd (cc))
    (λ b there before returned.
    recorded words _ _ key number booking named (ap request_number asks) found (rw asks (grind (arith, same_slots booking.slot))))
    (λ row b there live returned.
    let is : b ≡ booking = cc in
    let mark = cancelled_booking b.key b.number b.charge in
    recorded words _ _ key number (mark booking) named (ap request_number asks)
    (find-map (is_numbered key number) mark (λ b. refl) club.bookings ∙ ap (option_map mark) found)
    (rw asks (grind (arith, same_slots booking.slot, self_numbered booking))))

pub cancelled_by_record : TestsTheSet → TestsTheSignature → CancellationsReturnTheRecord
cancelled_by_record set signature club history words moment key number booking w named asks a =
    let start = club_after club w.front in
    let then = (step start (Commanded (CancelBooking key number))).club in
    let reply = Cancelled key number (refund_by_office booking) in
    let first = recorded_by_office start words key number booking named asks w.found w.reply_is in
    let later : HasRecord (club_after then w.rest).bookings words reply = stays_on_record then w.rest words reply first in
    let end = club_after-append club w.front (Commanded (CancelBooking key number) ∷ w.rest) in
    step_by_record set signature (club_after club history) words moment reply (rw (w.place, end) later) a
