-- Defines the answer to a request. The rules first accept or refuse the pass, and then decide the
-- request. The answer depends only on the request, the pass, the moment of the request and the
-- basis.
use Rattle.club_core.specs.declared.request.Request.TheVariants as asked
use Rattle.std.specs.Prelude.{ℕ, not, Bool, false, [], ◌∷◌, Option, Some, None, Result, Ok, Err, is_some, option_map}
use Rattle.club_core.specs.{Basis.{Basis, basis_of, view_of}, Club.Club, Request.{Pass, Words, is_signed_under, request_action, request_slot, request_guests}}
use Rattle.club_core.specs.{Verdict.{line_if, first_of, refusal_verdict, verdict_of}, declared.pass_fault.PassFault.{PassFault, TheVariants.TooLong}}
use Rattle.club_core.specs.declared.{pass_fault.PassFault.TheVariants.{Malformed, ThirdParty, TooMany}, refusal.Refusal.{Refusal, TheVariants.PassTooLong}}
use Rattle.club_core.specs.declared.refusal.Refusal.TheVariants.{PassMalformed, ThirdPartyCaveat, TooManyCaveats, NotVerified, KeyRevoked, CaveatNotUnderstood}
use Rattle.club_core.specs.declared.{refusal.Refusal.TheVariants.CaveatDenies, request.Request.Request, verdict.Verdict.Verdict, view.View.View}
use Rattle.club_rows.specs.{Rows.charge_of, declared.facility.Facility.Facility}
use Rattle.pass_caveats.specs.{Fault.first_fault_of, declared.{ask.Ask.Ask, fault.CaveatFault.{CaveatFault, TheVariants.{NotUnderstood, Denied}}}}

-- The points that the request would charge. Only a booking of a known facility, with an unused
-- number, charges points.
abbrev pub owed_at : Request → Bool → Option Facility → ℕ
owed_at (asked.Book slot number guests) false (Some facility) = charge_of facility guests
owed_at request recorded facility = 0

-- The values of a request that caveats can test.
abbrev pub ask_of : View → Request → ℕ → Ask
ask_of view request moment = record {
  action = request_action request;
  slot = request_slot request;
  kind = option_map (λ (facility : Facility). facility.kind) view.facility;
  guests = request_guests request;
  moment = moment;
  owed = owed_at request (is_some view.booking) view.facility;
  spent = view.spent;
}

-- The refusal for a text that isn't a valid pass.
abbrev pub form_refusal : PassFault → Refusal
form_refusal TooLong = PassTooLong
form_refusal Malformed = PassMalformed
form_refusal ThirdParty = ThirdPartyCaveat
form_refusal TooMany = TooManyCaveats

-- The answer after the rules have tested the caveats. The first argument is the first fault of the
-- caveats. If there is a fault, the answer is the refusal for this fault. Otherwise, the answer is
-- the second argument.
abbrev pub after_caveats : Option CaveatFault → Verdict → Verdict
after_caveats None verdict = verdict
after_caveats (Some (NotUnderstood n)) verdict = refusal_verdict (CaveatNotUnderstood n)
after_caveats (Some (Denied n)) verdict = refusal_verdict (CaveatDenies n)

-- The answer to a request with a decoded pass. The view is `None` if the club doesn't have the
-- pass's key. `is_signed` is true if a root of the key signs the pass and is valid at the moment.
-- `fault` is the fault of the first caveat that doesn't allow the request, or `None` if all caveats
-- allow the request.
abbrev pub answer_by_view : Option View → Bool → Option CaveatFault → Request → ℕ → Verdict
answer_by_view None is_signed fault request moment = refusal_verdict NotVerified
answer_by_view (Some view) is_signed fault request moment =
    first_of (line_if (not is_signed) (refusal_verdict NotVerified) ∷ line_if view.key.revoked (refusal_verdict KeyRevoked) ∷ [])
    (after_caveats fault (verdict_of view request moment))

-- The answer to a request, computed from the basis and the decoded pass. If the pass's text has a
-- fault, the fault alone determines the answer. The basis is `None` if the pass names no key of the
-- club.
abbrev pub answer_to : Result Pass PassFault → Request → ℕ → Option Basis → Verdict
answer_to (Err fault) request moment basis = refusal_verdict (form_refusal fault)
answer_to (Ok pass) request moment None = refusal_verdict NotVerified
answer_to (Ok pass) request moment (Some basis) =
    let view = view_of basis request moment in
    answer_by_view (Some view) (is_signed_under pass basis.key moment) (first_fault_of pass.caveats (ask_of view request moment)) request moment

-- The answer to a request, computed from its basis.
abbrev pub answer_by_basis : Words → ℕ → Option Basis → Verdict
answer_by_basis words moment basis = answer_to words.pass words.request moment basis

-- A club's answer to a request that comes at this moment.
abbrev pub verdict_in : Club → Words → ℕ → Verdict
verdict_in club words moment = answer_by_basis words moment (basis_of club words)
