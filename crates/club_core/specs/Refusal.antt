-- Defines the number and the text of each refusal, and the texts of the office's faults and of a
-- store's faults.
use Rattle.std.specs.Prelude.{ℕ, List, codes, Option, Some, None}
use Rattle.club_core.specs.declared.{command.OfficeFault.{OfficeFault, TheVariants.{Exists, Unknown, OutOfRange, SlotInUse}}, refusal.Refusal.Refusal}
use Rattle.club_core.specs.declared.refusal.Refusal.TheVariants.{BadRequest, NoSuchPath, MethodNotAllowed, NoPass, PassTooLong, PassMalformed, ThirdPartyCaveat}
use Rattle.club_core.specs.declared.refusal.Refusal.TheVariants.{TooManyCaveats, NotVerified, KeyRevoked, CaveatNotUnderstood, CaveatDenies, NumberUsed}
use Rattle.club_core.specs.declared.refusal.Refusal.TheVariants.{NoSuchFacility, NoSuchBooking, NotBookable, SlotClosed, NoPlaces, QuotaReached, BalanceTooLow}
use Rattle.club_core.specs.declared.{refusal.Refusal.TheVariants.{SlotHasBegun, Unavailable}, store.StoreFault.{StoreFault, TheVariants.{Memory, Storage}}}

abbrev pub office_fault_text : OfficeFault → List ℕ
office_fault_text Exists = codes "exists"
office_fault_text Unknown = codes "unknown"
office_fault_text OutOfRange = codes "out of range"
office_fault_text SlotInUse = codes "slot in use"

abbrev pub store_fault_text : StoreFault → List ℕ
store_fault_text Memory = codes "out of memory"
store_fault_text Storage = codes "storage failed"

-- A refusal's number and text in the reply.
pub record RefusalDetails : Type 0 where
  pub number : ℕ
  pub text : List ℕ

abbrev pub details : ℕ → List ℕ → RefusalDetails
details number text = record { number = number; text = text }

abbrev pub details_of : Refusal → RefusalDetails
details_of BadRequest = details 1 (codes "bad request")
details_of NoSuchPath = details 2 (codes "no such path")
details_of (MethodNotAllowed resource) = details 3 (codes "method not allowed")
details_of NoPass = details 4 (codes "no pass")
details_of PassTooLong = details 5 (codes "pass too long")
details_of PassMalformed = details 6 (codes "pass malformed")
details_of ThirdPartyCaveat = details 7 (codes "third-party caveat")
details_of TooManyCaveats = details 8 (codes "too many caveats")
details_of NotVerified = details 9 (codes "not verified")
details_of KeyRevoked = details 10 (codes "key revoked")
details_of (CaveatNotUnderstood n) = details 11 (codes "caveat not understood")
details_of (CaveatDenies n) = details 12 (codes "caveat denies")
details_of NumberUsed = details 13 (codes "number used")
details_of NoSuchFacility = details 14 (codes "no such facility")
details_of NoSuchBooking = details 15 (codes "no such booking")
details_of NotBookable = details 16 (codes "not bookable")
details_of SlotClosed = details 17 (codes "slot closed")
details_of NoPlaces = details 18 (codes "no places")
details_of QuotaReached = details 19 (codes "quota reached")
details_of BalanceTooLow = details 20 (codes "balance too low")
details_of SlotHasBegun = details 21 (codes "slot has begun")
details_of Unavailable = details 22 (codes "unavailable")

-- The position of the caveat that caused the refusal, counted from 1. The position is `None` for
-- all refusals except `CaveatNotUnderstood` and `CaveatDenies`.
abbrev pub caveat_of_refusal : Refusal → Option ℕ
caveat_of_refusal (CaveatNotUnderstood n) = Some n
caveat_of_refusal (CaveatDenies n) = Some n
caveat_of_refusal refusal = None
