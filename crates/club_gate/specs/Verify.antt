-- The rows that the desk reads to answer a request with a signed pass, the verdict on the pass, and
-- the state of the store afterwards.
use Rattle.std.specs.Prelude.{◌≡◌, ◌⊎◌, ℕ, IsTrue, map, Option, Some, None, is_some, option_and_then, ◌≤◌, not, List, [], ◌∷◌, length, IfOk, Result, Ok, Err}
use Rattle.club_core.specs.{Answer.form_refusal, Basis.state_of, Club.{Club, key_named, booking_under}, Laws.seen_by_caveats, Request.request_number}
use Rattle.club_core.specs.{Request.{request_slot, is_signed_under}, Store.{IsRead, StoreGhosts}, Verdict.{line_if, first_of, refusal_verdict}}
use Rattle.club_core.specs.declared.{refusal.Refusal.{Refusal, TheVariants.{KeyRevoked, NotVerified}}, request.Request.Request, store.StoreFault.StoreFault}
use Rattle.club_core.specs.declared.{verdict.Verdict.Verdict, view.View.View}
use Rattle.club_gate.specs.{DecodedPass.fault_of, computed.DecodedPass.machine_pass}
use Rattle.club_rows.specs.{Rows.row_of_key, declared.key.{Key.Key, KeyRow.KeyRow}}
use Rattle.club_values.specs.declared.kind.Kind.{Kind}
use Rattle.pass_caveats.specs.{Fault.{first_fault_of, at_kind}, computed.CaveatOf.caveat_of, declared.ask.Ask.Ask}
use Rattle.pass_forms.specs.{FieldSource.{PassField, pass_fields}, Pass.Plain, Reading.max_caveats, declared.fault.FormFault.FormFault}

-- No caveat of the pass depends on the kind of the slot's facility.
abbrev pub IsBlindPass : Plain → Type 0
IsBlindPass pass =
    (ask : Ask) (kind : Option Kind)
    → first_fault_of (map caveat_of pass.caveats) (at_kind kind ask) ≡ first_fault_of (map caveat_of pass.caveats) ask

-- The view has the row of the key, the key's booking with the request's number, and the facility of
-- the request's slot. The desk reads the booking and the facility before it checks the caveats. The
-- facility may be missing if the booking exists and no caveat depends on the facility's kind. The
-- view contains no other rows.
pub record AgreesOnRecord (club : Club) (key : KeyRow) (pass : Plain) (request : Request) (view : View) : Type 0 where
  pub key_is : view.key ≡ key
  pub booking_is : view.booking ≡ option_and_then (λ (number : ℕ). booking_under key.name number club.bookings) (request_number request)
  pub facility_is :
      (view.facility ≡ (state_of club (request_slot request)).facility) ⊎ (IsBlindPass pass × IsTrue (is_some view.booking) × (view.facility ≡ None))
  pub no_more : view ≡ seen_by_caveats view

-- The row belongs to a key of the club.
abbrev pub IsOnRecord : Club → KeyRow → Type 0
IsOnRecord club row = (key : Key) × (key_named key.name club ≡ Some key) × (row ≡ row_of_key key)

-- If the pass with these fields has at most 64 caveats, the pass has the property `IsSo`.
abbrev pub OfItsPass : List PassField → (Plain → Type 0) → Type 0
OfItsPass fields IsSo = (pass : Plain) → fields ≡ pass_fields pass → length pass.caveats ≤ max_caveats → IsSo pass

-- Returns the row of the key that a pass names, or a refusal. The refusal means that the club has
-- no such key, the pass isn't signed under this key, or the key is revoked.
abbrev pub signer_of : Plain → ℕ → Option Key → Result KeyRow Refusal
signer_of pass moment None = Err NotVerified
signer_of pass moment (Some key) =
    first_of (line_if (not (is_signed_under (machine_pass pass) key moment)) (Err NotVerified) ∷ line_if key.revoked (Err KeyRevoked) ∷ [])
    (Ok (row_of_key key))

-- A call returned a verdict, or failed with a fault. A fault has one of two causes. Either the
-- store failed with this fault while it read rows, or the text is JSON and the store wasn't called.
abbrev pub ReadsOrLacksMemory : {S : Type 0} → StoreGhosts S → Type 0 → S → S → Result Verdict StoreFault → Type 0
ReadsOrLacksMemory ghosts IsJsonText old new (Ok verdict) = IsRead ghosts old new
ReadsOrLacksMemory ghosts IsJsonText old new (Err fault) = ghosts.fails None old fault new ⊎ (IsJsonText × (new ≡ old))

-- The result for a text that has this fault. The store wasn't called, and the club doesn't change.
-- If the text is parsed without memory (`IsInPlace`), the result is always a refusal with this
-- fault.
pub record RefusesText {S : Type 0} (old new : S) (IsInPlace : Type 0) (fault : FormFault) (result : Result Verdict StoreFault) : Type 0 where
  pub same_store : new ≡ old
  pub no_change : IfOk result (λ verdict. verdict.change ≡ None)
  pub in_place : IsInPlace → result ≡ Ok (refusal_verdict (form_refusal (fault_of fault)))
