-- Defines how the code's `Words` correspond to the `Words` that the rules in `club_core` use, and
-- the views of the solo machine.
use Rattle.std.specs.{Prelude.{◌≡◌, ◌↔◌, ℕ, List, map, Contains, IsTrue, Option, Some, None, Result, Ok, Err, ◌+◌}, Vec.vec_items}
use Rattle.club_core.specs.{Answer.{answer_by_view, ask_of, form_refusal}, Request.{Pass, Words, is_signed_under}, Verdict.refusal_verdict}
use Rattle.club_core.specs.declared.{pass_fault.PassFault.PassFault, refusal.Refusal.TheVariants.NotVerified, request.Request.Request, slot_use.SlotUse.SlotUse}
use Rattle.club_core.specs.declared.{verdict.Verdict.Verdict, view.KeyView.KeyView}
use Rattle.club_reference.specs.declared.words.{Pass.Pass as PassInCode, Words.Words as WordsInCode}
use Rattle.pass_caveats.specs.Fault.{AreUnderstoodAs, first_fault_of}

-- The model of a pass has the pass's key. For each caveat text, the model has the caveat that the
-- text encodes, or `None` if the text isn't understood. A root signs the model if and only if the
-- root is in the pass's list of roots.
pub record IsPassModel (pass : PassInCode) (model : Pass) : Type 0 where
  pub key : model.key ≡ pass.key
  pub caveats : AreUnderstoodAs (map vec_items pass.caveats.items) model.caveats
  pub signed : (root : List ℕ) → IsTrue (model.is_signed root) ↔ Contains pass.roots.items root

-- `IsPassModel` defines the model of a parsed pass. The model of a fault is the same fault.
abbrev pub IsResultModel : Result PassInCode PassFault → Result Pass PassFault → Type 0
IsResultModel (Ok pass) (Ok model) = IsPassModel pass model
IsResultModel (Err fault) (Err other) = other ≡ fault
IsResultModel pass model = ⊥

-- The model of a request with its pass contains the same request, and a model of the pass.
abbrev pub IsModelOf : WordsInCode → Words → Type 0
IsModelOf words model = IsResultModel words.pass model.pass × (model.request ≡ words.request)

-- The answer to a request with a pass. `seen` contains the key that the pass names and the view of
-- the request, or is `None` if the club doesn't have this key.
abbrev pub answer_seen : Result Pass PassFault → Request → ℕ → Option KeyView → Verdict
answer_seen (Err fault) request moment seen = refusal_verdict (form_refusal fault)
answer_seen (Ok pass) request moment None = refusal_verdict NotVerified
answer_seen (Ok pass) request moment (Some seen) =
    answer_by_view (Some seen.view) (is_signed_under pass seen.key moment) (first_fault_of pass.caveats (ask_of seen.view request moment)) request moment

-- The view after adding the persons in `others` to the persons in the slot. The value of `closed`
-- also comes from `others`.
abbrev pub with_outside : SlotUse → KeyView → KeyView
with_outside others seen = record seen { view = record seen.view { taken = seen.view.taken + others.taken; closed = others.closed } }
