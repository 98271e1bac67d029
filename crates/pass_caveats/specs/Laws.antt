-- Defines the laws of this crate. Each law relates definitions in `specs/` to each other.
use Rattle.std.specs.{Option.option_or, Prelude.{◌≡◌, ◌↔◌, ℕ, ◌+◌, List, [], ◌∷◌, ◌++◌, length, IsTrue, Option, Some, None}}
use Rattle.club_values.specs.Number.{Reads}
use Rattle.pass_caveats.specs.{Caveat.{Understood, Permits, permits}, Fault.{Allowed, AreUnderstoodAs, IsFaultAt, IsFirstFault, first_fault_from}}
use Rattle.pass_caveats.specs.{Fault.first_fault_of, computed.CaveatOf.caveat_of, declared.{ask.Ask.Ask, caveat.Caveat.Caveat, fault.CaveatFault.CaveatFault}}

-- If a list of caveats allows a request, every prefix of the list allows the request too.
abbrev pub Narrows : Type 0
Narrows = (texts more : List (List ℕ)) (ask : Ask) → Allowed (texts ++ more) ask → Allowed texts ask

-- A list of caveats has no first fault if and only if it allows the request.
abbrev pub FaultsOnlyWhereNotAllowed : Type 0
FaultsOnlyWhereNotAllowed =
    (texts : List (List ℕ)) (ask : Ask) (fault : Option CaveatFault) → IsFirstFault texts ask fault → (fault ≡ None) ↔ Allowed texts ask

-- Given the caveat of each text in a list, `first_fault_of` returns the first fault of the texts. A
-- text that isn't understood has the caveat `None`.
abbrev pub FindsTheFirstFault : Type 0
FindsTheFirstFault =
    (texts : List (List ℕ)) (caveats : List (Option Caveat)) (ask : Ask) (fault : Option CaveatFault) → AreUnderstoodAs texts caveats →
    IsFirstFault texts ask fault ↔ (fault ≡ first_fault_of caveats ask)

-- Given the caveat of a text, `first_fault_from` returns the fault of the text. A text that isn't
-- understood has the caveat `None`.
abbrev pub FindsTheFaultAt : Type 0
FindsTheFaultAt =
    (text : List ℕ) (caveat : Option Caveat) (n : ℕ) (ask : Ask) (fault : Option CaveatFault) → Reads (Understood text) caveat →
    IsFaultAt text n ask fault ↔ (fault ≡ first_fault_from n (caveat ∷ []) ask)

-- Suppose that a caveat is appended to a list. If the list already has a first fault, the fault
-- stays the same. Otherwise the first fault is the fault of the new caveat.
abbrev pub FindsTheFaultOfOneMore : Type 0
FindsTheFaultOfOneMore =
    (caveats : List (Option Caveat)) (caveat : Option Caveat) (ask : Ask) →
    first_fault_of (caveats ++ caveat ∷ []) ask ≡ option_or (first_fault_of caveats ask) (first_fault_from (length caveats + 1) (caveat ∷ []) ask)

-- `caveat_of` returns a caveat if and only if the text is understood as this caveat.
abbrev pub ReadsWhatIsUnderstood : Type 0
ReadsWhatIsUnderstood = (text : List ℕ) (caveat : Caveat) → Understood text caveat ↔ (caveat_of text ≡ Some caveat)

-- `permits` returns true if and only if the caveat allows the request.
abbrev pub TestsTheSet : Type 0
TestsTheSet = (caveat : Caveat) (ask : Ask) → Permits caveat ask ↔ IsTrue (permits caveat ask)

-- A text is understood as at most one caveat.
abbrev pub IsUnderstoodOnce : Type 0
IsUnderstoodOnce = (text : List ℕ) (a b : Caveat) → Understood text a → Understood text b → a ≡ b
