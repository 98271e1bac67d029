-- Defines the faults of a list of caveats, and the caveats that depend on the kind of a slot's
-- facility. Each caveat of a pass is a text.
use Rattle.std.specs.{Fmt.decimal, List.AllZip, Prelude.{◌≡◌, ℕ, ◌+◌, List, [], ◌∷◌, ◌++◌, length, All, Option, Some, None, if◌then◌else◌, codes, ◌↔◌, Bool}}
use Rattle.std.specs.Prelude.{true, false}
use Rattle.club_values.specs.{Number.Reads, declared.kind.Kind.Kind as AKind}
use Rattle.pass_caveats.specs.{Caveat.{Understood, Permits, permits}, declared.{ask.Ask.Ask, caveat.Caveat.{Caveat, TheVariants.Kind}}}
use Rattle.pass_caveats.specs.declared.fault.CaveatFault.{CaveatFault, TheVariants.{NotUnderstood, Denied}}

-- The text is understood as a caveat that allows the request. A text that isn't understood allows
-- no request.
abbrev pub Allows : List ℕ → Ask → Type 0
Allows text ask = (caveat : Caveat) × Understood text caveat × Permits caveat ask

-- Every text in the list allows the request. In the macaroons paper (NDSS 2014), a caveat is a
-- predicate, and all predicates must be true.
abbrev pub Allowed : List (List ℕ) → Ask → Type 0
Allowed texts ask = All (λ text. Allows text ask) texts

-- The text isn't understood as any caveat.
abbrev pub IsUnknown : List ℕ → Type 0
IsUnknown text = (caveat : Caveat) → ¬ (Understood text caveat)

-- The text is understood as a caveat that doesn't allow the request.
abbrev pub Denies : List ℕ → Ask → Type 0
Denies text ask = (caveat : Caveat) × Understood text caveat × (¬ (Permits caveat ask))

-- The text with the number `n` has the given fault, and every text before this text allows the
-- request. The first text has the number 1.
pub record IsFirstAt (texts : List (List ℕ)) (ask : Ask) (n : ℕ) (Fault : List ℕ → Type 0) : Type 0 where
  pub front : List (List ℕ)
  pub text : List ℕ
  pub rest : List (List ℕ)
  pub place : texts ≡ front ++ text ∷ rest
  pub number : n ≡ length front + 1
  pub before : Allowed front ask
  pub fault : Fault text

-- The fault of a text with the number `n`. The fault is `None` if the text allows the request.
abbrev pub IsFaultAt : List ℕ → ℕ → Ask → Option CaveatFault → Type 0
IsFaultAt text n ask None = Allows text ask
IsFaultAt text n ask (Some (NotUnderstood m)) = (m ≡ n) × IsUnknown text
IsFaultAt text n ask (Some (Denied m)) = (m ≡ n) × Denies text ask

-- The first fault of a list of texts. The fault is `None` if every text allows the request.
abbrev pub IsFirstFault : List (List ℕ) → Ask → Option CaveatFault → Type 0
IsFirstFault texts ask None = Allowed texts ask
IsFirstFault texts ask (Some (NotUnderstood n)) = IsFirstAt texts ask n IsUnknown
IsFirstFault texts ask (Some (Denied n)) = IsFirstAt texts ask n (λ text. Denies text ask)

-- Each text in the first list is understood as the caveat at the same position in the second list.
-- If a text isn't understood, the second list has `None` at the position of this text.
abbrev pub AreUnderstoodAs : List (List ℕ) → List (Option Caveat) → Type 0
AreUnderstoodAs texts caveats = AllZip (λ (text : List ℕ) (caveat : Option Caveat). Reads (Understood text) caveat) texts caveats

-- Returns the first fault of a list of caveats, or `None` if every caveat permits the request. The
-- argument `n` is the number of the first caveat. An element `None` represents a text that isn't
-- understood, which is a fault.
abbrev pub first_fault_from : ℕ → List (Option Caveat) → Ask → Option CaveatFault
first_fault_from n [] ask = None
first_fault_from n (None ∷ caveats) ask = Some (NotUnderstood n)
first_fault_from n (Some caveat ∷ caveats) ask = if permits caveat ask then first_fault_from (n + 1) caveats ask else Some (Denied n)

abbrev pub first_fault_of : List (Option Caveat) → Ask → Option CaveatFault
first_fault_of caveats ask = first_fault_from 1 caveats ask

-- Returns the text that describes a fault.
abbrev pub caveat_fault_text : CaveatFault → List ℕ
caveat_fault_text (NotUnderstood n) = codes "caveat " ++ (decimal n ++ codes " not understood")
caveat_fault_text (Denied n) = codes "caveat " ++ (decimal n ++ codes " denies")

-- Returns true if the caveat restricts the kind of a facility, as in `kind = court`.
abbrev pub is_on_kind : Option Caveat → Bool
is_on_kind (Some (Kind kind)) = true
is_on_kind caveat = false

-- Returns a copy of the request with a different kind of facility.
abbrev pub at_kind : Option AKind → Ask → Ask
at_kind kind ask = record ask { kind = kind }

-- The fault of the text doesn't depend on the kind of the facility.
abbrev pub IsBlindToKind : List ℕ → Type 0
IsBlindToKind text =
    (number : ℕ) (ask : Ask) (kind : Option AKind) (fault : Option CaveatFault)
    → IsFaultAt text number (at_kind kind ask) fault ↔ IsFaultAt text number ask fault
