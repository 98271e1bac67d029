-- Lemmas for the proof that the functions in `specs/computed/CaveatOf.antt` agree with the
-- definitions in `specs/`, and about kinds, earlier spending and the first fault.
use Rattle.std.proofs.Common.{◌≡◌, ◌↔◌, ℕ, ◌+◌, List, [], ◌∷◌, ◌++◌, length, map, ◌⊎◌, Option, Some, None, inl, inr, refl, sym, ◌∙◌, arith, add-zero, false, ap}
use Rattle.std.proofs.{Common.{◌≤◌, ◌==◌, ◌||◌, true, nat_le, All, IfSome, ◌<◌, get_or, take, drop, add-one, Vec}, Math.Seq.take-suc}
use Rattle.std.proofs.lemmas.{Bool.{cases_Bool, false_from_ne_true, both_ways, Decides.nat_tests}, Grind.common_steps, List.{append_assoc, append-nil}}
use Rattle.std.proofs.lemmas.List.{take-append-drop, length-take-le, Elements.{All-head, All-tail, All-push, All-nil, All-cons}}
use Rattle.std.specs.{Option.option_or, Vec.vec_items}
use Rattle.club_values.specs.{Number.{number_limit, Reads}, declared.{action.Action.TheVariants.View, kind.Kind.{Kind as AKind, TheVariants.Court}}}
use Rattle.pass_caveats.{proofs.ChoiceLemmas.Decides-permits, specs.{Caveat.{Understood, Permits, permits, IsCaveat}, Fault.{IsFirstFault, IsFirstAt}}}
use Rattle.pass_caveats.specs.Fault.{first_fault_from, first_fault_of, Allows, Allowed, AreUnderstoodAs, IsUnknown, Denies, IsFaultAt, IsBlindToKind, at_kind}
use Rattle.pass_caveats.specs.{Fault.is_on_kind, Laws.{FindsTheFaultAt, FindsTheFirstFault, IsUnderstoodOnce, ReadsWhatIsUnderstood}, Spending.slack_under}
use Rattle.pass_caveats.specs.{Spending.{HoldsWithin, IsWithin, LimitsNoMore, after_spending}, computed.CaveatOf.{candidate, caveat_of}, declared.ask.Ask.Ask}
use Rattle.pass_caveats.specs.declared.{caveat.Caveat.{Caveat, TheVariants.{Kind, Spend}}, fault.CaveatFault.{CaveatFault, TheVariants.{NotUnderstood, Denied}}}

pub fault_of_one_more : (n : ℕ) (caveats : List (Option Caveat)) (caveat : Option Caveat) (ask : Ask) →
    first_fault_from n (caveats ++ caveat ∷ []) ask ≡ option_or (first_fault_from n caveats ask) (first_fault_from (n + length caveats) (caveat ∷ []) ask)
fault_of_one_more n [] caveat ask = grind arith
fault_of_one_more n (first ∷ caveats) caveat ask = grind (arith, fault_of_one_more (n + 1) caveats caveat ask)

pub narrower : (texts more : List (List ℕ)) (ask : Ask) → Allowed (texts ++ more) ask → Allowed texts ask
narrower [] more ask h = All-nil (λ t. Allows t ask)
narrower (text ∷ texts) more ask h =
    All-cons (λ t. Allows t ask) text texts (All-head (λ t. Allows t ask) text (texts ++ more) h)
    (narrower texts more ask (All-tail (λ t. Allows t ask) text (texts ++ more) h))

-- A request for a slot at a facility of unknown kind.
abbrev no_facility : Ask
no_facility = record { action = View; slot = Some (record { facility = []; day = 0; hour = 0 }); kind = None; guests = 0; moment = 0; owed = 0; spent = 0 }

allowed_at_its_kind : (kind : AKind) → None ≡ first_fault_from 1 (Some (Kind kind) ∷ []) (at_kind (Some kind) no_facility)
unfolding permits
allowed_at_its_kind Court = refl
allowed_at_its_kind kind = refl

denied_at_none : (kind : AKind) → first_fault_from 1 (Some (Kind kind) ∷ []) no_facility ≡ Some (Denied 1)
unfolding permits
denied_at_none Court = refl
denied_at_none kind = refl

module _ (reads : ReadsWhatIsUnderstood) where
  caveat_of-unknown : (text : List ℕ) → IsUnknown text → caveat_of text ≡ None
  unfolding caveat_of
  caveat_of-unknown text h = grind (arith, reads text (candidate text), h (candidate text))

  pub reads_caveat_of : (text : List ℕ) (r : Option Caveat) → Reads (Understood text) r → r ≡ caveat_of text
  reads_caveat_of text (Some caveat) h = sym ((reads text caveat).0 h)
  reads_caveat_of text None h = sym (caveat_of-unknown text h)

  passed : (n : ℕ) (front rest : List (List ℕ)) (ask : Ask) → Allowed front ask →
      first_fault_from n (map caveat_of (front ++ rest)) ask ≡ first_fault_from (n + length front) (map caveat_of rest) ask
  passed n [] rest ask h = rw add-zero refl
  passed n (text ∷ front) rest ask h =
      let first = All-head (λ t. Allows t ask) text front h in
      let next : n + 1 + length front ≡ n + length (text ∷ front) = omega arith in
      rw ((reads text first.0).0 first.1, (Decides-permits first.0 ask).1 first.2)
      (passed (n + 1) front rest ask (All-tail (λ t. Allows t ask) text front h) ∙ rw next refl)

  pub is_first_fault : (texts : List (List ℕ)) (ask : Ask) (r : Option CaveatFault) → IsFirstFault texts ask r → r ≡ first_fault_of (map caveat_of texts) ask
  is_first_fault texts ask None h = sym (rw append-nil at (passed 1 texts [] ask h))
  is_first_fault texts ask (Some (NotUnderstood n)) h =
      let number : 1 + length h.front ≡ n = omega (arith, h.number) in
      sym (rw h.place (passed 1 h.front (h.text ∷ h.rest) ask h.before ∙ rw (caveat_of-unknown h.text h.fault, number) refl))
  is_first_fault texts ask (Some (Denied n)) h =
      let number : 1 + length h.front ≡ n = omega (arith, h.number) in
      let denied = false_from_ne_true (permits h.fault.0 ask) (λ e. h.fault.2 ((Decides-permits h.fault.0 ask).0 e)) in
      sym (rw h.place (passed 1 h.front (h.text ∷ h.rest) ask h.before ∙ rw ((reads h.text h.fault.0).0 h.fault.1, denied, number) refl))

  all_caveats_of : (texts : List (List ℕ)) (caveats : List (Option Caveat)) → AreUnderstoodAs texts caveats → caveats ≡ map caveat_of texts
  all_caveats_of [] [] h = refl
  all_caveats_of (text ∷ texts) (caveat ∷ caveats) h = grind (arith, reads_caveat_of, all_caveats_of texts caveats h.1)
  all_caveats_of texts caveats h = absurd h

  verdict_by : (text : List ℕ) (ask : Ask) (found : Option Caveat) → caveat_of text ≡ found → Allows text ask ⊎ (IsUnknown text ⊎ Denies text ask)
  verdict_by text ask None e = inr (inl (λ caveat h. let t = (reads text caveat).0 h in cc))
  verdict_by text ask (Some caveat) e =
      let understood = (reads text caveat).1 e in
      elim (cases_Bool (permits caveat ask)) [
        | inl allowed ↦ inl (caveat, understood, (Decides-permits caveat ask).0 allowed)
        | inr denied ↦ inr (inr (caveat, understood, λ permitted. both_ways (permits caveat ask) denied ((Decides-permits caveat ask).1 permitted)))
      ]

  some_fault : (front texts : List (List ℕ)) (ask : Ask) → Allowed front ask → (r : Option CaveatFault) × IsFirstFault (front ++ texts) ask r
  some_fault front [] ask h = (None, rw append-nil h)
  some_fault front (text ∷ texts) ask h =
      elim (verdict_by text ask (caveat_of text) refl) [
        | inl allows ↦
            let found = some_fault (front ++ text ∷ []) texts ask (All-push (λ t. Allows t ask) front text h allows) in
            (found.0, rw append_assoc at found.1)
        | inr (inl unknown) ↦
            (Some (NotUnderstood _), record { front = front; text = text; rest = texts; place = refl; number = refl; before = h; fault = unknown })
        | inr (inr denies) ↦
            (Some (Denied _), record { front = front; text = text; rest = texts; place = refl; number = refl; before = h; fault = denies })
      ]

  first_fault_of-is_first : (texts : List (List ℕ)) (ask : Ask) → IsFirstFault texts ask (first_fault_of (map caveat_of texts) ask)
  first_fault_of-is_first texts ask =
      let found = some_fault [] texts ask (All-nil (λ t. Allows t ask)) in
      rw (← is_first_fault texts ask found.0 found.1) found.1

  pub is_fault_at : (text : List ℕ) (n : ℕ) (ask : Ask) (r : Option CaveatFault) → IsFaultAt text n ask r → r ≡ first_fault_from n (caveat_of text ∷ []) ask
  is_fault_at text n ask None h = rw ((reads text h.0).0 h.1, (Decides-permits h.0 ask).1 h.2) refl
  is_fault_at text n ask (Some (NotUnderstood m)) h = rw (caveat_of-unknown text h.1, h.0) refl
  is_fault_at text n ask (Some (Denied m)) h =
      let denied = false_from_ne_true (permits h.1.0 ask) (λ e. h.1.2 ((Decides-permits h.1.0 ask).0 e)) in
      rw ((reads text h.1.0).0 h.1.1, denied, h.0) refl

  fault_there : (text : List ℕ) (n : ℕ) (ask : Ask) → (r : Option CaveatFault) × IsFaultAt text n ask r
  fault_there text n ask =
      elim (verdict_by text ask (caveat_of text) refl) [
        | inl allows ↦ (None, allows)
        | inr (inl unknown) ↦ (Some (NotUnderstood n), (refl, unknown))
        | inr (inr denies) ↦ (Some (Denied n), (refl, denies))
      ]

  finds_fault_at : (text : List ℕ) (n : ℕ) (ask : Ask) (fault : Option CaveatFault)
      → IsFaultAt text n ask fault ↔ (fault ≡ first_fault_from n (caveat_of text ∷ []) ask)
  finds_fault_at text n ask fault =
      let there = fault_there text n ask in
      (is_fault_at text n ask fault, λ e. rw (e, ← is_fault_at text n ask there.0 there.1) there.1)

  pub finds_the_fault_at : FindsTheFaultAt
  finds_the_fault_at text caveat n ask fault understood = rw (reads_caveat_of text caveat understood) (finds_fault_at text n ask fault)

  pub finds_the_first_fault : FindsTheFirstFault
  finds_the_first_fault texts caveats ask fault understood =
      rw (all_caveats_of texts caveats understood) (is_first_fault texts ask fault, λ e. rw e (first_fault_of-is_first texts ask))

  pub none_where_allowed : (texts : List (List ℕ)) (ask : Ask) (fault : Option CaveatFault) → IsFirstFault texts ask fault → (fault ≡ None) ↔ Allowed texts ask
  none_where_allowed texts ask fault h = ((λ e. rw e at h), (λ allowed. is_first_fault texts ask fault h ∙ (rw append-nil at (passed 1 texts [] ask allowed))))

  pub blind_to_kind : (text : List ℕ) → is_on_kind (caveat_of text) ≡ false → IsBlindToKind text
  unfolding permits
  blind_to_kind text h number ask kind fault = grind (arith, finds_fault_at)

  pub blind_of : (text : List ℕ) (caveat : Option Caveat) → caveat_of text ≡ caveat → IsBlindToKind text → is_on_kind caveat ≡ false
  blind_of text (Some (Kind kind)) is blind =
      let fault : Ask → Option Caveat → Option CaveatFault = λ ask one. first_fault_from 1 (one ∷ []) ask in
      let its_kind = at_kind (Some kind) no_facility in
      let seen = (finds_fault_at text 1 its_kind None).1 (allowed_at_its_kind kind ∙ sym (ap (fault its_kind) is)) in
      let found = (finds_fault_at text 1 no_facility None).0 ((blind 1 no_facility (Some kind) None).0 seen) in
      let denied : None ≡ Some (Denied 1) = found ∙ ap (fault no_facility) is ∙ denied_at_none kind in
      grind (arith, denied)
  blind_of text caveat is blind = refl

permits_less : (caveat : Caveat) (ask : Ask) (less more : ℕ) → less ≤ more → permits caveat (after_spending more ask) ≡ true
    → permits caveat (after_spending less ask) ≡ true
unfolding permits
permits_less (Spend n) ask less more short h = grind (arith, nat_tests)
permits_less caveat ask less more short h = h

free_within : (owed one other n : ℕ) → owed ≡ 0 → (owed == 0 || nat_le (one + owed) n) ≡ (owed == 0 || nat_le (other + owed) n)
free_within owed one other n free = rw free refl

numbered : (n : ℕ) (caveats : List (Option Caveat)) (ask : Ask) (m : ℕ) → first_fault_from n caveats ask ≡ Some (Denied m) → n ≤ m
numbered n [] ask m e = absurd (cc)
numbered n (caveat ∷ caveats) ask m e = grind (arith, numbered (n + 1) caveats ask m)

pub free : (n : ℕ) (caveats : List (Option Caveat)) (ask : Ask) (spent : ℕ) → ask.owed ≡ 0
    → first_fault_from n caveats (after_spending spent ask) ≡ first_fault_from n caveats (after_spending 0 ask)
unfolding permits
free n [] ask spent nothing = refl
free n (caveat ∷ caveats) ask spent nothing = grind (arith, free_within, free (n + 1) caveats ask spent nothing)

between : (n : ℕ) (caveats : List (Option Caveat)) (ask : Ask) (spent most : ℕ) → spent ≤ most
    → first_fault_from n caveats (after_spending most ask) ≡ first_fault_from n caveats (after_spending 0 ask)
    → first_fault_from n caveats (after_spending spent ask) ≡ first_fault_from n caveats (after_spending 0 ask)
between n [] ask spent most short e = refl
between n (caveat ∷ caveats) ask spent most short e =
    grind (arith, permits_less, between (n + 1) caveats ask spent most short, numbered (n + 1) caveats (after_spending 0 ask) n)

permits_beyond : (caveat : Caveat) (ask : Ask) (spent most : ℕ) → IsCaveat caveat → number_limit ≤ most → most ≤ spent
    → permits caveat (after_spending spent ask) ≡ permits caveat (after_spending most ask)
unfolding permits
permits_beyond (Spend n) ask spent most real far more = grind (arith, nat_tests)
permits_beyond caveat ask spent most real far more = refl

beyond : (n : ℕ) (caveats : List (Option Caveat)) (ask : Ask) (spent most : ℕ) → All (λ (caveat : Option Caveat). IfSome caveat IsCaveat) caveats
    → number_limit ≤ most → most ≤ spent → first_fault_from n caveats (after_spending spent ask) ≡ first_fault_from n caveats (after_spending most ask)
beyond n [] ask spent most real far more = refl
beyond n (None ∷ caveats) ask spent most real far more = refl
beyond n (Some caveat ∷ caveats) ask spent most real far more =
    let first = All-head (λ (one : Option Caveat). IfSome one IsCaveat) (Some caveat) caveats real in
    let others = All-tail (λ (one : Option Caveat). IfSome one IsCaveat) (Some caveat) caveats real in
    rw (permits_beyond caveat ask spent most first far more, beyond (n + 1) caveats ask spent most others far more) refl

pub limits_no_more : LimitsNoMore
limits_no_more caveats ask spent most real far same = grind (arith, common_steps, between, beyond, far)

pub permits_within : (caveat : Caveat) (ask : Ask) (spent : ℕ) → permits caveat (after_spending 0 ask) ≡ true
    → (permits caveat (after_spending spent ask) ≡ true → IsWithin (slack_under caveat ask) spent)
    × (IsWithin (slack_under caveat ask) spent → permits caveat (after_spending spent ask) ≡ true)
unfolding permits
permits_within caveat ask spent h = grind (arith, nat_tests)

never : (caveat : Caveat) (ask : Ask) (spent : ℕ) → permits caveat (after_spending 0 ask) ≡ false → ¬ Permits caveat (after_spending spent ask)
never caveat ask spent h permitted = grind (arith, permits_less, Decides-permits)

module _ (once : IsUnderstoodOnce) (text : List ℕ) (n : ℕ) (ask : Ask) (caveat : Caveat) (understood : Understood text caveat) where
  pub holds_denied : permits caveat (after_spending 0 ask) ≡ false → HoldsWithin text n ask (Some (Denied n)) None
  holds_denied denies = grind (arith, never)

  pub holds_allowed : permits caveat (after_spending 0 ask) ≡ true → HoldsWithin text n ask None (slack_under caveat ask)
  holds_allowed allows = record {
    within = λ spent h.
        (caveat, understood, (Decides-permits caveat (after_spending spent ask)).0 ((permits_within caveat ask spent allows).1 h));
    beyond = λ spent h allowed.
        let same = once text allowed.0 caveat allowed.1 understood in
        let permitted = rw same at allowed.2 in
        h ((permits_within caveat ask spent allows).0 ((Decides-permits caveat (after_spending spent ask)).1 permitted));
  }

pub text_at : {Z : Type 0} (vs : List (Vec ℕ Z)) (i : ℕ) (v : Vec ℕ Z) (text : List ℕ) → i < length vs → v ≡ get_or vs i v → text ≡ vec_items v →
    get_or (map vec_items vs) i [] ≡ text
text_at vs i v text h at e = grind (arith, common_steps)

split_here : (texts : List (List ℕ)) (i : ℕ) → i < length texts → texts ≡ take i texts ++ get_or texts i [] ∷ drop (i + 1) texts
split_here texts i h = grind (arith, common_steps, take-append-drop)

first_at : (texts : List (List ℕ)) (ask : Ask) (i : ℕ) (text : List ℕ) (Fault : List ℕ → Type 0) → i < length texts → get_or texts i [] ≡ text →
    Allowed (take i texts) ask → Fault text → IsFirstAt texts ask (i + 1) Fault
first_at texts ask i text Fault h at before fault = record {
  front = take i texts;
  text = text;
  rest = drop (i + 1) texts;
  place = rw at at (split_here texts i h);
  number = omega (arith, length-take-le i texts);
  before = before;
  fault = fault;
}

pub first_fault_at : (texts : List (List ℕ)) (ask : Ask) (i : ℕ) (text : List ℕ) (fault : CaveatFault) → i < length texts → get_or texts i [] ≡ text →
    Allowed (take i texts) ask → IsFaultAt text (i + 1) ask (Some fault) → IsFirstFault texts ask (Some fault)
first_fault_at texts ask i text fault h at before is = grind (arith, first_at)

pub one_more : (texts : List (List ℕ)) (ask : Ask) (i : ℕ) (text : List ℕ) → i < length texts → get_or texts i [] ≡ text → Allowed (take i texts) ask →
    Allows text ask → Allowed (take (i + 1) texts) ask
one_more texts ask i text h at before allows = rw (add-one, take-suc texts i [] h, at) (All-push (λ t. Allows t ask) (take i texts) text before allows)
