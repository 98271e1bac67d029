-- Lemmas about bytes that begin with a complete request, and the proof that `place_of` computes
-- the place that a target names.
use Rattle.http_request.specs.Words as words
use Rattle.std.proofs.{Math.Seq.{take-append_seam, drop-append_seam}, lemmas.Slice.Eq.bytes_eq-Decides}
use Rattle.club_rows.specs.Rows.{IsBookingNumber, booking_number_limit, IsSlot}
use Rattle.club_values.specs.{Laws.{IsTextOfDay, ReadsDays, ReadsHours, ReadsNames, ReadsNumbers}, Moment.day_text, Number.two_digits}
use Rattle.club_values.specs.{computed.TextOf.{name_of_text, day_of_text, hour_of_text}, declared.slot.Slot.Slot}
use Rattle.http_request.proofs.Common.{◌≡◌, ℕ, ◌<◌, ◌≤◌, inl, inr, List, [], ◌++◌, length, take, drop, sym, ap, ◌∙◌, arith, length-append, cases_order}
use Rattle.http_request.proofs.Common.{take-append-le, take-append-drop, length-take-le, HeaderSpan, RequestHead, Head, IsHeadOf, IsPiece, AsksForBody}
use Rattle.http_request.proofs.Common.{IsFramed, IsOneRequest, IsRefusedHead, HasNoPiece, IsHeadAt, ◌⊎◌, ◌-◌, ◌↔◌, append_assoc, length-drop, IsWhole}
use Rattle.http_request.proofs.Common.{has_frame, endless, bad_head, IsHeadResultOf, OneReading, ReadsPlaces, WholeKeepsItsReading, Bool, true, cond, ◌∷◌}
use Rattle.http_request.proofs.Common.{Option, Some, None, codes, refl, ◌&&◌, nat_le, IfSome, bytes_eq, cond-true, eqb-true, nat_tests, segments, account_at}
use Rattle.http_request.{proofs.Common.{place_of, under_root, under_slots}, specs.{Path.{HasRealValues, IsPlace, place_parts}, computed.Path.number_of_text}}
use Rattle.http_request.specs.{computed.Path.{slot_of_parts, within_limits, ◌>>=◌}, declared.head_result.HeadResult.{HeadResult, TheVariants.{Refused, Asking}}}
use Rattle.http_request.specs.declared.path.Place.{Place}
use Rattle.httparse.proofs.GrammarLemmas.{request_unique}

-- The bytes are a piece that ends with an empty line, followed by the rest of the bytes.
pub record IsCut (bytes piece rest : List ℕ) : Type 0 where
  pub cut : IsPiece piece
  pub parts : bytes ≡ piece ++ rest

-- The bytes are a piece followed by the rest of the bytes. The piece is a head that announces a
-- body of the given length.
pub record Asks (bytes : List ℕ) (head : RequestHead) (body_len : ℕ) (rest : List ℕ) : Type 0 where
  pub piece : List ℕ
  pub cut : IsCut bytes piece rest
  pub asks : AsksForBody piece head body_len

pub framed : {bytes body : List ℕ} {head : RequestHead} (is : IsFramed bytes head body) → Asks bytes head (length body) (body ++ is.after)
framed is = record { piece = is.piece; cut = record { cut = is.cut; parts = is.parts }; asks = is.asks }

pub only : {bytes : List ℕ} (is : IsOneRequest bytes) → Asks bytes is.head (length is.body) is.body
only is = record { piece = is.piece; cut = record { cut = is.cut; parts = is.parts }; asks = is.asks }

pub cut_at : (bytes : List ℕ) (n : ℕ) → IsPiece (take n bytes) → IsCut bytes (take n bytes) (drop n bytes)
cut_at bytes n cut = record { cut = cut; parts = sym (take-append-drop n bytes) }

pub asks_at : {bytes : List ℕ} {fields : List HeaderSpan} {found : Head} (at : IsHeadAt bytes fields found)
    → Asks bytes at.head found.body_len (drop found.len bytes)
asks_at {bytes} {found} at = record { piece = take found.len bytes; cut = cut_at bytes found.len at.cut; asks = at.asks }

pub whole_frame : {bytes : List ℕ} {fields : List HeaderSpan} {found : Head} (at : IsHeadAt bytes fields found) → found.body_len ≤ length (drop found.len bytes)
    → IsFramed bytes at.head (take found.body_len (drop found.len bytes))
whole_frame {bytes} {found} at long = record {
  piece = take found.len bytes;
  after = drop found.body_len (drop found.len bytes);
  cut = at.cut;
  parts = rw (take-append-drop found.body_len (drop found.len bytes)) (sym (take-append-drop found.len bytes));
  asks = rw (length-take-le found.body_len (drop found.len bytes) long) at.asks;
}

not_shorter : {bytes p q r s : List ℕ} → IsCut bytes p r → IsCut bytes q s → ¬ (length p < length q)
not_shorter {p} {q} {r} {s} is other h =
    let front : take (length p) q ≡ p = grind (arith, take-append-le (length p) q s, is.parts, other.parts, take-append_seam p r) in
    let no = rw front at (other.cut.shortest (length p) h) in
    let yes = is.cut.ends in cc

pub same_parts : (p q r s : List ℕ) → length p ≡ length q → p ++ r ≡ q ++ s → (p ≡ q) × (r ≡ s)
same_parts p q r s len same = (
  sym (take-append_seam p r) ∙ ap (take (length p)) same ∙ ap (λ (n : ℕ). take n (q ++ s)) len ∙ take-append_seam q s,
  sym (drop-append_seam p r) ∙ ap (drop (length p)) same ∙ ap (λ (n : ℕ). drop n (q ++ s)) len ∙ drop-append_seam q s,
)

one_piece : {bytes p q r s : List ℕ} → IsCut bytes p r → IsCut bytes q s → (p ≡ q) × (r ≡ s)
one_piece {p} {q} {r} {s} is other = elim (cases_order (length p) (length q)) [
  | inl len ↦ same_parts p q r s len (sym is.parts ∙ other.parts)
  | inr (inl less) ↦ absurd (not_shorter is other less)
  | inr (inr more) ↦ absurd (not_shorter other is more)
]

pub no_piece : {bytes piece rest : List ℕ} → IsCut bytes piece rest → ¬ (HasNoPiece bytes)
no_piece {piece} {rest} is none =
    let no = rw (take-append_seam piece rest) at ((rw is.parts at none) (length piece) (simp length-append (omega arith)) is.cut.short) in
    let yes = is.cut.ends in cc

pub not_refused : {bytes rest : List ℕ} {head : RequestHead} {n : ℕ} → Asks bytes head n rest → ¬ (IsRefusedHead bytes)
not_refused {head} {n} is refused =
    let same = one_piece is.cut (record { cut = refused.cut; parts = refused.parts }) in
    refused.refusal head n (rw same.0 at is.asks)

pub one_head : {piece : List ℕ} {head other : RequestHead} → IsHeadOf piece head → IsHeadOf piece other → other ≡ head
one_head {piece} {head} {other} is again = (request_unique piece other head [] [] again.reads is.reads).0

pub same_asked : {bytes r s : List ℕ} {head other : RequestHead} {n m : ℕ} → Asks bytes head n r → Asks bytes other m s → (other ≡ head) × (n ≡ m) × (r ≡ s)
same_asked {head} {other} {n} {m} is again =
    let same = one_piece is.cut again.cut in
    let asks = rw same.0 at is.asks in
    let same_head = one_head asks.is again.asks.is in
    (same_head, let first = asks.requests in let second = rw same_head at again.asks.requests in cc, same.1)

pub cut_frame : {bytes rest : List ℕ} {head : RequestHead} {n : ℕ} → Asks bytes head n rest → length rest < n
    → (other : RequestHead) (body : List ℕ) → ¬ (IsFramed bytes other body)
cut_frame {rest} {n} asks short other body frame =
    let same = same_asked asks (framed frame) in
    let long : length body ≤ length rest = rw same.2 (simp length-append (omega arith)) in omega (arith, same.1)

pub open_head : (bytes : List ℕ) → HasNoPiece bytes → length bytes < 16384 → ¬ (IsWhole bytes)
open_head bytes none short (has_frame head body is) = no_piece (framed is).cut none
open_head bytes none short (endless empty long) = omega arith
open_head bytes none short (bad_head is) = no_piece (record { cut = is.cut; parts = is.parts }) none

pub open_body : {bytes rest : List ℕ} {head : RequestHead} {n : ℕ} → Asks bytes head n rest → length rest < n → ¬ (IsWhole bytes)
open_body asks short (has_frame other body is) = cut_frame asks short other body is
open_body asks short (endless none long) = no_piece asks.cut none
open_body asks short (bad_head is) = not_refused asks is

pub body_only : (bytes : List ℕ) (fields : List HeaderSpan) (found : Head) → IsHeadAt bytes fields found
    → (length bytes - found.len ≡ found.body_len) ↔ IsOneRequest bytes
body_only bytes fields found at =
    let rest = length-drop found.len bytes in (
      λ same. record {
        piece = take found.len bytes;
        body = drop found.len bytes;
        head = at.head;
        cut = at.cut;
        parts = sym (take-append-drop found.len bytes);
        asks = rw (rest, same) at.asks;
      },
      λ one. let same = same_asked (asks_at at) (only one) in omega (arith, same.1, ap length same.2),
    )

pub one : ReadsPlaces → OneReading
one reads bytes a b (words.has_frame head body place is at decoded) (words.has_frame other again found and there returned) =
    let asked = same_asked (framed is) (framed and) in
    let same = same_parts body again is.after and.after asked.1 asked.2 in
    let one_place = (reads head.target place).0 at in
    let other_place = (reads other.target found).0 there in cc (asked.0, same.0)
one reads bytes a b (words.has_frame head body place is at decoded) (words.lacks_frame none returned) = absurd (none head body is)
one reads bytes a b (words.lacks_frame none returned) (words.has_frame head body place is at decoded) = absurd (none head body is)
one reads bytes a b (words.lacks_frame none returned) (words.lacks_frame again decoded) = cc

pub head_result_more : (bytes more : List ℕ) (fields : List HeaderSpan) (front : HeadResult) → (front ≡ Refused) ⊎ ((found : Head) × (front ≡ Asking found))
    → IsHeadResultOf bytes fields front → IsHeadResultOf (bytes ++ more) fields front
head_result_more bytes more fields front is before = grind (arith, append_assoc, take-append-le, length-append)

pub keeps : WholeKeepsItsReading
keeps bytes more answer whole (words.has_frame head body place is at decoded) = words.has_frame head body place (grind (arith, append_assoc)) at decoded
keeps bytes more answer (has_frame head body is) (words.lacks_frame none returned) = absurd (none head body is)
keeps bytes more answer (endless empty long) (words.lacks_frame none returned) =
    words.lacks_frame (λ head body is. no_piece (framed is).cut (grind (arith, take-append-le))) returned
keeps bytes more answer (bad_head is) (words.lacks_frame none returned) =
    words.lacks_frame (λ head body frame. not_refused (framed frame) (grind (arith, append_assoc))) returned

if_all : {A : Type 0} (P : A → Type 0) (test : Bool) (found : Option A) → (test ≡ true → IfSome found P) → IfSome (cond test found None) P
if_all P test found is = grind arith

then_all : {A B : Type 0} (P : B → Type 0) (found : Option A) (then : A → Option B) → ((a : A) → found ≡ Some a → IfSome (then a) P) → IfSome (found >>= then) P
then_all P found then is = grind arith

same : (text other : List ℕ) → bytes_eq text other ≡ true → text ≡ other
same text other e = (bytes_eq-Decides text other).0 e

within : (n : ℕ) → IsBookingNumber n → within_limits n ≡ Some n
within n h = cond-true (nat_le 1 n && nat_le n booking_number_limit) (Some n) None (grind (arith, nat_tests, h.0, h.1))

-- The values of a place are within their limits, and the given texts are the parts of the place's
-- path.
abbrev Spells : List (List ℕ) → Place → Type 0
Spells parts place = (parts ≡ place_parts place) × HasRealValues place

-- The three texts are a slot's facility, day and hour, and these values are within their limits.
abbrev SpellsSlot : List ℕ → List ℕ → List ℕ → Slot → Type 0
SpellsSlot facility day hour slot = IsSlot slot × (facility ≡ slot.facility) × (day ≡ day_text slot.day) × (hour ≡ two_digits slot.hour)

module _ (names : ReadsNames) (days : ReadsDays) (texts : IsTextOfDay) (hours : ReadsHours) (numbers : ReadsNumbers) where
  slot_found : (slot : Slot) → IsSlot slot → slot_of_parts slot.facility (day_text slot.day) (two_digits slot.hour) ≡ Some slot
  unfolding slot_of_parts
  slot_found slot h =
      let day = (days (day_text slot.day) slot.day).1 ((texts (day_text slot.day) slot.day).1 (h.day, refl)) in
      let hour = (hours (two_digits slot.hour) slot.hour).1 (record { spelling = refl; within = h.hour }) in
      rw ((names slot.facility slot.facility).1 (h.facility, refl), day, hour) refl

  slot_spelled : (facility day hour : List ℕ) → IfSome (slot_of_parts facility day hour) (SpellsSlot facility day hour)
  unfolding slot_of_parts
  slot_spelled facility day hour =
      let Q : Slot → Type 0 = SpellsSlot facility day hour in
      then_all Q (name_of_text facility) _ (λ f named. then_all Q (day_of_text day) _ (λ d dated.
      then_all Q (hour_of_text hour) (λ h. Some (record { facility = f; day = d; hour = h })) (λ h timed.
      let name = (names facility f).0 named in
      let date = (texts day d).0 ((days day d).0 dated) in
      let time = (hours hour h).0 timed in
      (record { facility = rw name.1 name.0; day = date.0; hour = time.within }, sym name.1, date.1, time.spelling))))

  slots_spelled : (parts : List (List ℕ)) → IfSome (under_slots parts) (Spells (codes "slots" ∷ parts))
  unfolding number_of_text
  slots_spelled (facility ∷ day ∷ hour ∷ []) = grind (arith, slot_spelled facility day hour)
  slots_spelled (facility ∷ day ∷ hour ∷ word ∷ number ∷ []) =
      grind (arith, slot_spelled facility day hour, same word (codes "bookings"))
  slots_spelled parts = grind arith

  account_spelled : (word : List ℕ) (parts : List (List ℕ)) → IfSome (account_at word parts) (Spells (word ∷ parts))
  account_spelled word [] = if_all _ (bytes_eq word (codes "account")) _ (λ test. (ap (λ (w : List ℕ). w ∷ []) (same word (codes "account") test), tt))
  account_spelled word (part ∷ parts) = tt

  root_spelled : (parts : List (List ℕ)) → IfSome (under_root parts) (Spells parts)
  root_spelled [] = tt
  root_spelled (word ∷ parts) = grind (arith, same word (codes "slots"), slots_spelled parts, account_spelled word parts)

  target_spelled : (target : List ℕ) → IfSome (place_of target) (IsPlace target)
  target_spelled [] = tt
  target_spelled (byte ∷ path) = grind (arith, root_spelled (segments path), eqb-true byte 47)

  target_found : (target : List ℕ) (place : Place) → IsPlace target place → place_of target ≡ Some place
  unfolding number_of_text
  target_found target place h = ap place_of h.slash ∙ (ap under_root h.parts ∙ (grind (arith, slot_found)))

  none_found : (target : List ℕ) (found : Option Place) → place_of target ≡ found → ((place : Place) → ¬ IsPlace target place) → found ≡ None
  none_found target None e none = refl
  none_found target (Some place) e none = absurd (none place (rw e at (target_spelled target)))

  pub reads_places : ReadsPlaces
  reads_places target None = (
    λ none. none_found target (place_of target) refl none,
    λ e place h. let there = target_found target place h in cc,
  )
  reads_places target (Some place) = (target_found target place, λ e. rw e at (target_spelled target))
