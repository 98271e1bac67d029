-- Lemmas about refusals, which change nothing, and about the sums that a view contains.
use Rattle.std.proofs.Common.{ℕ, Option, Some, Ok, arith, ◌≡◌, ◌<◌, ◌≤◌, true, List, [], ◌∷◌, refl, sym, ◌∙◌, ◌⊎◌, inl, inr, zero, suc, Bool, length, get_or}
use Rattle.std.{proofs.{Common.ap, lemmas.{Bool.and_parts, Slice.Eq.bytes_eq-Decides}}, specs.{List.list_any, Prelude.{Result, filter, fold, max, ◌&&◌, ◌==◌}}}
use Rattle.std.specs.{Prelude.{find, sum_by, Contains}, Str.bytes_eq}
use Rattle.club_core.specs.{Answer.answer_to, Basis.{Basis, view_of}, Club.{Club, is_key_of, is_at, taken_in, cost_of, is_under}, Laws.KeepsWhereRefused}
use Rattle.club_core.specs.{Laws.{RefusalsChangeNothing, MostTaken, OwnBookings}, Request.Pass, Verdict.verdict_of, declared.pass_fault.PassFault.PassFault}
use Rattle.club_core.specs.declared.{request.Request.Request, view.View.View}
use Rattle.club_rows.specs.declared.{booking.Booking.Booking, key.Key.Key}
use Rattle.club_values.specs.declared.slot.Slot.{Slot}

keeps_verdict : (view : View) (request : Request) (moment : ℕ) → KeepsWhereRefused (verdict_of view request moment)
keeps_verdict view request moment = record { kept = λ r e. grind arith }

keeps_answer : (pass : Result Pass PassFault) (request : Request) (moment : ℕ) (basis : Option Basis) → KeepsWhereRefused (answer_to pass request moment basis)
keeps_answer (Ok pass) request moment (Some basis) =
    let decided = (keeps_verdict (view_of basis request moment) request moment).kept in record { kept = λ r e. grind arith }
keeps_answer pass request moment basis = record { kept = λ r e. grind arith }

pub refusals_change_nothing : RefusalsChangeNothing
refusals_change_nothing words = keeps_answer words.pass words.request

larger : (a b : ℕ) → (max a b ≡ a) ⊎ (max a b ≡ b)
larger a b = grind arith

module _ (facility : List ℕ) (all : List Booking) where
  abbrev persons : Booking → ℕ
  persons booking = taken_in booking.slot all

  abbrev most : ℕ → List Booking → ℕ
  most least bookings = fold (λ n booking. max n (persons booking)) least (filter (is_at facility) bookings)

  grows : (n : ℕ) (bookings : List Booking) → n ≤ most n bookings
  grows n [] = omega arith
  grows n (b ∷ bookings) = grind (arith, grows n bookings, grows (max n (persons b)) bookings)

  bounds : (slot : Slot) → slot.facility ≡ facility → (n : ℕ) (bookings : List Booking) → 0 < taken_in slot bookings → taken_in slot all ≤ most n bookings
  bounds slot of_it n [] some = absurd (omega (arith, some))
  bounds slot of_it n (b ∷ bookings) some =
      grind (
        arith,
        bytes_eq-Decides b.slot.facility slot.facility,
        bytes_eq-Decides b.slot.facility facility,
        grows (max n (persons b)) bookings,
        bounds slot
            of_it n bookings,
        bounds slot of_it (max n (persons b)) bookings,
      )

  abbrev Reaches : ℕ → ℕ → Type 0
  Reaches n top = (top ≡ n) ⊎ ((slot : Slot) × (slot.facility ≡ facility) × (taken_in slot all ≡ top))

  at_least : (n : ℕ) (b : Booking) (top : ℕ) → b.slot.facility ≡ facility → Reaches (max n (persons b)) top → Reaches n top
  at_least n b top here (inr there) = inr there
  at_least n b top here (inl e) = elim (larger n (persons b)) [ inl low ↦ inl (e ∙ low) | inr high ↦ inr (b.slot, here, sym (e ∙ high)) ]

  reaches : (n : ℕ) (bookings : List Booking) → Reaches n (most n bookings)
  reaches n [] = inl refl
  reaches n (b ∷ bookings) = grind (arith, reaches n bookings, reaches (max n (persons b)) bookings, at_least n b, bytes_eq-Decides b.slot.facility facility)

pub most_taken : MostTaken
most_taken facility bookings = record {
  bound = λ slot of_it. grind (arith, bounds facility bookings slot of_it 0 bookings);
  reached = reaches facility bookings 0 bookings;
}

filter_twice : (strict wide : Booking → Bool) (bookings : List Booking) → ((b : Booking) → strict b ≡ true → wide b ≡ true) →
    filter strict (filter wide bookings) ≡ filter strict bookings
filter_twice strict wide [] h = refl
filter_twice strict wide (b ∷ bookings) h = grind (arith, filter_twice strict wide bookings h, h b)

find_twice : (strict wide : Booking → Bool) (bookings : List Booking) → ((b : Booking) → strict b ≡ true → wide b ≡ true) →
    find strict (filter wide bookings) ≡ find strict bookings
find_twice strict wide [] h = refl
find_twice strict wide (b ∷ bookings) h = grind (arith, find_twice strict wide bookings h, h b)

is_among : (keys : List Key) (key : Key) (i : ℕ) → i < length keys → get_or keys i key ≡ key
    → list_any (λ (k : Key). bytes_eq k.name key.name) (filter (λ (k : Key). bytes_eq k.member key.member) keys) ≡ true
is_among [] key i lt e = absurd (omega arith)
is_among (k ∷ keys) key zero lt e = grind (arith, bytes_eq-Decides k.name key.name, bytes_eq-Decides k.member key.member)
is_among (k ∷ keys) key (suc i) lt e = grind (arith, is_among keys key i)

own_key : (club : Club) (key : Key) → Contains club.keys key → (b : Booking) → is_under key.name b ≡ true → is_key_of key.member club b.key ≡ true
own_key club key here b under = rw ((bytes_eq-Decides b.key key.name).0 under) (is_among club.keys key here.0 here.1 here.2)

pub own_bookings : OwnBookings
own_bookings club key here = record {
  spent = ap (sum_by cost_of) (filter_twice (is_under key.name) (λ b. is_key_of key.member club b.key) club.bookings (own_key club key here));
  booking =
      λ number. find_twice (λ b. is_under key.name b && b.number == number) (λ b. is_key_of key.member club b.key) club.bookings
      (λ b both. own_key club key here b (and_parts (is_under key.name b) (b.number == number) both).0);
}
