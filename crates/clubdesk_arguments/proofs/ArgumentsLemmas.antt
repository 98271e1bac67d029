-- Lemmas for the proof that `clap`'s contract covers the program's table, that arguments ask for
-- at most one job, and about roots and booking numbers.
use Rattle.std.proofs.{Common.{refl, ◌≡◌, ◌↔◌, Option, Some, None, sym, subst, ◌⊎◌, ℕ, ◌<◌, List, length, inl, inr, arith}, lemmas.Bool.cases_lt}
use Rattle.std.{proofs.lemmas.Bool.Decides.nat_tests, specs.Prelude.{IsSome, IfSome}}
use Rattle.clap.proofs.OnLiterals.{clap_on_literals}
use Rattle.club_rows.specs.Rows.{IsBookingNumber, IsRoot, booking_number_limit}
use Rattle.club_values.specs.{Kind.kind_text, Moment.{SpellsDay, SpellsHour, SpellsMoment}, Name.IsName}
use Rattle.clubdesk_arguments.specs.{Arguments.{clubdesk, ReadsValues, job_of}, Values.{JobModel, ReadExactly, Readers, has_key_root_length, where_between}}
use Rattle.command_line.specs.{Job.{Answers, RowsAnswerOnce, ReadsOnce}, Table.IsGood}

pub is_good : IsGood clubdesk
unfolding clap_on_literals clubdesk
is_good = record { free = refl; rules = λ value. refl; takes = λ value. refl }

same_value : {V : Type 0} (Spelled : V → Type 0) (a b : Option V) → ((v : V) → (a ≡ Some v) ↔ Spelled v) → ((v : V) → (b ≡ Some v) ↔ Spelled v) → a ≡ b
same_value Spelled None None f g = refl
same_value Spelled (Some v) b f g = sym ((g v).1 ((f v).0 refl))
same_value Spelled None (Some v) f g = (f v).1 ((g v).0 refl)

same_readers : (a b : Readers) → ReadExactly a → ReadExactly b → a ≡ b
same_readers a b f g = λ i. record {
  name = λ text. same_value (λ name. IsName text × (name ≡ text)) (a.name text) (b.name text) (f.names text) (g.names text) i;
  kind = λ text. same_value (λ kind. text ≡ kind_text kind) (a.kind text) (b.kind text) (f.kinds text) (g.kinds text) i;
  day = λ text. same_value (SpellsDay text) (a.day text) (b.day text) (f.days text) (g.days text) i;
  hour = λ text. same_value (SpellsHour text) (a.hour text) (b.hour text) (f.hours text) (g.hours text) i;
  moment = λ text. same_value (SpellsMoment text) (a.moment text) (b.moment text) (f.moments text) (g.moments text) i;
}

pub reads_once : RowsAnswerOnce JobModel Unit → ReadsOnce ReadsValues
reads_once once name rows job result one other =
    let Reads : Readers → Type 0 = λ read. Answers (job_of read name rows) result in
    once (job_of one.read name rows) job result one.answers (subst Reads (same_readers other.read one.read other.exact one.exact) other.answers)

long : (bytes : List ℕ) → IsRoot bytes → has_key_root_length bytes ≡ Some bytes
long bytes h = grind (arith, nat_tests)

short : (bytes : List ℕ) → (length bytes < 16) ⊎ (64 < length bytes) → has_key_root_length bytes ≡ None
short bytes (inl few) = grind (arith, nat_tests)
short bytes (inr many) = grind (arith, nat_tests)

pub root_made : (bytes : List ℕ) (made : Option (List ℕ)) → (IsSome made ↔ IsRoot bytes) → IfSome made (λ root. root ≡ bytes)
    → made ≡ has_key_root_length bytes
root_made bytes (Some root) within value = let b : IsRoot bytes = within.0 refl in rw (value, long bytes b) refl
root_made bytes None within value = elim (cases_lt (length bytes) 16) [
  | inl few ↦ sym (short bytes (inl few))
  | inr least ↦ elim (cases_lt 64 (length bytes)) [
    | inl many ↦ sym (short bytes (inr many))
    | inr most ↦ let bad = within.1 (least, most) in cc
  ]
]

known : (n : ℕ) → IsBookingNumber n → where_between 1 booking_number_limit (Some n) ≡ Some n
known n h = grind (arith, nat_tests)

unknown : (n : ℕ) → (n < 1) ⊎ (booking_number_limit < n) → where_between 1 booking_number_limit (Some n) ≡ None
unknown n (inl few) = grind (arith, nat_tests)
unknown n (inr many) = grind (arith, nat_tests)

pub number_made : (n : ℕ) (made : Option ℕ) → (IsSome made ↔ IsBookingNumber n) → IfSome made (λ number. number ≡ n)
    → made ≡ where_between 1 booking_number_limit (Some n)
number_made n (Some number) within value = let b : IsBookingNumber n = within.0 refl in rw (value, known n b) refl
number_made n None within value = elim (cases_lt n 1) [
  | inl few ↦ sym (unknown n (inl few))
  | inr least ↦ elim (cases_lt booking_number_limit n) [
    | inl many ↦ sym (unknown n (inr many))
    | inr most ↦ let bad = within.1 (least, most) in cc
  ]
]
