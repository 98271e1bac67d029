-- Lemmas for the proofs of `Zone::from_rule` and `Zone::moment_at`.
use Rattle.std.proofs.{Common.{◌≡◌, ◌↔◌, ℕ, ◌+◌, ◌*◌, ◌<◌, ◌≤◌, Bool, cond, true, false, List, Option, Some, None, inl, inr, refl, arith}, lemmas.Bool.cases_lt}
use Rattle.std.specs.Prelude.{IsSome, IfSome, is_some, ℤ, pos, negsuc, ◌+ℤ◌, ◌*ℤ◌}
use Rattle.club_clock.specs.Zone.{IsInMinute, IsShown, IsZoneOf, zone_of}
use Rattle.club_values.specs.Moment.{IsDay, IsMoment}
use Rattle.jiff_core.specs.{Date.epoch_day, DateTime.civil_nanos, Time.time_nanos, Timestamp.nanos_of_seconds, declared.civil.datetime.DateTime.DateTime}
use Rattle.jiff_core.specs.declared.civil.time.Time.{Time}
use Rattle.jiff_tz.specs.{PosixReader.read_whole, PosixRule.offset_at, declared.posix.TimeZone.TimeZone}
use borrow.Author.Differences.{ints}

pub zone_read : (text : List ℕ) → IsSome (read_whole text) → Some text ≡ zone_of text
unfolding zone_of
zone_read text some = rw some refl

pub no_zone : (text : List ℕ) → (IsSome (read_whole text) → ⊥) → None ≡ zone_of text
unfolding zone_of
no_zone text none = go (is_some (read_whole text)) none
  where
    go : (b : Bool) → (b ≡ true → ⊥) → None ≡ cond b (Some text) None
    go true h = absurd (h refl)
    go false h = refl

within_day : (t : Time) → time_nanos t < 86_400_000_000_000
within_day t = omega (arith, t.hour_in, t.minute_in, t.second_in, t.subsec_in)

minute_bounds : (day nanos n : ℕ) → IsInMinute (pos day *ℤ pos 86_400_000_000_000 +ℤ pos nanos) n
    → (n * 60_000_000_000 ≤ day * 86_400_000_000_000 + nanos) × (day * 86_400_000_000_000 + nanos < n * 60_000_000_000 + 60_000_000_000)
minute_bounds day nanos n h = (omega (arith, ints, h.0), omega (arith, ints, h.1))

never_out : (day : ℤ) (nanos n : ℕ) → nanos < 86_400_000_000_000 → ((x : ℕ) → ¬ (IsDay x × (day ≡ pos x)))
    → ¬ (IsMoment n × IsInMinute (day *ℤ pos 86_400_000_000_000 +ℤ pos nanos) n)
never_out (negsuc k) nanos n short out (within, h) = absurd (omega (arith, ints, h.0))
never_out (pos day) nanos n short out (within, h) =
    let bounds = minute_bounds day nanos n h in
    elim (cases_lt day 10957) [
      | inl early ↦ absurd (omega arith)
      | inr least ↦ elim (cases_lt 47481 day) [
        | inl late ↦ absurd (omega arith)
        | inr most ↦ absurd (out day ((least, most), refl))
      ]
    ]

module _ (rule : List ℕ) (instant : ℤ) (zone : TimeZone) (of_rule : IsZoneOf rule zone) (civil : DateTime)
    (is : civil_nanos civil ≡ instant +ℤ nanos_of_seconds (offset_at zone instant).seconds) where
  pub none_shown : ((x : ℕ) → ¬ (IsDay x × (epoch_day civil.date ≡ pos x))) → IsShown rule instant None
  unfolding civil_nanos
  none_shown out = record {
    zone = zone;
    of_rule = of_rule;
    minute = λ n h. never_out (epoch_day civil.date) (time_nanos civil.time) n (within_day civil.time) out (h.0, rw (← is) at h.1);
  }

  pub shown : (day minute : ℕ) (moment : Option ℕ) → IsDay day → epoch_day civil.date ≡ pos day
      → minute ≡ civil.time.hour * 60 + civil.time.minute → (IsSome moment ↔ (minute < 1440)) → IfSome moment (λ n. n ≡ day * 1440 + minute)
      → IsShown rule instant moment
  unfolding civil_nanos
  shown day minute None within same minute_is some value =
      let bad = some.1 (omega (arith, civil.time.hour_in, civil.time.minute_in)) in cc
  shown day minute (Some n) within same minute_is some value = record {
    zone = zone;
    of_rule = of_rule;
    minute = (
      (omega arith, omega (arith, civil.time.hour_in, civil.time.minute_in)),
      rw (← is, same) (omega (arith, ints), omega (arith, ints)),
    );
  }
