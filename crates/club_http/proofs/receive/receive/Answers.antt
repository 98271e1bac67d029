use Rattle.club_http.proofs.receive.receive.Given as given
use Rattle.club_http.proofs.receive.receive.Goals as goal
use Rattle.std.proofs.{Common.{◌≡◌, ◌<◌, ◌≤◌, ◌+◌, ◌-◌, [], length, take, inl, inr, append-nil, arith, refl}, KnownBytes.{Consumes-kept, Consumes-nil}}
use Rattle.std.proofs.{KnownBytes.Consumes-trans, lemmas.{Grind.common_steps, List.take-take, Slice.take-put_mid_below}}
use Rattle.club_http.{proofs.{ExchangeLemmas.{filled, within_request, not_so, stops}, receive.receive.Goals.After-fill}, specs.Calls.{nothing, more}}
use borrow.Rule.Slice.PartMut.{put_mid}

pub loop-reader-init : goal.loop-reader-init
loop-reader-init g c = record { within = omega arith; came = Consumes-nil _; covers = c.requires.begins; gave = nothing; counted = refl }

-- A call of `fill` leaves the earlier bytes of the buffer unchanged.
before : (g : given.Over) (c : After-fill g)
    → take c.loop-reader.len (put_mid c.loop-reader.len (length c.loop-reader.room - c.loop-reader.len) c.loop-reader.room c.fill.new.room)
    ≡ take c.loop-reader.len c.loop-reader.room
before g c =
    take-put_mid_below c.loop-reader.len (length c.loop-reader.room - c.loop-reader.len) c.loop-reader.room c.fill.new.room c.loop-reader.len
    (omega arith) (grind (arith, common_steps))

pub returns-clause-received : goal.returns-clause-received
returns-clause-received g c = let inv = c.loop-reader.invariant in (
  inv.within,
  inv.covers,
  record { came = inv.came; within = within_request _ _ inv.within; ends = inl (c.is_whole.ensures.whole.0 c.loop-reader-test.false) },
)

pub returns-in-None-clause-cut_off : goal.returns-in-None-clause-cut_off
returns-in-None-clause-cut_off g c =
    let inv = c.loop-reader.invariant in
    rw (before g (goal.at.returns-in-None-clause-cut_off g c).After-fill) (
      inv.within,
      record {
        came = Consumes-kept _ _ _ _ inv.came c.in-None.ensures.bytes;
        within = within_request _ _ inv.within;
        cut = not_so _ _ c.loop-reader-test.true c.is_whole.ensures.whole;
      },
    )

pub returns-in-None-clause-calls : goal.returns-in-None-clause-calls
returns-in-None-clause-calls g c =
    let inv = c.loop-reader.invariant in
    rw (before g (goal.at.returns-in-None-clause-calls g c).After-fill)
    (stops (within_request _ _ inv.within) inv.gave (not_so _ _ c.loop-reader-test.true c.is_whole.ensures.whole) (inr c.in-None.ensures.called))

pub returns-in-Some-eq0-clause-received : goal.returns-in-Some-eq0-clause-received
returns-in-Some-eq0-clause-received g c =
    let inv = c.loop-reader.invariant in
    let bytes = c.in-Some-eq0.ensures.bytes in
    let short : length (take c.loop-reader.len c.loop-reader.room) < 16640 = c.loop-reader-test.ensures.room in
    let left : 0 < length c.fill.new.room = grind (arith, common_steps) in
    let none : take c.in-Some-eq0.field-0 c.fill.new.room ≡ [] = rw c.in-Some-eq0.field-0-test refl in
    rw (before g (goal.at.returns-in-Some-eq0-clause-received g c).After-fill) (
      inv.within,
      inv.covers,
      record {
        came = rw (none, append-nil) at (Consumes-trans _ _ _ _ _ inv.came bytes.0);
        within = within_request _ _ inv.within;
        ends = inr (bytes.1 c.in-Some-eq0.field-0-test left);
      },
    )

pub returns-in-Some-eq0-clause-calls : goal.returns-in-Some-eq0-clause-calls
returns-in-Some-eq0-clause-calls g c =
    let inv = c.loop-reader.invariant in
    let called = rw c.in-Some-eq0.field-0-test at c.in-Some-eq0.ensures.called in
    rw (before g (goal.at.returns-in-Some-eq0-clause-calls g c).After-fill)
    (stops (within_request _ _ inv.within) inv.gave (not_so _ _ c.loop-reader-test.true c.is_whole.ensures.whole) (inl called))

pub go_on-requires-clause-before : goal.go_on-requires-clause-before
go_on-requires-clause-before g c =
    let upto : c.loop-reader.len ≤ c.loop-reader.len + c.in-Some.came = omega arith in
    rw (take-take, before g (goal.at.go_on-requires-clause-before g c).After-fill) c.loop-reader.invariant.covers

pub loop-reader-preserved : goal.loop-reader-preserved
loop-reader-preserved g c =
    let inv = c.loop-reader.invariant in
    let len = c.loop-reader.len in
    let room = c.loop-reader.room in
    let within : len ≤ length room = grind (arith, common_steps) in
    let all = filled room c.fill.new.room len c.in-Some.came (length room - len) within c.in-Some.ensures.within in
    let not = not_so _ _ c.loop-reader-test.true c.is_whole.ensures.whole in
    rw all (record {
      within = grind (arith, common_steps);
      came = Consumes-trans _ _ _ _ _ inv.came c.in-Some.ensures.bytes.0;
      covers = rw all at c.go_on.ensures;
      gave = more _ _ c.in-Some.came _ _ inv.gave not (omega arith) c.in-Some.ensures.called;
      counted = grind (arith, common_steps);
    })
