use Rattle.std.proofs.{Common.{◌≡◌, ◌-◌, take, drop, length, arith, refl}, KnownBytes.{Appends-nil, Appends-trans}, Math.Seq.take-add}
use Rattle.std.proofs.lemmas.{Grind.common_steps, List.take_all}
use Rattle.club_http.specs.Calls.{not_put, put_again}
use Rattle.club_http.proofs.send.put_all.Goals as goal

pub loop-sent-init : goal.loop-sent-init
loop-sent-init g c = record { within = omega arith; put = Appends-nil _; counted = refl; calls = not_put }

pub loop-sent-preserved : goal.loop-sent-preserved
loop-sent-preserved g c =
    let sent = c.loop-sent.sent in
    let bytes = c.args.bytes.now in
    let rest : take (length bytes - sent) (drop sent bytes) ≡ drop sent bytes = take_all _ _ (grind (arith, common_steps)) in
    let more = rw rest at c.in-Some.ensures.bytes in
    record {
      within = grind (arith, common_steps);
      put = rw (take-add sent c.in-Some.taken bytes) (Appends-trans _ _ _ _ _ c.loop-sent.invariant.put more);
      counted = grind (arith, common_steps);
      calls = put_again _ _ _ _ c.loop-sent.invariant.calls c.in-Some.ensures.called;
    }

pub returns-in_default-clause-calls : goal.returns-in_default-clause-calls
returns-in_default-clause-calls g c = put_again _ _ _ _ c.loop-sent.invariant.calls c.put.ensures.called

pub returns-in_default-2-clause-calls : goal.returns-in_default-2-clause-calls
returns-in_default-2-clause-calls g c = put_again _ _ _ _ c.loop-sent.invariant.calls c.put.ensures.called
