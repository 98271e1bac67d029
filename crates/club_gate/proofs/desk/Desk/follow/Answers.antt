use Rattle.club_core.specs.Run as machine
use Rattle.club_gate.proofs.desk.Desk.follow.Goals as goal
use Rattle.std.proofs.{Common.◌+◌, lemmas.{Grind.common_steps, List.{length-map, length-take, map-append, take_all, take_more, Elements.All-push}}}
use Rattle.club_gate.proofs.Common.{◌≡◌, [], ◌∷◌, ◌++◌, ◌∙◌, length, take, ap, sym, subst, arith, All-nil, IsEvent, Steps, responses_of, IsEventOfBytes}
use Rattle.club_gate.{proofs.{Common.machine_events, DeskLemmas.event_is}, specs.Response.response_of}
use Rattle.club_gate.specs.{Runs.AreHandled.{no_event, one_event}, computed.DecodedPass.machine_event}

pub loop-event-init : goal.loop-event-init
loop-event-init g c = record {
  was_clean = λ h. h;
  room = grind (arith, common_steps);
  count = c.in_ok-replies.ensures.len;
  each = ap length c.in_ok-replies.ensures.items;
  within = All-nil IsEvent;
  bytes = All-nil IsEventOfBytes;
  handled = rw c.in_ok-replies.ensures.items no_event;
  followed = λ _ club others s. rw c.in_ok-replies.ensures.items (c.follows_one_more.ensures.none c.args.self.now club others s);
}

pub loop-event-preserved : goal.loop-event-preserved
loop-event-preserved g c =
    let i = c.loop-event.event-index in
    let first = take i c.args.events.now in
    let event = c.event-item.result in
    let replies = c.loop-event.replies.items in
    let next : take (i + 1) c.args.events.now ≡ first ++ event ∷ [] = rw (← c.event-item.is) at (take_more c.args.events.now i event c.loop-event-test.true) in
    let next_seen : machine_events (take (i + 1) c.args.events.now) ≡ machine_events first ++ machine_event event ∷ [] =
    ap machine_events next ∙ map-append machine_event first (event ∷ [])
    in
    record {
      was_clean = λ h. c.loop-event.invariant.was_clean (c.event.ensures.was_clean h);
      room = omega arith;
      count = grind (arith, common_steps);
      each = grind (arith, common_steps);
      within = rw next_seen (All-push IsEvent (machine_events first) (machine_event event) c.loop-event.invariant.within c.event_within.ensures.within);
      bytes = rw next (All-push IsEventOfBytes first event c.loop-event.invariant.bytes c.event_within.ensures.bytes);
      handled = rw (next, c.in_ok-push.ensures.items)
          (one_event first replies event c.event.result c.loop-event.self c.event.new.self c.loop-event.invariant.handled c.event.ensures);
      followed = λ h club others s.
          let did = c.event.ensures.steps h in
          let Stepped : machine.Event → Type 0 = λ seen. Steps g.S.ClubStore.ghosts c.loop-event.self c.event.new.self seen (response_of c.event.result) in
          let steps = subst Stepped (sym (event_is c.decodes.ensures event did.0 c.event_within.ensures.bytes did.1)) did.2 in
          let each = c.loop-event.invariant.each in
          rw (next_seen, c.in_ok-push.ensures.items, map-append response_of replies (c.event.result ∷ []))
          (c.follows_one_more.ensures.more c.loop-event.self c.event.new.self club others (machine_events first) (responses_of replies)
          (machine_event event) (response_of c.event.result) (simp (length-map, length-take) (omega arith))
          (c.loop-event.invariant.followed (c.event.ensures.was_clean h) club others s) steps);
    }

pub returns-clause-followed : goal.returns-clause-followed
returns-clause-followed g c = λ clean club others s.
    rw (take_all c.loop-event.event-index c.args.events.now c.loop-event-test.false) at (c.loop-event.invariant.followed clean club others s)
