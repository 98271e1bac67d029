use Rattle.club_gate.proofs.desk.Desk.follow.Given as goal
use Rattle.std.proofs.Common.{vec_capacity, vec_len}
use Rattle.club_gate.{proofs.Common.{◌≡◌, All, List, ◌≤◌, length, take, Club, IsEvent, responses_of, IsEventOfBytes, machine_events}, specs.Runs.AreHandled}
use Rattle.club_gate.specs.Runs.{IsFollowed}

abbrev pub invariant-loop-event : goal.invariant-loop-event
invariant-loop-event g l = record {
  was_clean : g.S.ClubStore.ghosts.is_clean l.self → g.S.ClubStore.ghosts.is_clean l.fn.self;
  room : length l.events ≤ vec_capacity l.replies;
  count : vec_len l.replies ≡ l.event-index;
  each : length l.replies.items ≡ l.event-index;
  within : All IsEvent (machine_events (take l.event-index l.events));
  bytes : All IsEventOfBytes (take l.event-index l.events);
  handled : AreHandled g.S.ClubStore.ghosts l.fn.self (take l.event-index l.events) l.replies.items l.self;
  followed : g.S.ClubStore.ghosts.is_clean l.self → (club : Club) (others : List Club) → g.S.ClubStore.ghosts.represents l.fn.self club others
      → IsFollowed g.S.ClubStore.ghosts l.self club others (machine_events (take l.event-index l.events)) (responses_of l.replies.items);
}
