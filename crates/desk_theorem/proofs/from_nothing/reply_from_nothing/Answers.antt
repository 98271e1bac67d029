use Rattle.std.proofs.{Common.{[]}, lemmas.List.Elements.{All-nil, All-cons}}
use Rattle.sqlite.proofs.Callers.{memory_is_clean}
use Rattle.club_core.specs.Club.{empty_club, IsSound}
use Rattle.club_gate.specs.Runs.{club_left, responses_of}
use Rattle.desk_theorem.proofs.from_nothing.reply_from_nothing.Goals as goal

pub returns-clause-run : goal.returns-clause-run
returns-clause-run c =
    c.in-Ok.ensures.lawful (memory_is_clean c.run.new.self) empty_club []
    (rw c.new-desk.ensures (All-cons IsSound empty_club [] c.empty_is_sound.ensures (All-nil IsSound), c.in_ok-store.ensures.opened))

pub returns-clause-lawful : goal.returns-clause-lawful
returns-clause-lawful c = λ seen are.
    let left =
    c.in-Ok.ensures.represents (memory_is_clean c.run.new.self) empty_club []
    (rw c.new-desk.ensures (All-cons IsSound empty_club [] c.empty_is_sound.ensures (All-nil IsSound), c.in_ok-store.ensures.opened))
    seen are
    in
    c.ask-reply.ensures.lawful (memory_is_clean c.ask-reply.new.self)
    (club_left empty_club seen (responses_of c.in-Ok.replies.items)) left.left left.represents

pub returns-clause-handled : goal.returns-clause-handled
returns-clause-handled c = record {
  run = record {
    start = c.new-desk.result;
    last = c.run.new.self;
    empty = rw c.new-desk.ensures c.in_ok-store.ensures.opened;
    handled = c.in-Ok.ensures.handled;
  };
  after = c.ask-reply.new.self;
  cause = λ seen are.
      let left =
      c.in-Ok.ensures.represents (memory_is_clean c.run.new.self) empty_club []
      (rw c.new-desk.ensures (All-cons IsSound empty_club [] c.empty_is_sound.ensures (All-nil IsSound), c.in_ok-store.ensures.opened))
      seen are
      in
      c.ask-reply.ensures.failed (memory_is_clean c.ask-reply.new.self)
      (club_left empty_club seen (responses_of c.in-Ok.replies.items)) left.left left.represents;
}
