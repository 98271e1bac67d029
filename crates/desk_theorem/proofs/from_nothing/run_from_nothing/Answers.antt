use Rattle.std.proofs.{Common.{[]}, lemmas.List.Elements.{All-nil, All-cons}}
use Rattle.sqlite.proofs.Callers.{memory_is_clean}
use Rattle.club_core.specs.Club.{empty_club, IsSound}
use Rattle.desk_theorem.proofs.from_nothing.run_from_nothing.Goals as goal

pub returns-in-Ok : goal.returns-in-Ok
returns-in-Ok c = record {
  lawful =
      c.in-Ok.ensures.lawful (memory_is_clean c.run.new.self) empty_club []
      (rw c.new-desk.ensures (All-cons IsSound empty_club [] c.empty_is_sound.ensures (All-nil IsSound), c.in_ok-store.ensures.opened));
  handled = record {
    start = c.new-desk.result;
    last = c.run.new.self;
    empty = rw c.new-desk.ensures c.in_ok-store.ensures.opened;
    handled = c.in-Ok.ensures.handled;
  };
  fault = tt;
}
