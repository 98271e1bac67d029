use Rattle.desk_server.specs.Served as served
use Rattle.desk_server.specs.Trace as trace
use Rattle.desk_server.proofs.serve.serve_logged.Goals as goal
use Rattle.std.proofs.Common.{◌≡◌, ◌≤◌, ◌^◌, ◌∷◌, ◌++◌, suc, [], length, length-append, arith, refl, sym, take}
use Rattle.desk_server.proofs.{ServerLemmas.{noted_alone, noted_more, one_call, one_more}, Tracing.{Came, Replied, came, connections_of, replied}}
use Rattle.desk_server.specs.Trace.{turn_alone}
use Rattle.desk_server.specs.Trace.{ClientExchange, Ending.{nobody, overrun, unanswered, from_office, from_client}, OfficeConnection, TracedTurn}

pub loop-served-init : goal.loop-served-init
loop-served-init g c = record {
  fewer = omega arith;
  so_far = record {
    all = [];
    so_many = refl;
    no_fewer = omega arith;
    traced = trace.no_turn;
    noted = served.nothing;
    called = λ fits. omega arith;
  };
}

pub loop-served-preserved-then-commanded : goal.loop-served-preserved-then-commanded
loop-served-preserved-then-commanded g c =
    let so_far = c.loop-served.invariant.so_far in
    let due : 2 ^ 64 ≤ suc (length so_far.all) = omega (arith, so_far.no_fewer) in
    record {
      fewer = omega arith;
      so_far = one_more so_far (turn_alone overrun) _ _ _ _ _ _ refl (omega arith) due (refl, refl, refl, refl) (noted_alone _ overrun refl c.note.ensures)
          (λ fits. absurd (omega (arith, due, fits)));
    }

pub loop-served-preserved-in-Command : goal.loop-served-preserved-in-Command
loop-served-preserved-in-Command g c =
    let so_far = c.loop-served.invariant.so_far in
    let next = c.in-Command.ensures in
    let command = c.carry_out.ensures in
    let one : Came g.D.Office.commands c.loop-served.desk command.1 c.carry_out.new.desk = came command.1 command.6 in
    let connection : OfficeConnection = record { moment = command.0; command = one.command } in
    record {
      fewer = omega arith;
      so_far = one_more so_far (turn_alone (from_office connection)) _ _ _ _ _ _ (omega arith) (omega arith) tt
          (refl, next.failure_count, command.5, one.carries)
          (noted_alone command.2 (from_office connection) command.3 (rw one.same command.4)) (one_call so_far _ next.waited);
    }

pub loop-served-preserved-in-Client : goal.loop-served-preserved-in-Client
loop-served-preserved-in-Client g c =
    let so_far = c.loop-served.invariant.so_far in
    let next = c.in-Client.ensures in
    let exchange = c.exchange-outcome.ensures.exchanged in
    let bytes = c.exchange-outcome.new.face in
    let meanwhile = connections_of g.M.Moments.gives g.D.Office.commands exchange.meanwhile.commanded in
    let one : Replied (g.D.Responder.answers c.in-Some.moment) bytes exchange.left exchange.written c.exchange-outcome.result c.exchange-outcome.new.desk =
    replied bytes exchange.written c.exchange-outcome.result exchange.exchanged
    in
    let ending : ClientExchange = record {
      moment = c.in-Some.moment;
      bytes = bytes;
      reply = one.reply;
      written = exchange.written;
      outcome = c.exchange-outcome.result;
    } in
    let turn : TracedTurn = record { meanwhile = meanwhile.connections; ending = from_client ending } in
    let line : take 96 bytes ≡ c.of-line.result = rw (← c.request.ensures) (sym c.of-line.ensures) in
    record {
      fewer = omega arith;
      so_far = one_more so_far turn _ _ _ _ _ _ refl (omega arith) tt (
        next.failure_count,
        record {
          given = c.now.new.self;
          left = exchange.left;
          gives = c.in-Some.ensures;
          carried_out = meanwhile.are;
          replies = one.replies;
          writes = one.writes;
          ended = (_, _, exchange.talked);
        },
      )
          (record {
            begun = c.begin.new.self;
            awaited = c.exchange-outcome.new.log;
            begins = c.begin.ensures;
            meanwhile = rw meanwhile.same exchange.meanwhile.noted;
            notes = rw line c.note-in-Client.ensures;
          })
          (one_call so_far _ next.waited);
    }

pub loop-served-preserved : goal.loop-served-preserved
loop-served-preserved g c =
    let so_far = c.loop-served.invariant.so_far in
    record {
      fewer = omega arith;
      so_far = one_more so_far (turn_alone nobody) _ _ _ _ _ _ refl (omega arith) tt (refl, c.in-Nobody.ensures.failure_count, refl, refl)
          (noted_alone _ nobody refl c.note-in-Nobody.ensures) (one_call so_far _ c.in-Nobody.ensures.waited);
    }

pub returns-in_default : goal.returns-in_default
returns-in_default g c =
    let so_far = c.loop-served.invariant.so_far in
    let next = c.in-Client.ensures in
    record {
      all = so_far.all ++ turn_alone unanswered ∷ [];
      serves = record {
        served = so_far.all;
        last = c.loop-served.moments;
        before = rw next.failure_count so_far.traced;
        ends = (omega (arith, so_far.so_many), c.in_default.ensures, refl);
      };
      besides = (
        rw (length-append so_far.all (turn_alone unanswered ∷ [])) (one_call so_far _ next.waited),
        noted_more so_far (turn_alone unanswered) _ (noted_alone _ unanswered c.begin.ensures c.note-in_default.ensures),
      );
    }
