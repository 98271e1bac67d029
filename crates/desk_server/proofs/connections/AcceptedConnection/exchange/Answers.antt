use Rattle.desk_server.proofs.connections.AcceptedConnection.exchange.Goals as goal
use Rattle.std.proofs.{Common.{[], Ok, Err, refl}, KnownBytes.Appends-nil}
use Rattle.club_http.specs.{Calls.not_put, declared.fault.AnswerFault.TheVariants.Read}
use Rattle.desk_server.proofs.ServerLemmas.{answered, exchanged, unasked_to_all}

pub returns-in_default : goal.returns-in_default
returns-in_default g c =
    let received = c.in_default.ensures in
    record {
      exchanged = exchanged _ _ _ _ _ received.meanwhile received.calls not_put [] (Err Read) received.cut_off refl (Appends-nil _) received.counted refl
          (refl, refl) (unasked_to_all (g.D.Responder.answers c.args.moment) _ _);
    }

pub returns-in-Ok : goal.returns-in-Ok
returns-in-Ok g c =
    let received = c.in-Some.ensures in
    record {
      exchanged = answered _ _ _ _ _ received.meanwhile received.calls c.in-Ok.ensures.calls (Ok c.in-Ok.reply) received.received received.counted
          (λ reply replied. c.replies_to_all.ensures c.args.moment _ _ _ _ reply _ received.received replied) c.in-Ok.ensures.exchanged
          (λ one. c.end.ensures.over (c.is_over-over.ensures.1 one), c.end.ensures.rest) c.in-Ok.ensures.writes;
    }

pub returns-in-Err : goal.returns-in-Err
returns-in-Err g c =
    let received = c.in-Some.ensures in
    record {
      exchanged = answered _ _ _ _ _ received.meanwhile received.calls c.in-Err.ensures.calls (Err c.in-Err.fault) received.received received.counted
          (λ reply replied. c.replies_to_all.ensures c.args.moment _ _ _ _ reply _ received.received replied) c.in-Err.ensures.exchanged refl
          c.in-Err.ensures.writes;
    }
