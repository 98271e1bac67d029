use Rattle.club_store.proofs.store.Store.adopt.Goals as goal
use Rattle.std.proofs.{Common.{[], ◌∷◌, inl, inr, refl, sym, ap, ◌∙◌, arith}, lemmas.Bool.not-true}
use Rattle.club_core.specs.Club.{empty_club}
use Rattle.club_store.proofs.StoreLemmas.{one_found, represents_one, the_one, opens_nothing}
use Rattle.club_tables.specs.Tables.{HoldsClubAnyVersion}
use Rattle.sqlite.specs.{Effect.Database, Held.state}

pub returns-in-Ok-clause-was_clean : goal.returns-in-Ok-clause-was_clean
returns-in-Ok-clause-was_clean g c clean = omega (arith, (rw c.over-tables.ensures at c.in-Ok.ensures.opens).survives.clean)

pub returns-in-Ok-clause-again : goal.returns-in-Ok-clause-again
returns-in-Ok-clause-again g c clean clubs on =
    let was = c.args.connection in
    represents_one (state g.S.Store was) on.opening on.live (g.met.S.Store.settled was.store) _
    ((rw c.over-tables.ensures at c.in-Ok.ensures.opens).represents clean) clubs on.left

pub returns-in-Ok-clause-empty : goal.returns-in-Ok-clause-empty
returns-in-Ok-clause-empty g c clean empty =
    let was = c.args.connection in
    let blank : HoldsClubAnyVersion (state g.S.Store was).committed empty_club =
    inr (inr (ap (λ (d : Database). d.schema) (sym empty.0.clean) ∙ empty.2, refl, (empty.1 empty.0.is_open).1)) in
    the_one _ empty_club (represents_one (state g.S.Store was) empty.0 empty.1 (g.met.S.Store.settled was.store) _
    ((rw c.over-tables.ensures at c.in-Ok.ensures.opens).represents clean) (empty_club ∷ []) (inl ((state g.S.Store was).committed, refl, blank)))

pub returns-in-Ok-clause-accepted : goal.returns-in-Ok-clause-accepted
returns-in-Ok-clause-accepted g c clean is_open =
    (rw c.over-tables.ensures at c.in-Ok.ensures.opens).done clean is_open (c.is_autocommit.ensures.settled c.if-not-is_autocommit.false)

pub returns-then-not-is_autocommit-clause-refused : goal.returns-then-not-is_autocommit-clause-refused
returns-then-not-is_autocommit-clause-refused g c =
    let was = c.args.connection in
    record {
      clean = λ clean. clean;
      kept = λ clean club others found. found;
      mode = refl;
      same_database = λ idle. absurd cc;
      survives = opens_nothing g.S.Store was;
      again = λ clean clubs on. one_found _ on.opening on.live (g.met.S.Store.settled was.store) _ (λ club others found. found) clubs on.left;
    }

pub returns-in-Err-clause-refused : goal.returns-in-Err-clause-refused
returns-in-Err-clause-refused g c =
    let was = c.args.connection in
    let opens = rw (c.over-tables.ensures, ← c.into_connection.ensures.same) at c.in-Err.ensures.opens in
    record {
      clean = λ clean. omega (arith, opens.survives.clean);
      kept = opens.keeps_club;
      mode = c.into_connection.ensures.idle ∙ sym (not-true _ (sym c.is_autocommit.ensures.value ∙ c.if-not-is_autocommit.false));
      same_database = λ idle. rw (c.over-tables.ensures, ← c.into_connection.ensures.same) at c.in-Err.ensures.untouched;
      survives = opens.survives;
      again = λ clean clubs on. one_found _ on.opening on.live (g.met.S.Store.settled was.store) _ (opens.keeps_club clean) clubs on.left;
    }

pub returns-in-Err-clause-fault : goal.returns-in-Err-clause-fault
returns-in-Err-clause-fault g c idle clean = (rw (c.over-tables.ensures, ← c.into_connection.ensures.same) at c.in-Err.ensures.opens).fault clean
