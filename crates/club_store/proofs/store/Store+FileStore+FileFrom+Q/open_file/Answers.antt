use Rattle.sqlite_disk.specs.declared.Disk as disk
use Rattle.club_store.specs.Opening as spec
use Rattle.club_store.specs.declared.failed_opening.FailedOpening.TheVariants as failed
use Rattle.club_store.proofs.store.Store+FileStore+FileFrom+Q.open_file.Goals as goal
use Rattle.std.proofs.{Common.{ℕ, List, [], ◌∷◌, inl, refl, subst, sym, ap, ap₂, ◌∙◌, arith, ◌≡◌, Bool, inr, ◌≢◌, Option, None}, lemmas.Option.IfSome_then}
use Rattle.club_core.specs.Club.{Club, empty_club}
use Rattle.club_store.{proofs.StoreLemmas.{new_is_blank, the_one}, specs.Opening.{IsFailedOpening, busy, FailsFrom, LeavesFrom}}
use Rattle.club_store.specs.declared.failed_opening.FailedOpening.{FailedOpening}
use Rattle.club_tables.specs.{Tables.IsLeftOf, Transaction.fault_by}
use Rattle.sqlite.specs.{Files.file_state, Recovery.Image, State.HasCleanDisk, declared.{error.Error.Error, file.Leftover.Leftover}}
use Rattle.sqlite_disk.specs.History.{MayLeave}

pub returns-in-Ok-adopt-clause-opened : goal.returns-in-Ok-adopt-clause-opened
returns-in-Ok-adopt-clause-opened g c clean =
    let was = file_state c.in-Ok.connection in
    let early : HasCleanDisk was = c.in-Ok-adopt.ensures.was_clean clean in
    let opened = c.in-Ok.ensures.opened early in
    let found = c.in-Ok.ensures.found early in
    let again = λ (clubs : List Club) (left : IsLeftOf was.committed.trees clubs).
    c.in-Ok-adopt.ensures.again clean clubs (record { opening = opened.0; live = opened.1; left = left }) in
    record {
      was = c.in-Ok.connection;
      opening = opened;
      found = found;
      acceptance = c.in-Ok-adopt.ensures.accepted clean;
      survives = c.in-Ok-adopt.ensures.survives;
      represents = c.in-Ok-adopt.ensures.opened clean;
      again = λ clubs held. again clubs (subst (λ trees. IsLeftOf trees clubs) (sym (found.holds held.0 held.1)) held.2);
      fresh = λ none. the_one _ empty_club (again (empty_club ∷ []) (inl (was.committed, refl, new_is_blank _ was none found (opened.1 opened.0.is_open).1)));
    }

-- Without further calls, a crash leaves the bytes that a file had.
leaves_same : (mixes : Bool) (bytes c : List ℕ) → MayLeave mixes bytes bytes [] c → c ≡ bytes
leaves_same mixes bytes c may = elim may [ inl same ↦ same | inr reached ↦ reached ]

by_left : {D : Type 0} {g : disk.Ghosts D} (P : FailedOpening D g → Type 0) (error : Error) (rest : Option (Leftover D g)) (left : FailedOpening D g)
    → IsFailedOpening error rest left → (error ≡ busy → P failed.InUse) → ((rest ≡ None → error ≢ busy) → P (failed.Files rest)) → P left
by_left P error rest left (spec.in_use is none held) when_held other = subst P (sym held) (when_held is)
by_left P error rest left (spec.files is_other files) when_held other = subst P (sym files) (other is_other)

abbrev image : List ℕ → List ℕ → Image
image log db = record { log = log; db = db }

pub returns-in-Err-clause-fault : goal.returns-in-Err-clause-fault
returns-in-Err-clause-fault g c = by_left (λ left. FailsFrom (image g.Q.Start.log g.Q.Start.db) left c.fault_of.result) _ _ _ c.failed_opening-failed.ensures
    (λ is. c.fault_of.ensures ∙ ap fault_by is)
    (λ other. record {
      error = c.in-Err.error;
      without_files = λ none. let error_is = c.in-Err.ensures.unopened none in let not_busy = other none in grind arith;
      cause = IfSome_then c.in-Err.left c.in-Err.ensures.cause (λ left it. (it.0, rw (it.1.0, it.1.1, it.2.0, it.2.1) refl, λ clean. (it.3 clean).0));
      fault_is = c.fault_of.ensures;
    })

pub returns-in-Err-clause-refused : goal.returns-in-Err-clause-refused
returns-in-Err-clause-refused g c = by_left (LeavesFrom (image g.Q.Start.log g.Q.Start.db)) _ _ _ c.failed_opening-failed.ensures
    (λ is. tt)
    (λ other. IfSome_then c.in-Err.left c.in-Err.ensures.cause (λ left it. record {
      files = it.0;
      held = rw (it.1.0, it.1.1, it.2.0, it.2.1) refl;
      one_outcome = λ left may. ap₂ image
          (leaves_same g.Q.Start.is_mixing g.Q.Start.log left.log (rw (it.1.0, it.1.1) at may.0))
          (leaves_same g.Q.Start.is_mixing g.Q.Start.db left.db (rw (it.2.0, it.2.1) at may.1));
      leaves = λ clean. (it.3 clean).1;
    }))

pub returns-in-Err-adopt-clause-fault : goal.returns-in-Err-adopt-clause-fault
returns-in-Err-adopt-clause-fault g c = record {
  was = c.in-Ok.connection;
  opening = λ clean. (c.in-Ok.ensures.opened clean, c.in-Ok.ensures.found clean);
  failure = c.in-Err-adopt.ensures.fault c.in-Ok.ensures.fresh.autocommit;
}

pub returns-in-Err-adopt-clause-refused : goal.returns-in-Err-adopt-clause-refused
returns-in-Err-adopt-clause-refused g c =
    let was = file_state c.in-Ok.connection in
    let back = c.in-Err-adopt.ensures.refused in
    record {
      was = c.in-Ok.connection;
      opening = λ clean. (c.in-Ok.ensures.opened clean, c.in-Ok.ensures.found clean);
      back = back;
      again = λ clean clubs held.
          let early = back.clean clean in
          let opened = c.in-Ok.ensures.opened early in
          let found = c.in-Ok.ensures.found early in
          let left : IsLeftOf was.committed.trees clubs = subst (λ trees. IsLeftOf trees clubs) (sym (found.holds held.0 held.1)) held.2 in
          back.again clean clubs (record { opening = opened.0; live = opened.1; left = left });
    }
