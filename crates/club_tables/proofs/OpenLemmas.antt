-- Lemmas about the steps of opening the tables, and about the club after the statements of a
-- change.
use Rattle.std.proofs.Math.Seq.{take_all}
use Rattle.club_tables.proofs.{ChangeLemmas.mapped_holds, Common.{rules, ◌≡◌, ◌⊎◌, ℕ, List, [], ◌∷◌, Result, IsTrue, true, false, true≢false, codes, inl, inr}}
use Rattle.club_tables.proofs.Common.{refl, sym, subst, ap, ◌∙◌, arith, is_ok, on_ok_weaker, on_err_weaker, everything, Row, Schema, col, inner, end}
use Rattle.club_tables.proofs.Common.{understood, listing_schema, VERSION, HasValues, version_values, select, Ghosts, Trees, Database, State, HasCleanDisk}
use Rattle.club_tables.proofs.Common.{Shown, Held, state, Club, StoreFault, club_schema, first_schema, unindexed_schema, HoldsClub, HoldsClubVersion2, Holds}
use Rattle.club_tables.proofs.Common.{desk_tree, RepresentsBy, Represents, RepresentsVersion1, RepresentsVersion2, IsFound, IsOpeningBatch, RunsBatch}
use Rattle.club_tables.proofs.Common.{table_batch, BoundStatement, Asked, Ran, IsKept, Commits, Err, All, ◌+◌, ◌<◌, ◌≤◌, ◌++◌, length, map, take, get_or, zero}
use Rattle.club_tables.proofs.Common.{suc, Bor, add-one, IfErr-weaker, map-append, All-push, Survives, IsAfterReadings, FailsToRun, IsOpeningFault, Opens}
use Rattle.club_tables.proofs.Common.{YieldsRows, FoundReady, OneOf, IsUntouched, IsIdle, IsUnderstood, take-suc, Ok, OnOk, OnErr, MatchResult, after, IsSound}
use Rattle.club_tables.proofs.Common.{FitsClub, IsLeftOf, ChangesClub, IsChangeFault, IsRunFault, InLimits, transaction_start, AreStatementsOf, statements_of}
use Rattle.club_tables.proofs.Common.{Member, Booking, IsMember, IsBooking, MarkCancelled, cancelled_booking, ReplaceQuota, bytes_eq, quota_limit}
use Rattle.club_tables.proofs.{Common.{member_with_quota, Storage, Change, SuitingChangesKeepSound}, CrashLemmas.{represents_by, Asks, asked_open, asked_reads}}
use Rattle.club_tables.proofs.CrashLemmas.{may_commit, was_clean, after_one, commits_after, at_once, less_in_turn, kept_when_idle, commits_nothing}
use Rattle.club_tables.proofs.{MakingLemmas.{never_ran, makes_again, made_tables}, MemberLemmas.is_numbered, PlanLemmas.{plan, made, fits_if_ran}}
use Rattle.club_tables.proofs.SelectLemmas.{selected, short_permutation, found}

abbrev pub IsSettled : State → Type 0
IsSettled state = (trees : Trees) → IsTrue state.is_open → state.may_leave trees → trees ≡ state.committed.trees

pub settles : (now : State) (club : Club) (others : List Club) → (HasCleanDisk now → IsTrue now.is_open → HoldsClub now.committed club)
    → (HasCleanDisk now → IsTrue now.is_open) → now.now ≡ now.committed → IsSettled now → Represents now club others
settles now club others held opens same settled = search rules

module _ {S : Type 0} (g : Ghosts S) (IsHeld : Database → Club → Type 0) (statements : List BoundStatement) (old new : Held S)
    (holds : (db : Database) → Ran g 0 statements old db → HasCleanDisk (state g old) → (club : Club) (others : List Club)
    → RepresentsBy IsHeld (state g old) club others → HoldsClub db club) (result : Result (Unit {0}) StoreFault)
    (commits : Commits g 0 statements old new result) where
  earlier : HasCleanDisk (state g new) → HasCleanDisk (state g old)
  earlier = was_clean (state g old) (state g new) _ commits.survives

  refused : IsKept (state g old) (state g new) → (club : Club) (others : List Club) → RepresentsBy IsHeld (state g old) club others
      → RepresentsBy IsHeld (state g new) club others
  refused kept club others before =
      represents_by IsHeld (state g old) (state g new) kept earlier club others others before (λ clean trees may.
      elim (commits.survives.crash clean trees may) [
        | inl was ↦ before.left (earlier clean) trees was
        | inr made ↦ inl (made.0, sym made.2, inl (inl (holds made.0 made.1 (earlier clean) club others before)))
      ])

  pub runs_batch : IsOpeningBatch statements → IsSettled (state g new) → RunsBatch g (λ held. RepresentsBy IsHeld (state g held)) statements old new result
  runs_batch are settled = record {
    represents = λ clean. on_ok_weaker result (λ ran club others before. settles (state g new) club others (λ _ _.
        holds (state g new).committed ran.1 (earlier clean) club others before) (λ _. ran.0) ran.2 settled) (commits.ran clean);
    done = λ clean. on_ok_weaker result (λ ran. ran.1) (commits.ran clean);
    keeps_club = λ clean. on_err_weaker result (λ kept club others before. refused kept club others before) commits.kept;
    fault = commits.fault;
    survives = may_commit g 0 statements IsOpeningBatch are old new commits.survives;
  }

pub holds_found : {S : Type 0} (g : Ghosts S) (old : Held S) (db : Database) → Ran g 0 table_batch old db → HasCleanDisk (state g old)
    → (club : Club) (others : List Club) → IsFound (state g old) club others → HoldsClub db club
holds_found g old db ran clean club others found =
    let is_open = ran.was_open (omega arith) in
    let now = found.idle clean is_open in
    elim (found.held clean is_open) [
      | inl (inl tables) ↦ absurd (never_ran ran (ap (λ (d : Database). d.schema) now ∙ tables.holds_rows.schema) makes_again.0)
      | inl (inr unindexed) ↦ absurd (never_ran ran (ap (λ (d : Database). d.schema) now ∙ unindexed.holds_rows.schema) makes_again.1)
      | inr (inl first) ↦ absurd (never_ran ran (ap (λ (d : Database). d.schema) now ∙ first.holds_rows.schema) makes_again.2)
      | inr (inr blank) ↦ subst (HoldsClub db) (sym blank.1) (made_tables g old db ran (ap (λ (d : Database). d.schema) now ∙ blank.0))
    ]

abbrev AsksVersion : Schema → Type 0
AsksVersion schema = Asks schema VERSION.now (select (inner desk_tree end) [] (col 1 1 ∷ [])) (codes "version" ∷ [])

asks_version : AsksVersion club_schema × AsksVersion unindexed_schema × AsksVersion first_schema
unfolding understood everything
asks_version = search rules

version_row : {S : Type 0} (g : Ghosts S) (old : Held S) (rows : List Row) → Asked g VERSION.now [] old rows → (schema : Schema) → AsksVersion schema
    → (db : Database) → (state g old).now ≡ db → db.schema ≡ schema → (version : ℕ) → Holds version_values (db.trees desk_tree) (version ∷ [])
    → rows ≡ version_values version ∷ []
version_row g old rows asked schema asks db now over version held =
    let same = selected version_values [] [] (col 1 1 ∷ []) (λ _. true) version_values (λ id n. refl) (λ id n.
    refl) desk_tree (codes "version" ∷ []) (state g old).now (version ∷ []) rows
    (subst (λ (d : Database). Holds version_values (d.trees desk_tree) (version ∷ [])) (sym now) held)
    (asked_reads asked asks (ap (λ (d : Database). d.schema) now ∙ over)) in
    short_permutation (version_values version ∷ []) rows (omega arith) same

pub version_returned : {S : Type 0} (g : Ghosts S) (old : Held S) (rows : List Row) → HasCleanDisk (state g old) → Asked g VERSION.now [] old rows
    → (club : Club) (others : List Club) → IsFound (state g old) club others → (RepresentsVersion2 (state g old) club others × (rows ≡ version_values 2 ∷ []))
    ⊎ (RepresentsVersion1 (state g old) club others × (rows ≡ version_values 1 ∷ []))
unfolding Shown understood listing_schema everything
version_returned g old rows clean asked club others found =
    let is_open = asked_open g VERSION.now [] old rows asked in
    let now = found.idle clean is_open in
    let read = version_row g old rows asked in
    let second : HoldsClubVersion2 (state g old).committed club → RepresentsVersion2 (state g old) club others = λ held.
    record { held = λ _ _. held; idle = found.idle; left = found.left } in
    elim (found.held clean is_open) [
      | inl (inl tables) ↦ inl (
        second (inl tables),
        read club_schema asks_version.0 _ now tables.holds_rows.schema 2 tables.holds_rows.held.version,
      )
      | inl (inr unindexed) ↦ inl (
        second (inr unindexed),
        read unindexed_schema asks_version.1 _ now unindexed.holds_rows.schema 2 unindexed.holds_rows.held.version,
      )
      | inr (inl first) ↦ inr (
        record { held = λ _ _. first; idle = found.idle; left = found.left },
        read first_schema asks_version.2 _ now first.holds_rows.schema 1 first.holds_rows.held.version,
      )
      | inr (inr blank) ↦
          let none : is_ok (understood (state g old).now.schema VERSION.now) ≡ false =
          ap (λ s. is_ok (understood s VERSION.now)) (ap (λ (d : Database). d.schema) now ∙ blank.0) ∙ (refl) in
          absurd (true≢false (sym (ap is_ok asked.shown.1.is) ∙ none))
    ]

pub second_found : (s : State) (club : Club) (others : List Club) → RepresentsVersion2 s club others → IsFound s club others
second_found s club others second = record { held = λ clean is_open. inl (second.held clean is_open); idle = second.idle; left = second.left }

pub first_found : (s : State) (club : Club) (others : List Club) → RepresentsVersion1 s club others → IsFound s club others
first_found s club others first = record { held = λ clean is_open. inr (inl (first.held clean is_open)); idle = first.idle; left = first.left }

pub batch_failed : {S : Type 0} (g : Ghosts S) (statements : List BoundStatement) → IsOpeningBatch statements → (old mid new : Held S) (fault : StoreFault)
    → IsAfterReadings g old mid → FailsToRun g 0 statements mid new fault → IsOpeningFault g old new fault
batch_failed g statements are old mid new fault first failed = record { from = mid; after = first; failure = inr (inl (statements, are, failed)) }

module _ {S : Type 0} (g : Ghosts S) (old mid : Held S) (untouched : IsUntouched (state g old) (state g mid))
    (quiet : Survives (state g old) (state g mid) (λ _. ⊥)) where
  pub keeps_after : (IsHeld : Database → Club → Type 0) → HasCleanDisk (state g mid) → (club : Club) (others : List Club)
      → RepresentsBy IsHeld (state g old) club others → RepresentsBy IsHeld (state g mid) club others
  keeps_after IsHeld clean club others before = search rules

  pub opens_not : (IsHeld : Database → Club → Type 0) {Done : Held S → Held S → Type 0} {Fails : Held S → Held S → StoreFault → Type 0} {fault : StoreFault}
      → (HasCleanDisk (state g mid) → Fails old mid fault) → Opens g (λ held. RepresentsBy IsHeld (state g held)) Done Fails old mid (Err fault)
  opens_not IsHeld failed = search rules

  pub opens_after : {Before Between : Held S → Club → List Club → Type 0} {Done Next : Held S → Held S → Type 0}
      {Fails : Held S → Held S → StoreFault → Type 0} {new : Held S} {result : Result (Unit {0}) StoreFault} → Opens g Between Next Fails mid new result
      → (HasCleanDisk (state g mid) → (club : Club) (others : List Club) → Before old club others → Between mid club others)
      → ((club : Club) (others : List Club) → Between new club others → Before new club others)
      → (HasCleanDisk (state g mid) → HasCleanDisk (state g new) → Next mid new → Done old new)
      → ((fault : StoreFault) → IsAfterReadings g old mid → Fails mid new fault → IsOpeningFault g old new fault)
      → Opens g Before Done (IsOpeningFault g) old new result
  opens_after {Fails = Fails} {new = new} {result = result} step into back done fails =
      let earlier = was_clean (state g mid) (state g new) _ step.survives in
      record {
        represents = λ clean. on_ok_weaker result (λ represents club others before.
            represents club others (into (earlier clean) club others before)) (step.represents clean);
        done = λ clean. on_ok_weaker result (done (earlier clean) clean) (step.done clean);
        keeps_club = λ clean. on_err_weaker result (λ keeps club others before.
            back club others (keeps club others (into (earlier clean) club others before))) (step.keeps_club clean);
        fault = λ clean. IfErr-weaker result (Fails mid new) (IsOpeningFault g old new) (λ fault failed.
            fails fault (after_one g old mid (earlier clean) untouched quiet) failed) (step.fault clean);
        survives = commits_after g 0 IsOpeningBatch old mid new untouched quiet step.survives;
      }

module _ (old mid new : State) (earlier : HasCleanDisk mid) (clean : HasCleanDisk new) (is_open : IsTrue new.is_open) (rest : IsIdle old)
    (read : IsKept old mid) (prepared : IsIdle mid → IsKept mid new) where
  pub found_ready : (version : ℕ) (texts : List (List ℕ)) (rows : List Row) → (row : Row) × (rows ≡ row ∷ []) × HasValues row (version_values version)
      → YieldsRows VERSION.now old.now rows → (IsIdle mid → All (IsUnderstood new.committed.schema) texts) → FoundReady version texts old new
  found_ready version texts rows one answered known = search rules

abbrev pub text_at : Bor (List ℕ) → List ℕ
text_at text = text.now

pub kept_then : (a b c : State) → (HasCleanDisk c → HasCleanDisk b) → IsKept a b → IsKept b c → IsKept a c
kept_then a b c earlier first next clean is_open = search rules

pub one_at : (P : List ℕ → Type 0) (texts : List (Bor (List ℕ))) (at : ℕ) (d : Bor (List ℕ)) → at < length texts → P (get_or texts at d).now
    → OneOf P (map text_at texts)
one_at P [] at d within here = absurd (omega arith)
one_at P (text ∷ texts) zero d within here = inl here
one_at P (text ∷ texts) (suc at) d within here = inr (one_at P texts at d (omega arith) here)

pub one_more : (P : List ℕ → Type 0) (texts others : List (List ℕ)) → OneOf P texts → OneOf P (texts ++ others)
one_more P [] others one = absurd one
one_more P (text ∷ texts) others (inl here) = inl here
one_more P (text ∷ texts) others (inr there) = inr (one_more P texts others there)

module _ (db : Database) (texts : List (Bor (List ℕ))) where
  pub one_understood : (at : ℕ) (d : Bor (List ℕ)) (was : Database) → was ≡ db → at < length texts → All (IsUnderstood db.schema) (map text_at (take at texts))
      → IsUnderstood was.schema (get_or texts at d).now → All (IsUnderstood db.schema) (map text_at (take (at + 1) texts))
  one_understood at d was same within before one =
      let more : map text_at (take (at + 1) texts) ≡ map text_at (take at texts) ++ (get_or texts at d).now ∷ [] =
      rw (add-one, take-suc texts at d within, map-append text_at (take at texts) (get_or texts at d ∷ [])) in
      let here : IsUnderstood db.schema (get_or texts at d).now = subst (λ (s : Database). IsUnderstood s.schema (get_or texts at d).now) same one in
      subst (All (IsUnderstood db.schema)) (sym more) (All-push (IsUnderstood db.schema) (map text_at (take at texts)) (get_or texts at d).now before here)

  pub all_understood : (at : ℕ) (now : Database) → now ≡ db → length texts ≤ at → All (IsUnderstood db.schema) (map text_at (take at texts))
      → All (IsUnderstood now.schema) (map text_at texts)
  all_understood at now same past before =
      subst (λ (s : Database). All (IsUnderstood s.schema) (map text_at texts)) (sym same)
      (subst (λ ts. All (IsUnderstood db.schema) (map text_at ts)) (take_all at texts past) before)

module _ {S : Type 0} (g : Ghosts S) (all : List BoundStatement) (some : 0 < length all) (old new : Held S)
    (survives : Survives (state g old) (state g new) (λ trees. (db : Database) × Ran g 1 all old db × (trees ≡ db.trees)))
    (clean : HasCleanDisk (state g new)) (club : Club) (others : List Club) (represents : Represents (state g old) club others) where
  old_clean : HasCleanDisk (state g old)
  old_clean = omega (arith, survives.clean)

  held : (db : Database) → Ran g 1 all old db → HoldsClub (state g old).now club
  held db ran = subst (λ (d : Database). HoldsClub d club) (sym (represents.idle old_clean (ran.was_open some))) (represents.held old_clean (ran.was_open some))

  kept_as : (clubs : List Club) → ((trees : Trees) (db : Database) → Ran g 1 all old db → trees ≡ db.trees → IsLeftOf trees (club ∷ clubs))
      → ((trees : Trees) → IsLeftOf trees (club ∷ others) → IsLeftOf trees (club ∷ clubs)) → IsKept (state g old) (state g new)
      → Represents (state g new) club clubs
  kept_as clubs leaves was_left kept =
      represents_by HoldsClub (state g old) (state g new) kept (λ _. old_clean) club others clubs represents (λ clean trees may.
      elim (survives.crash clean trees may) [
        | inl was ↦ was_left trees (represents.left old_clean trees was)
        | inr new ↦ leaves trees new.0 new.1 new.2
      ])

  module _ (next : Club) (Fits : Type 0) (sound_if : IsSound next → (db : Database) → HoldsClub (state g old).now club → Ran g 1 all old db
      → HoldsClub db next) (fits : (db : Database) → HoldsClub (state g old).now club → Ran g 1 all old db → Fits × HoldsClub db next) where
    pub wrote : {E : Type 0} (r : Result (Unit {0}) E) → OnOk r (IsTrue (state g new).is_open × Ran g 1 all old (state g new).committed
        × ((state g new).now ≡ (state g new).committed)) → OnErr r (IsKept (state g old) (state g new)) → IsSettled (state g new)
        → MatchResult r (λ _. Fits × Represents (state g new) next [])
        (λ _. (IsSound next → Represents (state g new) club (next ∷ others)) × (¬ Fits → Represents (state g new) club others))
    wrote (Ok done) ok err settled =
        let it = fits (state g new).committed (held _ ok.1) ok.1 in
        (it.0, settles (state g new) next [] (λ _ _. it.1) (λ _. ok.0) ok.2 settled)
    wrote (Err e) ok err settled = (
      λ sound. kept_as (next ∷ others) (λ trees db ran is.
          inr (inl (db, sym is, inl (inl (sound_if sound db (held db ran) ran)))))
          (λ trees left. elim left [ inl here ↦ inl here | inr there ↦ inr (inr there) ])
          err,
      λ unfit. kept_as others (λ trees db ran is. absurd (unfit (fits db (held db ran) ran).0)) (λ trees left. left) err,
    )

some_statements : (change : Change) → 0 < length (statements_of change)
some_statements change = grind arith

pub changes : {S : Type 0} {g : Ghosts S} → SuitingChangesKeepSound → (change : Change) → InLimits change → {old new : Held S}
    {result : Result (Unit {0}) StoreFault} → Commits g 1 (statements_of change) old new result → IsSettled (state g new) → ChangesClub g change old new result
changes {g = g} law change within {old = old} {new = new} {result = r} commits settled =
    let all = statements_of change in
    let old_clean = λ (clean : HasCleanDisk (state g new)). let e : HasCleanDisk (state g old) = omega (arith, commits.survives.clean) in e in
    record {
      was_clean = old_clean;
      effect = λ clean club others represents.
          let made_of = λ (db : Database) (tables : HoldsClub (state g old).now club) (ran : Ran g 1 all old db).
          let fits = fits_if_ran g old club tables law db change within ran in
          let both : FitsClub change club × HoldsClub db (after change club) = (fits, made g old club tables db change fits ran) in
          both in
          wrote g all (some_statements change) old new commits.survives clean club others represents (after change club) (FitsClub change club)
          (λ sound db tables ran. (made_of db tables ran).1) made_of r (commits.ran clean) commits.kept settled;
      no_change = on_err_weaker r (λ kept rest. kept) commits.kept;
      survives = may_commit g 1 all (AreStatementsOf change) refl old new commits.survives;
      fault = λ clean. IfErr-weaker r (FailsToRun g 1 all old new) (IsChangeFault g change old new) (λ fault failed.
          inl (record { from = old; after = at_once g old (old_clean clean); failure = failed })) (commits.fault clean);
      fault_if_fits = λ clean club others represents fits. IfErr-weaker r (FailsToRun g 1 all old new) (IsRunFault g 0 all old new) (λ fault
          failed. record {
            from = old;
            after = at_once g old (old_clean clean);
            failure = record {
              mid = failed.mid;
              failure = less_in_turn g all (transaction_start old) failed.mid fault (λ is_open.
                  let tables = subst (λ (d : Database). HoldsClub d club) (sym (represents.idle (old_clean clean) is_open))
                  (represents.held (old_clean clean) is_open) in
                  let it = plan g old club tables change fits in
                  (tables.rows, it.0, tables.holds_rows, it.1)) failed.failure;
              fault_count = failed.fault_count;
            };
          }) (commits.fault clean);
    }

-- Assume that a change has a value outside its limits, and that a change with such a value fits no
-- club. Then a call that runs no statement and returns `Storage` satisfies `ChangesClub`.
pub refuses : {S : Type 0} {g : Ghosts S} (change : Change) → ¬ InLimits change → ((club : Club) → ¬ FitsClub change club) → (held : Held S)
    → ChangesClub g change held held (Err Storage)
refuses {g = g} change out unfit held = record {
  was_clean = λ clean. clean;
  effect = λ clean club others represents. (
    λ sound. represents_by HoldsClub (state g held) (state g held) (λ _ is_open. (is_open, represents.idle clean is_open, refl)) (λ c. c) club others
        (after change club ∷ others) represents (λ c trees may. elim (represents.left c trees may) [ inl here ↦ inl here | inr there ↦ inr (inr there) ]),
    λ _. represents,
  );
  no_change = kept_when_idle (state g held);
  survives = commits_nothing g 1 (AreStatementsOf change) held held (search (rules, arith));
  fault = λ clean. inr (out, refl);
  fault_if_fits = λ clean club others represents fits. absurd (unfit club fits);
}

pub quota_if_fits : (name : List ℕ) (quota : ℕ) (club : Club) → FitsClub (ReplaceQuota name quota) club → quota ≤ quota_limit
quota_if_fits name quota club fits =
    let m = fits.carries.0 in
    let there = found (λ (m : Member). bytes_eq m.name name) club.members m fits.carries.1 in
    let row = mapped_holds IsMember (member_with_quota name quota) club.members m fits.sound.rows.members there.0 in
    grind (arith, there.1, row.quota)

pub refund_if_fits : (booking : Booking) (member : List ℕ) (refund : ℕ) (club : Club) → FitsClub (MarkCancelled booking member refund) club
    → refund ≤ booking.charge
refund_if_fits booking member refund club fits =
    let there = found (is_numbered booking.key booking.number) club.bookings booking fits.carries.0.0 in
    let row = mapped_holds IsBooking (cancelled_booking booking.key booking.number refund) club.bookings booking fits.sound.rows.bookings there.0 in
    grind (arith, there.1, fits.carries.0.1, row.refund)
