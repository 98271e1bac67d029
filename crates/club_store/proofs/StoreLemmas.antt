-- Lemmas about calls that read several times or read and then apply a change, and about the
-- database that a crash leaves.
use Rattle.std.proofs.Common.{◌≡◌, IfOk, IsErrAnd, inl, inr, sym, ◌∙◌, arith, rules, ℕ, suc, Bool, true, List, [], ◌∷◌, refl, ap, length, IsTrue, map, subst}
use Rattle.std.proofs.{Math.Logic.∥∥₁_map, lemmas.{Bool.cases_Bool, List.Elements.{All-cons, All-head, All-nil, All-tail}, Result.{IfOk-weaker, IfErr-weaker}}}
use Rattle.std.{proofs.lemmas.{Result.{err_from_is_err_and, MatchResult-weaker}, Slice.Eq.bytes_eq-Decides}, specs.{List.AllZip, Prelude.{Result, Ok, Err}}}
use Rattle.std.specs.{Prelude.{Option, Some, None, find, Contains, option_map, option_and_then, IfErr}, Str.bytes_eq}
use Rattle.club_core.specs.{After.after, Basis.{account_named, club_account, key_view_in, state_of}, Club.{Club, bookings_of, key_named, member_named, IsSound}}
use Rattle.club_core.specs.{Club.{empty_club, balance_of, booking_under, count_to_come, spent_under}, Laws.{OwnBookings, HasOwnBookings}}
use Rattle.club_core.specs.{Request.{request_number, request_slot}, Store.{Changes, ReadsStore}, declared.account.MemberAccount.MemberAccount}
use Rattle.club_core.specs.declared.{change.Change.Change, request.Request.Request, store.StoreFault.StoreFault}
use Rattle.club_rows.specs.{Rows.{key_of_row, row_of_key}, declared.{key.{Key.Key, KeyRow.KeyRow, OlderRoot.OlderRoot}, member.Member.Member}}
use Rattle.club_store.specs.{Failing.{FailsToChange, Fails, over_connection}, Opening.{RepresentsOne, OneIsFound, HoldsOneOf, CrashLeaves, SurvivesOpening}}
use Rattle.club_tables.specs.{Answers.{IsAfterReadings, IsReadFault}, ReadsAndChanges.{ReadsClub, ChangesClub, sound_in, represents_in}, Schema.no_schema}
use Rattle.club_tables.specs.{Tables.{HoldsClubAnyVersion, IsLeftOf, Represents, IsFound}, Transaction.IsUntouched}
use Rattle.sqlite.{proofs.{StateLemmas.survives_then, Theorems.opens_again}, specs.{Effect.{Database, IsDatabase}, FileStore.recovers, Held.{Held, state}}}
use Rattle.sqlite.specs.{Held.AreDatabases, Recovery.Image, Schema.Schema, Start.FindsIn, State.{State, HasCleanDisk, Opens, IsLive}, Store.Ghosts, Tree.Trees}
use Rattle.sqlite.specs.declared.FileStore.{FileStore}
use Rattle.sqlite_catalog.{proofs.ReadLemmas.{reads, read_once}, specs.Listing.{IsSound as IsSoundIn, AreListed, IsTableRow, IsIndexRow, IsViewRow, cut}}
use Rattle.sqlite_disk.specs.declared.Disk.{Ghosts as DiskGhosts}
use Rattle.sqlite_trees.specs.Objects.{catalog_tree}

pub untouched_then : (a b c : State) → (HasCleanDisk c → HasCleanDisk b) → IsUntouched a b → IsUntouched b c → IsUntouched a c
untouched_then a b c earlier first next rest clean is_open =
    let kept = first rest (earlier clean) in
    let after = next (λ opened. let k = kept opened in k.1 ∙ sym k.2) clean is_open in
    let before = kept after.0 in
    (before.0, after.1 ∙ before.2, after.2 ∙ before.2)

after_reading : {S A : Type 0} {g : Ghosts S} {a b c : Held S} {first : Result A StoreFault} {IsFirst : Club → A → Type 0} → HasCleanDisk (state g b)
    → ReadsClub g a b first IsFirst → IsAfterReadings g b c → IsAfterReadings g a c
after_reading {g = g} {a = a} {b = b} {c = c} clean reads after = record {
  same = untouched_then (state g a) (state g b) (state g c) (λ _. clean) reads.no_change after.same;
  clean = after.clean;
  fault_count = omega (arith, reads.survives.counts, after.fault_count);
}

pub later_fault : {S A : Type 0} {g : Ghosts S} {a b c : Held S} {first : Result A StoreFault} {IsFirst : Club → A → Type 0} {fault : StoreFault}
    → HasCleanDisk (state g b) → ReadsClub g a b first IsFirst → IsReadFault g b c fault → IsReadFault g a c fault
later_fault clean reads it = record { from = it.from; after = after_reading clean reads it.after; reading = it.reading; failure = it.failure }

pub both_read : {S A B : Type 0} {g : Ghosts S} {a b c : Held S} {one : Result A StoreFault} {two : Result B StoreFault} {IsOne : Club → A → Type 0}
    {IsTwo : Club → B → Type 0} → ReadsClub g a b one IsOne → ReadsClub g b c two IsTwo
    → ReadsClub g a c two (λ club answer. IfOk one (IsOne club) × IsTwo club answer)
both_read {g = g} {a = a} {b = b} {c = c} {one = one} {two = two} {IsOne = IsOne} {IsTwo = IsTwo} first next =
    let earlier = λ (clean : HasCleanDisk (state g c)). let e : HasCleanDisk (state g b) = omega (arith, next.survives.clean) in e in
    record {
      returns = λ clean club others represents. IfOk-weaker two _ _ (λ answer is. (first.returns (earlier clean) club others represents, is))
          (next.returns clean club others (first.kept (earlier clean) club others represents));
      kept = λ clean club others represents. next.kept clean club others (first.kept (earlier clean) club others represents);
      no_change = untouched_then (state g a) (state g b) (state g c) earlier first.no_change next.no_change;
      survives = survives_then _ _ _ _ _ _ (λ _ db none. none) (λ _ db none. none) first.survives next.survives;
      fault = λ clean. IfErr-weaker two _ _ (λ fault it. later_fault (earlier clean) first it) (next.fault clean);
    }

pub read_as : {S A B : Type 0} {g : Ghosts S} {a b : Held S} {x : A} {y : B} {Is : Club → A → Type 0} {IsReturned : Club → B → Type 0}
    → ReadsClub g a b (Ok x) Is → ((club : Club) → Is club x → IsReturned club y) → ReadsClub g a b (Ok y) IsReturned
read_as reads returned = search (rules, returned)

pub read_failed : {S A C : Type 0} {g : Ghosts S} {a b : Held S} {fault : StoreFault} {result : Result C StoreFault} {Is : Club → A → Type 0}
    {IsReturned : Club → C → Type 0} → ReadsClub g a b (Err fault) Is → IsErrAnd result (λ other. other ≡ fault) → ReadsClub g a b result IsReturned
read_failed {result = result} reads is = let failed = err_from_is_err_and result is in rw (failed.1, failed.2) (search rules)

pub change_fault : {S A : Type 0} {g : Ghosts S} {a b c : Held S} {first : Result A StoreFault} {IsFirst : Club → A → Type 0} {change : Change}
    {fault : StoreFault} → HasCleanDisk (state g b) → ReadsClub g a b first IsFirst → FailsToChange g change b fault c → FailsToChange g change a fault c
change_fault clean reads it = record {
  cause = elim it.cause [
    | inl run ↦ inl (record { from = run.from; after = after_reading clean reads run.after; failure = run.failure })
    | inr refused ↦ inr refused
  ];
  error_if_fits = λ club others represents fits. let run = it.error_if_fits club others (reads.kept clean club others represents) fits in
      record { from = run.from; after = after_reading clean reads run.after; failure = run.failure };
}

pub opens_nothing : {S : Type 0} (g : Ghosts S) (held : Held S) → SurvivesOpening g held held
opens_nothing g held = search (rules, arith)

pub found : {X : Type 0} (p : X → Bool) (xs : List X) (x : X) → find p xs ≡ Some x → Contains xs x × (p x ≡ true)
found p [] x h = absurd (cc)
found p (y ∷ xs) x h = elim (cases_Bool (p y)) [
  | inl passes ↦ let here = rw passes at h in let same : y ≡ x = cc in ((0, omega arith, same), ap p (sym same) ∙ passes)
  | inr fails ↦ let later = found p xs x (rw fails at h) in ((suc later.0.0, omega (arith, later.0.1), later.0.2), later.1)
]

at_number : (club : Club) (key : Key) → HasOwnBookings club key → (number : Option ℕ)
    → option_and_then (λ (n : ℕ). booking_under key.name n (bookings_of key.member club)) number
    ≡ option_and_then (λ (n : ℕ). booking_under key.name n club.bookings) number
at_number club key own None = refl
at_number club key own (Some number) = own.booking number

accounted : (club : Club) (found : Option Member) (account : MemberAccount) → Some account ≡ option_map (club_account club) found
    → (found ≡ Some account.member) × (account.balance ≡ balance_of account.member (bookings_of account.member.name club))
accounted club None account h = absurd cc
accounted club (Some member) account h =
    let e : account ≡ club_account club member = cc in
    let same : member ≡ account.member = ap (λ (a : MemberAccount). a.member) (sym e) in
    (ap Some same, ap (λ (a : MemberAccount). a.balance) e ∙ ap (λ (m : Member). balance_of m (bookings_of m.name club)) same)

-- `key_view_in` uses only the bookings of the key's member. The key's spent points and the
-- request's booking are the same when they are computed from all bookings of the club.
pub seen_is : OwnBookings → (club : Club) (name : List ℕ) (key : Key) (account : MemberAccount) (request : Request) (moment : ℕ)
    → key_named name club ≡ Some key → Some account ≡ account_named key.member club → key_view_in club name request moment ≡ Some (record {
      key = key;
      view = record {
        key = row_of_key key;
        spent = spent_under key.name club.bookings;
        member = account.member;
        balance = account.balance;
        open_count = count_to_come moment (bookings_of account.member.name club);
        facility = (state_of club (request_slot request)).facility;
        taken = (state_of club (request_slot request)).held.taken;
        closed = (state_of club (request_slot request)).held.closed;
        booking = option_and_then (λ (n : ℕ). booking_under key.name n club.bookings) (request_number request);
      };
    })
seen_is law club name key account request moment named owned =
    let there = found (λ (k : Key). bytes_eq k.name name) club.keys key named in
    let member = accounted club (member_named key.member club) account owned in
    let its = found (λ (m : Member). bytes_eq m.name key.member) club.members account.member member.0 in
    let same : key.member ≡ account.member.name = sym ((bytes_eq-Decides account.member.name key.member).0 its.1) in
    let own = law club key there.0 in
    let spent = rw same at own.spent in
    let booked = rw same at (at_number club key own (request_number request)) in
    rw (named, member.0) cc

pub with_older : (found : Option Key) (row : KeyRow) (older : Option OlderRoot) → Some row ≡ option_map row_of_key found
    → older ≡ option_and_then (λ (k : Key). k.older) found → Some (key_of_row row older) ≡ found
with_older None row older h e = absurd cc
with_older (Some key) row older h e =
    let is : row ≡ row_of_key key = cc in rw (is, e) refl

fails_since : {S A : Type 0} {g : Ghosts S} {old new : Held S} {first : Result A StoreFault} {IsReturned : Club → A → Type 0}
    → ReadsClub g old new first IsReturned → HasCleanDisk (state g new) → (wish : Option Change) (fault : StoreFault) (later : Held S)
    → Fails g wish new fault later → Fails g wish old fault later
fails_since reads clean None fault later it = later_fault clean reads it
fails_since reads clean (Some change) fault later it = change_fault clean reads it

pub reads_sound : {S A : Type 0} {g : Ghosts S} {old new : Held S} {result : Result A StoreFault} {IsReturned : Club → A → Type 0}
    → ReadsClub g old new result IsReturned → ReadsStore (over_connection g) old new result IsReturned
reads_sound {result = result} reads = record {
  was_clean = omega (arith, reads.survives.clean);
  kept = λ clean club others represents. (represents.0, reads.kept clean club others represents.1);
  returned = λ clean club others represents. reads.returns clean club others represents.1;
  failed = λ clean. MatchResult-weaker result (reads.fault clean) (λ _ _. fails_since reads clean) (λ fault is. is);
}

pub change_failed : {S : Type 0} (g : Ghosts S) (change : Change) (old new : Held S) (result : Result (Unit {0}) StoreFault)
    → ChangesClub g change old new result → HasCleanDisk (state g new) → IfErr result (λ fault. Fails g (Some change) old fault new)
change_failed g change old new (Ok done) made clean = tt
change_failed g change old new (Err fault) made clean = record { cause = made.fault clean; error_if_fits = made.fault_if_fits clean }

-- If the current club and all clubs that a crash may leave are sound before a change, the same
-- holds after the change.
pub sound_changes : {S E : Type 0} (g : Ghosts S) (change : Change) (old new : Held S) (result : Result (Unit {0}) E)
    → Changes (represents_in g) change old new result → Changes (sound_in g) change old new result
sound_changes g change old new (Ok done) made = λ club others represents.
    let it = made club others represents.1 in (it.0, (All-cons IsSound (after change club) [] it.0.sound (All-nil IsSound), it.1))
sound_changes g change old new (Err fault) made = λ club others represents.
    let it = made club others represents.1 in (
      λ sound. (
        All-cons IsSound club (after change club ∷ others) (All-head IsSound club others represents.0)
            (All-cons IsSound (after change club) others sound (All-tail IsSound club others represents.0)),
        it.0 sound,
      ),
      λ unfit. (represents.0, it.1 unfit),
    )

-- Every crash leaves exactly the committed contents of the database.
abbrev IsSettled : State → Type 0
IsSettled state = (trees : Trees) → IsTrue state.is_open → state.may_leave trees → trees ≡ state.committed.trees

pub schema_once : (one other : Schema) (trees : Trees) → IsSoundIn one trees → IsSoundIn other trees → one ≡ other
schema_once one other trees p q =
    let read = reads (trees catalog_tree) one p.lists in
    read_once (map cut (trees catalog_tree)) one other read.tables read.indexes read.views (reads (trees catalog_tree) other q.lists)

pub database_once : (one other : Database) → IsDatabase one → IsDatabase other → one.trees ≡ other.trees → one ≡ other
database_once one other p q same =
    let schemas = schema_once one.schema other.schema other.trees (subst (IsSoundIn one.schema) same p) q in
    λ i. record { schema = schemas i; trees = same i }

pub is_database : (db : Database) (club : Club) → HoldsClubAnyVersion db club → IsDatabase db
is_database db club (inl (inl tables)) = tables.holds_rows.database
is_database db club (inl (inr unindexed)) = unindexed.holds_rows.database
is_database db club (inr (inl first)) = first.holds_rows.database
is_database db club (inr (inr blank)) = blank.2

pub left_is_sound : (trees : Trees) (clubs : List Club) → IsLeftOf trees clubs → (schema : Schema) × IsSoundIn schema trees
left_is_sound trees [] left = absurd left
left_is_sound trees (club ∷ clubs) (inl here) = (here.0.schema, subst (IsSoundIn here.0.schema) here.1 (is_database here.0 club here.2))
left_is_sound trees (club ∷ clubs) (inr there) = left_is_sound trees clubs there

module _ (now : State) (opened : Opens now) (live : IsLive now) (settled : IsSettled now) where
  holds_left : (club : Club) → (db : Database) → db.trees ≡ now.committed.trees → HoldsClubAnyVersion db club → HoldsClubAnyVersion now.committed club
  holds_left club db same holds =
      subst (λ (d : Database). HoldsClubAnyVersion d club) (database_once db now.committed (is_database db club holds) (live opened.is_open).1 same) holds

  finds : (club : Club) → HoldsClubAnyVersion now.committed club → IsFound now club []
  finds club holds = record {
    held = λ _ _. holds;
    idle = λ _ _. opened.clean;
    left = λ _ trees may. inl (now.committed, sym (settled trees opened.is_open may), holds);
  }

  pub represents_one : (next : State) → ((club : Club) (others : List Club) → IsFound now club others → Represents next club others)
      → (clubs : List Club) → IsLeftOf now.committed.trees clubs → RepresentsOne next clubs
  represents_one next opens [] left = left
  represents_one next opens (club ∷ clubs) (inl here) = inl (opens club [] (finds club (holds_left club here.0 here.1 here.2)))
  represents_one next opens (club ∷ clubs) (inr there) = inr (represents_one next opens clubs there)

  pub one_found : (next : State) → ((club : Club) (others : List Club) → IsFound now club others → IsFound next club others)
      → (clubs : List Club) → IsLeftOf now.committed.trees clubs → OneIsFound next clubs
  one_found next keeps [] left = left
  one_found next keeps (club ∷ clubs) (inl here) = inl (keeps club [] (finds club (holds_left club here.0 here.1 here.2)))
  one_found next keeps (club ∷ clubs) (inr there) = inr (one_found next keeps clubs there)

pub files_hold : {D : Type 0} {g : DiskGhosts D} (it : FileStore D g) (clubs : List Club) (left : Image) → CrashLeaves it clubs left
    → ∥ HoldsOneOf left clubs ∥₁
files_hold it clubs left crash =
    let sound : AreDatabases (recovers it) = λ trees allowed. left_is_sound trees clubs (crash.one_of crash.clean trees allowed) in
    ∥∥₁_map (opens_again it crash.numbers sound left crash.files) (λ db. let held : HoldsOneOf left clubs = (db.0, db.2, crash.one_of crash.clean db.0 db.1) in
    held)

lists_nothing : {X Y : Type 0} (R : X → Y → Type 0) (ys : List Y) → AllZip R [] ys → ys ≡ []
lists_nothing R [] h = refl
lists_nothing R (y ∷ ys) h = absurd h

unlisted : (schema : Schema) → AreListed [] schema → schema ≡ no_schema
unlisted schema listed = λ i. record {
  tables = lists_nothing IsTableRow schema.tables listed.tables i;
  indexes = lists_nothing (IsIndexRow schema.tables) schema.indexes listed.indexes i;
  views = lists_nothing IsViewRow schema.views listed.views i;
}

blank_if_unlisted : (db : Database) → IsDatabase db → db.trees catalog_tree ≡ [] → HoldsClubAnyVersion db empty_club
blank_if_unlisted db sound none = inr (inr (unlisted db.schema (subst (λ rows. AreListed rows db.schema) none sound.lists.listed), refl, sound))

-- A database that SQLite opened from an empty file contains the empty club. A database without
-- tables counts as the empty club.
pub new_is_blank : (start : Image) (opened : State) → start.db ≡ [] → FindsIn start opened → IsDatabase opened.committed
    → HoldsClubAnyVersion opened.committed empty_club
new_is_blank start opened none found sound = elim found.reads [
  | inl old ↦ absurd (let some = old.3.found.present in omega (arith, some, ap length none))
  | inr new ↦ blank_if_unlisted opened.committed sound new.1.1
]

pub the_one : (state : State) (club : Club) → RepresentsOne state (club ∷ []) → Represents state club []
the_one state club (inl represents) = represents
the_one state club (inr none) = absurd none
