-- Lemmas about the query for the version, and about the statements that create or migrate the
-- tables.
use Rattle.sqlite_ast.specs.declared.Origin.TheVariants as origin
use Rattle.sqlite_ast.specs.declared.Statement.TheVariants as written
use Rattle.club_tables.proofs.Common.{◌≡◌, ℕ, List, [], false, Option, None, Ok, Err, refl, sym, subst, ◌∙◌, true≢false, ◌∷◌, Bool, true, codes, is_ok}
use Rattle.club_tables.proofs.Common.{if◌then◌else◌, option_or, everything, Schema, Row, Reads, understood, reads_listing, listing_schema, if_select}
use Rattle.club_tables.proofs.Common.{IsSourceOf, State, Shown, VERSION, MAKE_DESK, YieldsRows, HasNoDesk, arith, Returning, Parsed, pos, ap, inl, inr, rules}
use Rattle.club_tables.proofs.Common.{Null, Int, Ghosts, Term, lit, col, Values, Insert, Update, Database, ExecutesIn, HasCleanDisk, Survives, Held, state}
use Rattle.club_tables.proofs.Common.{inner, end, Table, IsSound, empty_club, Club, ADD_VERSION, SET_VERSION, DROP_BOOKINGS_BY_KEY, no_schema, desk_table}
use Rattle.club_tables.proofs.Common.{club_schema, unindexed_schema, whole, version_values, table_batch, migration, index_batch, Rows, IsStoredAs, HoldsClub}
use Rattle.club_tables.proofs.Common.{HoldsRows, Holds, HoldsClubVersion1, HoldsRowsVersion1, HoldsTrees, RepresentsVersion1, desk_tree, HoldsClubUnindexed}
use Rattle.club_tables.proofs.Common.{HoldsRowsWith, Represents, RepresentsVersion2, HoldsClubVersion2, Ran, transaction_start, IsKept, IsUnderstood, select}
use Rattle.club_tables.proofs.Common.{BoundStatement, created, members_table, facilities_table, keys_table, slots_table, bookings_table, six_tables}
use Rattle.club_tables.proofs.Common.{old_roots_table, keys_by_member, first_schema, bookings_by_key, MAKE_MEMBERS, MAKE_FACILITIES, MAKE_KEYS, MAKE_SLOTS}
use Rattle.club_tables.proofs.Common.{MAKE_BOOKINGS, MAKE_KEYS_BY_MEMBER, MAKE_OLD_ROOTS, MAKE_BOOKINGS_BY_KEY, without_olders, all_both}
use Rattle.club_tables.proofs.{CrashLemmas.represents_on, UpdateLemmas.{table_created, indexes, inserts, cast_null, cast_int, updates, FindsOne, one_changed}}
use Rattle.club_tables.proofs.{JoinLemmas.{holds_more, holds_none}, SelectLemmas.{answered, shows, Means, but, others_kept, trees_kept, Makes, MakesIndex}}
use Rattle.sqlite_ast.specs.declared.{Core.out-Core, Select.{Select, out-Select}, Source.{Source, out-Source}, Statement.Statement}
use Rattle.sqlite_resolve.specs.Compile.{first, returning, command, meaning, planned, with_command, compiled, is_reserved, creates, is_attached, read}
use Rattle.sqlite_resolve.specs.Program.{source, sources, viewing, single, alone, whole as whole_query, with as with_tables, level, query_to, query}
use Rattle.sqlite_resolve.specs.{Select.{constant_or, parts, named, paging}, Body.{table_in, bound, bounds, body}, Lowering.{Checked, and_then, take_slot}}
use Rattle.sqlite_resolve.specs.declared.{error.CompileError.{CompileError, TheVariants.{NoSuchTable, Unsupported}}, compiled.Compiled.Compiled}
use Rattle.sqlite_schema.specs.{Names.{same_name, table_named, view_named, index_named}, declared.command.Command.{Command, TheVariants.{CreateTable, Nothing}}}

abbrev returned_by : Checked Compiled → Option Returning
returned_by (Ok c) = c.returning
returned_by (Err e) = None

abbrev formats_by : Checked Compiled → List (List ℕ)
formats_by (Ok c) = c.formats
formats_by (Err e) = []

abbrev IsBare : Checked Compiled → Type 0
IsBare r = (returned_by r ≡ None) × (formats_by r ≡ [])

pub version_unlisted : is_ok (if_select (compiled listing_schema VERSION.now)) ≡ false
unfolding listing_schema everything
version_unlisted = refl

abbrev planned_by : List (List ℕ) → ℕ → ℕ → ℕ → List (List ℕ) × (Command × Option Returning) → Compiled
planned_by names start last tail plan =
    record { command = plan.1.0; returning = plan.1.1; names = names; formats = plan.0; start = start; end = last; tail = tail }

commanded : (r : Checked Command) (names : List (List ℕ)) (start last tail : ℕ)
    → IsBare (and_then {A = List (List ℕ) × (Command × Option Returning)} (and_then {A = Command × Option Returning} (and_then r (λ c. Ok (c, None)))
    (λ found. Ok ([], found))) (λ plan. Ok (planned_by names start last tail plan)))
commanded r names start last tail = grind arith

version_bare : (schema : Schema) → IsBare (compiled schema VERSION.now)
unfolding everything
version_bare schema = commanded _ _ _ _ _

version_understood : (schema : Schema) (c : Compiled) → understood schema VERSION.now ≡ Ok c → (reads_listing schema VERSION.now ≡ false) × (c.returning ≡ None)
    × (c.formats ≡ [])
unfolding understood
version_understood schema c h = grind (arith, version_unlisted, version_bare schema)

pub version_answered : (old new : State) (rows : List Row) → Shown VERSION.now [] old new rows → YieldsRows VERSION.now old.now rows
unfolding Shown
version_answered old new rows h =
    let bare = version_understood old.now.schema h.0 h.1.is in
    let it = rw (bare.1, bare.2) at h.2 in
    let db : it.0 ≡ old.now = subst (λ b. IsSourceOf b old.now it.0) bare.0 it.1 in
    (h.0, h.1.is, subst (λ d. Reads h.0.command d [] rows) db it.2)

abbrev compiled_of : Schema → Checked Parsed → Checked Compiled
compiled_of schema r = and_then r (λ p. and_then (planned schema p) (λ plan. Ok (with_command p plan)))

stopped : (shown : Checked (Option Returning)) (e : CompileError) (p : Parsed) (formats : _)
    → is_ok (and_then (and_then (and_then shown (λ s. and_then (Err e) (λ c. Ok (c, s)))) (λ found. Ok (formats, found))) (λ plan. Ok (with_command p plan)))
    ≡ false
stopped shown e p formats = grind arith

unplanned : (schema : Schema) (p : Parsed) (e : CompileError) → ((base : ℕ) → command schema p.formats base p.statement ≡ Err e)
    → is_ok (compiled_of schema (Ok p)) ≡ false
unfolding planned meaning
unplanned schema p e refused = rw (refused _) (stopped (returning schema _ p.statement) e p _)

-- A query of the single table `desk`, without `WITH`, `UNION` or `LIMIT`.
record AsksDesk (s : Select) : Type 0 where
  source : Source
  one : (out-Core (out-Select s).first).from ≡ source ∷ []
  is : (out-Source source).origin ≡ origin.Table (codes "desk")
  withs : (out-Select s).with ≡ []
  others : (out-Select s).others ≡ []
  limit : (out-Select s).limit ≡ None
  offset : (out-Select s).offset ≡ None

abbrev StatesDesk : Statement → Type 0
StatesDesk (written.Select s) = AsksDesk s
StatesDesk _ = ⊥

abbrev ReadsDesk : Checked Parsed → Type 0
ReadsDesk (Ok p) = StatesDesk p.statement
ReadsDesk (Err e) = ⊥

version_reads : ReadsDesk (first VERSION.now)
unfolding everything
version_reads = record { source = _; one = refl; is = refl; withs = refl; others = refl; limit = refl; offset = refl }

module _ (schema : Schema) (tables : table_named schema (codes "desk") ≡ None) (views : view_named schema (codes "desk") ≡ None) where
  not_read : (s : Select) → AsksDesk s → read schema s ≡ Err NoSuchTable
  unfolding
      read query query_to level with_tables whole_query paging constant_or alone single sources source viewing named parts body bounds bound take_slot table_in
  not_read s asks =
      rw (query_to, level, asks.withs, with_tables, whole_query, paging, asks.limit, asks.offset, constant_or, asks.others, alone, asks.one, sources)
      (rw (single, source, asks.is, viewing, named, parts, body, bounds, bound, take_slot, table_in, tables, views) refl)

  not_compiled : (r : Checked Parsed) → ReadsDesk r → is_ok (compiled_of schema r) ≡ false
  unfolding command
  not_compiled (Ok p) reads = unplanned schema p NoSuchTable (λ base. grind (arith, not_read))
  not_compiled (Err e) reads = refl

  version_missing : is_ok (understood schema VERSION.now) ≡ false
  unfolding understood compiled
  version_missing = grind (arith, version_unlisted, not_compiled (first VERSION.now) version_reads)

abbrev makes_where : Bool → Option ℕ → Option ℕ → Checked Command
makes_where kept same other =
    if kept then Err Unsupported else and_then (creates false (codes "desk") same other) (λ is_new. if is_new then Ok CreateTable else Ok Nothing)

clubdesk_commands : (schema : Schema) (base : ℕ) → and_then (first MAKE_DESK.now) (λ p. command schema p.formats base p.statement)
    ≡ makes_where (is_attached schema (codes "desk")) (option_or (table_named schema (codes "desk")) (view_named schema (codes "desk")))
    (index_named schema (codes "desk"))
unfolding everything
clubdesk_commands schema base = refl

made_free : (kept : Bool) (same other : Option ℕ) → is_ok (makes_where kept same other) ≡ true → (same ≡ None) × (other ≡ None)
unfolding creates is_reserved same_name
made_free kept same other h = grind arith

none_of : (a b : Option ℕ) → option_or a b ≡ None → (a ≡ None) × (b ≡ None)
none_of a b h = grind arith

desk_unlisted : is_ok (if_select (compiled listing_schema MAKE_DESK.now)) ≡ false
unfolding listing_schema everything
desk_unlisted = refl

module _ (schema : Schema) where
  is_commanded : (r : Checked Parsed) (c : Checked Command) → ((base : ℕ) → and_then r (λ p. command schema p.formats base p.statement) ≡ c)
      → is_ok (compiled_of schema r) ≡ true → is_ok c ≡ true
  is_commanded r (Ok c) is h = refl
  is_commanded (Ok p) (Err e) is h = absurd (true≢false (sym h ∙ unplanned schema p e is))
  is_commanded (Err e) (Err other) is h = absurd cc

  pub desk_made : is_ok (understood schema MAKE_DESK.now) ≡ true → HasNoDesk schema
  unfolding compiled understood
  desk_made h =
      let made = is_commanded (first MAKE_DESK.now) _ (clubdesk_commands schema) (grind (arith, desk_unlisted)) in
      let free = made_free _ _ _ made in
      let none = none_of _ _ free.0 in
      record { no_desk_name = rw (none.0, none.1, free.1) refl; no_version_query = λ asked. true≢false (sym asked ∙ version_missing schema none.0 none.1) }

abbrev pub MakesEach : Schema → List (List ℕ × Table) → Type 0
MakesEach schema [] = Unit {0}
MakesEach schema (one ∷ more) = Makes schema one.0 one.1 × MakesEach (created schema one.1) more

pub makes_six : MakesEach no_schema ((MAKE_DESK.now, desk_table) ∷ (MAKE_MEMBERS.now, members_table) ∷ (MAKE_FACILITIES.now, facilities_table)
    ∷ (MAKE_KEYS.now, keys_table) ∷ (MAKE_SLOTS.now, slots_table) ∷ (MAKE_BOOKINGS.now, bookings_table) ∷ [])
unfolding understood everything
makes_six = assumption

abbrev pub keys_made : Table
keys_made = record keys_table { tree = 5 }

pub makes_keys_by_member : MakesIndex six_tables MAKE_KEYS_BY_MEMBER.now 3 keys_made keys_by_member
unfolding understood everything
makes_keys_by_member = record { plain = (refl, refl); listed = refl; is = refl; whole = refl; defined = refl }

pub makes_old_roots : Makes first_schema MAKE_OLD_ROOTS.now old_roots_table
unfolding understood everything
makes_old_roots = record { plain = (refl, refl); is = refl; whole = refl; defined = refl; uncounted = refl }

abbrev pub bookings_made : Table
bookings_made = record bookings_table { tree = 9 }

pub makes_bookings_by_key : MakesIndex unindexed_schema MAKE_BOOKINGS_BY_KEY.now 5 bookings_made bookings_by_key
unfolding understood everything
makes_bookings_by_key = record { plain = (refl, refl); listed = refl; is = refl; whole = refl; defined = refl }

pub never_ran : {S : Type 0} {g : Ghosts S} {old : Held S} {db : Database} {text : List ℕ} {more : List BoundStatement} {schema : Schema}
    → Ran g 0 ((text, []) ∷ more) old db → (state g old).now.schema ≡ schema → is_ok (understood schema text) ≡ false → ⊥
unfolding ExecutesIn
never_ran {text = text} ran has refused = true≢false (sym (ap is_ok ran.turns.2.1.is) ∙ ap (λ s. is_ok (understood s text)) has ∙ refused)

-- The index of the bookings can be created only if it doesn't exist, and can be dropped only if it
-- exists.
pub indexes_again : (is_ok (understood club_schema MAKE_BOOKINGS_BY_KEY.now) ≡ false) × (is_ok (understood unindexed_schema DROP_BOOKINGS_BY_KEY.now) ≡ false)
unfolding understood everything
indexes_again = (refl, refl)

pub makes_again : (is_ok (understood club_schema MAKE_DESK.now) ≡ false) × (is_ok (understood unindexed_schema MAKE_DESK.now) ≡ false)
    × (is_ok (understood first_schema MAKE_DESK.now) ≡ false)
unfolding understood everything
makes_again = (refl, refl, refl)

abbrev version_terms : List Term
version_terms = lit Null ∷ lit (Int (pos 2)) ∷ []

version_means : Means club_schema ADD_VERSION.now (Insert 0 (Values version_terms 2))
unfolding understood everything
version_means = record { is = refl; plain = (refl, refl) }

pub empty_is_sound : IsSound empty_club
empty_is_sound = search rules

abbrev no_rows : Rows
no_rows = record { members = []; facilities = []; keys = []; slots = []; bookings = []; olders = [] }

empty_is_stored : IsStoredAs empty_club no_rows
empty_is_stored = search rules

module _ {S : Type 0} (g : Ghosts S) (old : Held S) (db : Database) (ran : Ran g 0 table_batch old db) where
  pub made_tables : (state g old).now.schema ≡ no_schema → HoldsClub db empty_club
  made_tables has =
      let t1 = ran.turns in
      let t2 = t1.3 in
      let t3 = t2.3 in
      let t4 = t3.3 in
      let t5 = t4.3 in
      let t6 = t5.3 in
      let t7 = t6.3 in
      let t8 = t7.3 in
      let t9 = t8.3 in
      let t10 = t9.3 in
      let c1 = table_created makes_six.0 (state g (transaction_start old)) (state g t1.0) has t1.1 t1.2 in
      let c2 = table_created makes_six.1.0 (state g t1.0) (state g t2.0) c1.1 t2.1 t2.2 in
      let c3 = table_created makes_six.1.1.0 (state g t2.0) (state g t3.0) c2.1 t3.1 t3.2 in
      let c4 = table_created makes_six.1.1.1.0 (state g t3.0) (state g t4.0) c3.1 t4.1 t4.2 in
      let c5 = table_created makes_six.1.1.1.1.0 (state g t4.0) (state g t5.0) c4.1 t5.1 t5.2 in
      let c6 = table_created makes_six.1.1.1.1.1.0 (state g t5.0) (state g t6.0) c5.1 t6.1 t6.2 in
      let c7 = indexes makes_keys_by_member (state g t6.0) (state g t7.0) c6.1 t7.1 t7.2 in
      let c8 = table_created makes_old_roots (state g t7.0) (state g t8.0) c7.0 t8.1 t8.2 in
      let c9 = indexes makes_bookings_by_key (state g t8.0) (state g t9.0) c8.1 t9.1 t9.2 in
      let c10 = inserts version_means desk_table refl refl refl (λ row. refl) (state g t9.0) (state g t10.0) c9.0 [] (whole 2 ∷ []) refl
      (rw (cast_null, cast_int (pos 2))) t10.1 t10.2 in
      let kept = c9.1 in
      let desk : (state g t9.0).now.trees 0 ≡ [] = kept.0 ∙ c8.3.0 ∙ c7.1.0 ∙ c6.3.0 ∙ c5.3.0 ∙ c4.3.0 ∙ c3.3.0 ∙ c2.3.0 ∙ c1.2 in
      let members : (state g t9.0).now.trees 1 ≡ [] = kept.1.0 ∙ c8.3.1.0 ∙ c7.1.1.0 ∙ c6.3.1.0 ∙ c5.3.1.0 ∙ c4.3.1.0 ∙ c3.3.1.0 ∙ c2.2 in
      let facilities : (state g t9.0).now.trees 3 ≡ [] = kept.1.1.0 ∙ c8.3.1.1.0 ∙ c7.1.1.1.0 ∙ c6.3.1.1.0 ∙ c5.3.1.1.0 ∙ c4.3.1.1.0 ∙ c3.2 in
      let keys : (state g t9.0).now.trees 5 ≡ [] = kept.1.1.1.0 ∙ c8.3.1.1.1.0 ∙ c7.1.1.1.1.0 ∙ c6.3.1.1.1.0 ∙ c5.3.1.1.1.0 ∙ c4.2 in
      let slots : (state g t9.0).now.trees 7 ≡ [] = kept.1.1.1.1.0 ∙ c8.3.1.1.1.1.0 ∙ c7.1.1.1.1.1.0 ∙ c6.3.1.1.1.1.0 ∙ c5.2 in
      let bookings : (state g t9.0).now.trees 9 ≡ [] = kept.1.1.1.1.1.0 ∙ c8.3.1.1.1.1.1.0 ∙ c7.1.1.1.1.1.1.0 ∙ c6.2 in
      let olders : (state g t9.0).now.trees 12 ≡ [] = kept.1.1.1.1.1.1.0 ∙ c8.2 in
      let others = c10.0.others in
      let before : Holds version_values ((state g t9.0).now.trees 0) [] = holds_none version_values _ desk in
      let holds_rows : HoldsRows (state g t10.0).now no_rows = record {
        schema = c10.0.schema;
        held = record {
          version = subst (λ rows. Holds version_values rows (2 ∷ [])) (sym c10.1) (holds_more version_values _ [] 2 before);
          members = holds_none _ _ (others.1.0 (λ e. omega arith) ∙ members);
          facilities = holds_none _ _ (others.1.1.0 (λ e. omega arith) ∙ facilities);
          keys = holds_none _ _ (others.1.1.1.0 (λ e. omega arith) ∙ keys);
          slots = holds_none _ _ (others.1.1.1.1.0 (λ e. omega arith) ∙ slots);
          bookings = holds_none _ _ (others.1.1.1.1.1.0 (λ e. omega arith) ∙ bookings);
          olders = holds_none _ _ (others.1.1.1.1.1.1.0 (λ e. omega arith) ∙ olders);
        };
        database = c10.0.sound;
      } in
      subst (λ (d : Database). HoldsClub d empty_club) (sym (ran.is ∙ ap (λ h. (state g h).now) t10.3))
      (record { rows = no_rows; holds_rows = holds_rows; storage = empty_is_stored; sound = empty_is_sound })

  pub makes_free : HasNoDesk (state g old).now.schema
  unfolding ExecutesIn
  makes_free = desk_made _ (ap is_ok ran.turns.2.1.is)

-- Lemmas about the migration from version 1 to version 2.

abbrev version_table : Table
version_table = record desk_table { tree = desk_tree }

abbrev second_terms : List Term
second_terms = col 1 0 ∷ col 1 0 ∷ lit (Int (pos 2)) ∷ []

second_means : Means club_schema SET_VERSION.now (Update 0 (record { lets = []; body = select (inner desk_tree end) [] second_terms }))
unfolding understood everything
second_means = record { is = refl; plain = (refl, refl) }

module _ {S : Type 0} (g : Ghosts S) (old : Held S) (db : Database) (ran : Ran g 0 migration old db) where
  migrated_rows : (rows : Rows) → HoldsRowsVersion1 (state g old).now rows → HoldsRows db rows
  migrated_rows rows holds_rows =
      let t1 = ran.turns in
      let t2 = t1.3 in
      let t3 = t2.3 in
      let mid = (state g t2.0).now in
      let c1 = table_created makes_old_roots (state g (transaction_start old)) (state g t1.0) holds_rows.schema t1.1 t1.2 in
      let c2 = indexes makes_bookings_by_key (state g t1.0) (state g t2.0) c1.1 t2.1 t2.2 in
      let put = updates second_means version_table refl {old = state g t2.0} {new = state g t3.0} c2.0 t3.2 in
      let next = (state g t3.0).now in
      let is : db ≡ next = ran.is ∙ ap (λ h. (state g h).now) t3.3 in
      let first = without_olders (state g old).now.trees in
      let made = (state g t1.0).now.trees in
      let was : HoldsTrees 1 mid.trees rows = trees_kept (all_both (λ t. mid.trees t.tree ≡ made t.tree) (λ t. made t.tree ≡ first t.tree)
      (λ t. mid.trees t.tree ≡ first t.tree) (λ t p q. p ∙ q) club_schema.tables c2.1
      (c1.3.0, (c1.3.1.0, (c1.3.1.1.0, (c1.3.1.1.1.0, (c1.3.1.1.1.1.0, (c1.3.1.1.1.1.1.0, (c1.2, tt)))))))) holds_rows.held in
      let one : FindsOne version_values (λ _. true) (λ _. true) (1 ∷ []) (shows [] [] second_terms) (state g t2.0) (state g t3.0) version_table t3.1 =
      record {
        query = select (inner desk_tree end) [] second_terms;
        params = [];
        put = put;
        held = was.version;
        hit = λ _. true;
        hits = λ id n. refl;
        answer = answered [] [] second_terms desk_tree (record { schema = club_schema; trees = mid.trees }) put.rows put.answers;
        wide = λ n passes. passes;
        low = omega arith;
      } in
      let left = one_changed one 1 refl refl (λ _. 2) (λ n fails. absurd cc) (λ id passes. refl) (λ id n. simp cast_int) (λ wrote version.
      let k = trees_kept {new = but desk_tree mid.trees next.trees} (others_kept desk_tree mid.trees next.trees club_schema.tables wrote.others) was in
      let schema = wrote.schema in
      let now : HoldsRows next rows = search rules in
      now) in
      subst (λ (d : Database). HoldsRows d rows) (sym is) left.0

pub holds_first : {S : Type 0} (g : Ghosts S) (old : Held S) (db : Database) → Ran g 0 migration old db → HasCleanDisk (state g old)
    → (club : Club) (others : List Club) → RepresentsVersion1 (state g old) club others → HoldsClub db club
holds_first g old db ran clean club others first =
    let is_open = ran.was_open (omega arith) in
    let it = subst (λ (d : Database). HoldsClubVersion1 d club) (sym (first.idle clean is_open)) (first.held clean is_open) in
    let left = migrated_rows g old db ran it.rows it.holds_rows in
    search rules

-- Lemmas about creating the index of the bookings.

module _ {S : Type 0} (g : Ghosts S) (old : Held S) (db : Database) (ran : Ran g 0 index_batch old db) where
  indexed_rows : (rows : Rows) → HoldsRowsWith unindexed_schema (state g old).now rows → HoldsRows db rows
  indexed_rows rows holds_rows =
      let t1 = ran.turns in
      let c1 = indexes makes_bookings_by_key (state g (transaction_start old)) (state g t1.0) holds_rows.schema t1.1 t1.2 in
      let is : db ≡ (state g t1.0).now = ran.is ∙ ap (λ h. (state g h).now) t1.3 in
      subst (λ (d : Database). HoldsRows d rows) (sym is) (record { schema = c1.0; held = trees_kept c1.1 holds_rows.held; database = c1.2 })

pub holds_second : {S : Type 0} (g : Ghosts S) (old : Held S) (db : Database) → Ran g 0 index_batch old db → HasCleanDisk (state g old)
    → (club : Club) (others : List Club) → RepresentsVersion2 (state g old) club others → HoldsClub db club
holds_second g old db ran clean club others second =
    let is_open = ran.was_open (omega arith) in
    let now = second.idle clean is_open in
    elim (second.held clean is_open) [
      | inl tables ↦ absurd (never_ran ran (ap (λ (d : Database). d.schema) now ∙ tables.holds_rows.schema) indexes_again.0)
      | inr unindexed ↦
          let it = subst (λ (d : Database). HoldsClubUnindexed d club) (sym now) unindexed in
          let left = indexed_rows g old db ran it.rows it.holds_rows in
          search rules
    ]

pub named_represents : {S : Type 0} (g : Ghosts S) (old new : Held S) → IsKept (state g old) (state g new) → Survives (state g old) (state g new) (λ _. ⊥)
    → IsUnderstood (state g old).now.schema DROP_BOOKINGS_BY_KEY.now
    → (club : Club) (others : List Club) → RepresentsVersion2 (state g old) club others → Represents (state g new) club others
named_represents g old new kept quiet named club others second =
    let next = represents_on HoldsClubVersion2 (state g old) (state g new) kept quiet club others second in
    let earlier = λ (clean : HasCleanDisk (state g new)). let e : HasCleanDisk (state g old) = omega (arith, quiet.clean) in e in
    record {
      held = λ clean is_open. elim (next.held clean is_open) [
        | inl tables ↦ tables
        | inr it ↦
            let k = kept clean is_open in
            let same : (state g old).now.schema ≡ unindexed_schema =
            ap (λ (d : Database). d.schema) (second.idle (earlier clean) k.0 ∙ sym k.2) ∙ it.holds_rows.schema in
            absurd (let none = ap (λ s. is_ok (understood s DROP_BOOKINGS_BY_KEY.now)) same ∙ indexes_again.1 in cc)
      ];
      idle = next.idle;
      left = next.left;
    }
