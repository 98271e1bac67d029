-- This file re-exports the names that the proofs in this crate use.
pub use Rattle.std.proofs.Common.{◌≡◌, List, refl, arith, [], sym, ◌∷◌, ◌∙◌, ℕ, subst, inl, inr, map, ap, true, false, Bool, length, ◌≤◌, Some, rules, ◌++◌}
pub use Rattle.std.proofs.Common.{filter, ◌≢◌, cond, ◌+◌, pos, ℤ, IsTrue, ◌<◌, if◌then◌else◌, Option, None, find, Ok, take, ◌==◌, slice_get, All, not}
pub use Rattle.std.proofs.Common.{true≢false, IsPermutation, AllPairs, option_map, Contains, suc, Result, Err, ◌||◌, ◌&&◌, sum_by, get_or, ◌/◌, ◌-◌, zero, ◌^◌}
pub use Rattle.std.proofs.Common.{Less, is_ok, ◌⊎◌, codes, flat_map, slice_index_or, Greater, add-one, Bor, IsSorted, nat_le, subst₂, append-nil, drop, neg_ℤ}
pub use Rattle.std.proofs.Common.{option_and_then, OnOk, OnErr, MatchResult, ◌+ℤ◌, fold, nat_cmp, ◌*◌, nat_lt, IfOk, IfErr, vec_len, vec_capacity, MatchBool}
pub use Rattle.std.proofs.{Common.{min, length-append, Ordering, Vec}, Math.{Bool.{and-true, or-false, or-true, and_comm, and-false}, Path.ap₂, Seq.take-suc}}
pub use Rattle.std.proofs.lemmas.{Bool.{and_parts, false_from_ne_true, lt-ltb, Decides.nat_tests}, Cmp.{nat_list_eq_equiv, tied_itself, ranked, nat_cmp_total}}
pub use Rattle.std.proofs.lemmas.{Cmp.{nat_list_cmp_total, on_total, then_total}, Int.ints, Iterator.Adapters.option_map_id, List.{length-map, map-append}}
pub use Rattle.std.proofs.lemmas.List.{get_or-map, take_more, take_all, Elements.{All-same, recursion_from_All, filter_agree, All-from_recursion, All-push}}
pub use Rattle.std.proofs.lemmas.List.{Elements.{All-contains, All-get_or, All-filter, All-weaker, filter_passes, All-more}, Folds.{find-append, list_any_at}}
pub use Rattle.std.proofs.lemmas.List.{Folds.{list_any-append, list_any_none, list_all-append}, Quantifiers.all_pairs_push, Sorted.IsPermutation-refl}
pub use Rattle.std.proofs.lemmas.List.Sorted.{IsPermutation-cons, IsPermutation-middle, IsPermutation-trans, length_permutation, sum_by-IsPermutation}
pub use Rattle.std.proofs.lemmas.{List.{Sorted.{IsPermutation-map, sorted_far, ranks_by}, Sums.{sum_by-cons, sum_by_push, sum_by_more}}, Result.IfErr-weaker}
pub use Rattle.std.{proofs.lemmas.{Result.{on_err_weaker, IfOk-weaker, on_ok_weaker}, Slice.Eq.bytes_eq-Decides}, specs.Cmp.{unsigned_Decides, IsTotalOrder}}
pub use Rattle.std.specs.{Cmp.{int_cmp_is, Equal-is}, List.{AllByRecursion, list_any, list_all, AllZip, filter_map}, Option.{option_or, option_to_list}}
pub use Rattle.std.specs.{Ordering.{is_gt, is_eq, ordering_reverse, on, then_cmp, is_lt}, Prelude.{unwrap_or, max, is_some}, Str.bytes_eq}
pub use Rattle.std.specs.declared.alloc.Global.{Global}
pub use Rattle.club_core.specs.After.{credited_member, after, cancelled_booking, revoked_key, rotated_key, good_until, debited_member, facility_with_numbers}
pub use Rattle.club_core.specs.{After.{closed_but, member_with_quota, InLimits}, Basis.slot_use, Club.{Club, IsSound, is_key_of, key_named, member_named}}
pub use Rattle.club_core.specs.Club.{facility_named, is_closed, empty_club, bookings_of, older_root_of, booking_under, cost_of, taken_in, is_in, is_under}
pub use Rattle.club_core.specs.{Club.{is_to_come, count_to_come, is_at, most_taken_in}, Office.are_limits, Sheet.{AreRowsOf, is_on}, Store.IsOwnedBy}
pub use Rattle.club_core.specs.{Store.{IsTrueOf, IsToCancel, FitsClub, HasRoot, HasFacility}, declared.change.Change.{Change, TheVariants.InsertMember}}
pub use Rattle.club_core.specs.declared.change.Change.TheVariants.{AddCredit, InsertFacility, InsertKey, MarkRevoked, ReplaceRoot, MarkOpen, ReplaceQuota}
pub use Rattle.club_core.specs.declared.{change.Change.TheVariants.{InsertBooking, MarkCancelled, TakeCredit, ReplaceNumbers}, slot_use.SlotUse.SlotUse}
pub use Rattle.club_core.specs.declared.store.StoreFault.{StoreFault, TheVariants.Storage}
pub use Rattle.club_laws.specs.SoundRuns.{SuitingChangesKeepSound}
pub use Rattle.club_rows.specs.{Columns.truth, Rows.{same_slot, persons_of, row_of_key, credited_limit, places_limit, quota_limit, IsBooking, IsMember}}
pub use Rattle.club_rows.specs.{Rows.IsFacility, declared.{booking.Booking.Booking, facility.Facility.Facility, key.{Key.Key, OlderRoot.OlderRoot}}}
pub use Rattle.club_rows.specs.declared.member.Member.{Member}
pub use Rattle.club_tables.specs.Answers.{IsAfterReadings, IsFirst, IsBookingNamed, reading_statement, IsUse, IsBookingIn, AreCosts, FailsAtReading}
pub use Rattle.club_tables.specs.Answers.{FailsToRead, IsReadFault, Reading, CanRead, OfBooking, OfDay, OfFacility, OfKey, IsKeyIn, OfMember, OfOlderRoot}
pub use Rattle.club_tables.specs.Answers.{OfOpen, IsCount, OfSlot, OfCosts, OfTaken, IsTakenRow, IsMostIn, most_in, AreBookings, ShowsDay, ShowsUse}
pub use Rattle.club_tables.specs.{ChangeStatements.{used_values, statements_of, adding_booking, cancelling, AreStatementsOf, numbers_values}, Columns.whole}
pub use Rattle.club_tables.specs.Columns.{booking_values, key_values, member_values, facility_values, version_values, name_values, slot_values, older_by}
pub use Rattle.club_tables.specs.Columns.{stored_slot_use, row_of, persons_taken, Rows, member_row, SlotRow, OlderRow, no_slot_use, used_by, older_root_values}
pub use Rattle.club_tables.specs.Columns.{HasValues, use_values, older_values, cost_in, IsCostRow, cost_values, IsCostIn, flag, whole_in, IsStoredAs}
pub use Rattle.club_tables.specs.Opening.{HasOrGetsIndex, Understands, index_text, AcceptsTables, HasRunOver, Upgrade, indexed_texts, table_batch, migration}
pub use Rattle.club_tables.specs.Opening.{index_batch, HasNoDesk, IsOpeningBatch, YieldsRows, IsOpeningFault, EnsuresIndex, texts_by_key, first_texts}
pub use Rattle.club_tables.specs.{Opening.{RunsBatch, Opens, FoundReady, OneOf}, ReadsAndChanges.{ReadsClub, ChangesClub, IsChangeFault, IsRunFault}}
pub use Rattle.club_tables.specs.Schema.{unindexed_schema, members_table, facilities_table, keys_table, bookings_table, old_roots_table, desk_table}
pub use Rattle.club_tables.specs.Schema.{first_schema, six_tables, keys_by_member, bookings_by_key, table_of, club_schema, slots_table, no_schema}
pub use Rattle.club_tables.specs.Tables.{without_olders, IsFound, Holds, bookings_tree, keys_tree, HoldsClub, HoldsClubVersion2, HoldsRows, members_tree}
pub use Rattle.club_tables.specs.Tables.{slots_tree, Represents, IsRowOf, HoldsClubVersion1, facilities_tree, olders_tree, RepresentsBy, desk_tree, IsLeftOf}
pub use Rattle.club_tables.specs.Tables.{HoldsTrees, RepresentsVersion1, RepresentsVersion2, HoldsClubAnyVersion, HoldsRowsVersion1, HoldsClubUnindexed}
pub use Rattle.club_tables.specs.{Tables.HoldsRowsWith, Transaction.{IsIdle, MayCommit, fault_by, BoundStatement, transaction_start, IsKept, Ran, IsUnderstood}}
pub use Rattle.club_tables.specs.Transaction.{RanInTurn, Asked, Commits, FailsInTurn, FailsToRun, StopsAt, FailsToPrepare, select, is_given, in_order}
pub use Rattle.club_tables.specs.{Transaction.{IsUntouched, bound_statement}, declared.{row.MemberRow.MemberRow, texts.TheConstants.{TAKE_CREDIT, CHARGE}}}
pub use Rattle.club_tables.specs.declared.texts.TheConstants.{SET_NUMBERS, TAKEN, VERSION, ADD_USED, MAKE_DESK, DROP_BOOKINGS_BY_KEY, OLDER_ROOT, ADD_MEMBER}
pub use Rattle.club_tables.specs.declared.texts.TheConstants.{ADD_FACILITY, ADD_KEY, ADD_BOOKING, CLOSE_SLOT, OPEN_SLOT, SET_QUOTA, ADD_TAKEN, PUT_OLDER_ROOT}
pub use Rattle.club_tables.specs.declared.texts.TheConstants.{CANCEL_BOOKING, ADD_CREDIT, REVOKE_KEY, SET_ROOT, MAKE_MEMBERS, MAKE_FACILITIES, MAKE_KEYS}
pub use Rattle.club_tables.specs.declared.texts.TheConstants.{MAKE_SLOTS, MAKE_BOOKINGS, MAKE_KEYS_BY_MEMBER, MAKE_OLD_ROOTS, MAKE_BOOKINGS_BY_KEY, ADD_VERSION}
pub use Rattle.club_tables.specs.declared.texts.TheConstants.{SET_VERSION, DAY, KEY, MEMBER, FACILITY, SLOT, BOOKING, COSTS_UNDER_KEY, OPEN}
pub use Rattle.club_tables.specs.declared.transaction.Statement.{Statement}
pub use Rattle.club_values.specs.declared.slot.Slot.{Slot}
pub use Rattle.sqlite.specs.Rows.{Written, shown, Task, count_of, stamped, rowids_for, nothing, Upserts, Clears, Puts, Resolves, Tries, TriesEach, Meets}
pub use Rattle.sqlite.specs.{Command.Command, State.{HasCleanDisk, State, Survives, Executes, IsRolledBack, IsTooLate, ExecutesInside, mode_of, Runs, Writes}}
pub use Rattle.sqlite.{proofs.Callers.{command_of, IsPlain, one_permutation, survives_begin, statement_of, reads_as, runs_as, one_step}, specs.Program.overlay}
pub use Rattle.sqlite.specs.{Change.{created, next_tree, is_used, KeepsRows}, Query.{inner, end, Query, counted, key_cmp, IsAnswer, output, Output, output_cmp}}
pub use Rattle.sqlite.specs.{Command.TheVariants.{Update, Insert, CreateIndex, Select, CreateTable, InsertOr}, Term.{Term, col, lit, op2, eval_all, holds, Env}}
pub use Rattle.sqlite.specs.{Effect.{Database, Reads, value_rows, Answers, IsDatabase}, Tree.{Trees, has_rowid, rowid, put_row, IsTable, without_rowid}}
pub use Rattle.sqlite.specs.{Edit.{Edit, edit_of, edited, with_rowid, next_rowid}, Listing.{reads_listing, if_select, IsSourceOf}, declared.error.Error.Error}
pub use Rattle.sqlite.{proofs.StateLemmas.survives_then, specs.{Does.lacks_sequence, Order.{column, Row, value_cmp}, Rowids.TheVariants.{Chosen, Above, Given}}}
pub use Rattle.sqlite.specs.{Cast.{cast_row, cast}, Compile.table_defined_by, Kind.TheVariants.Integer, Source.TheVariants.Values, Steps.FailsToCommit}
pub use Rattle.sqlite.specs.{Held.{state, Held}, Schema.Schema, Store.Ghosts, Table.Table, Values.bound}
pub use Rattle.sqlite_catalog.specs.Change.{indexed}
pub use Rattle.sqlite_resolve.specs.Compile.{index_defined_by}
pub use Rattle.sqlite_rules.proofs.ListLemmas.{all_has, has_kept, has_filtered, has_last, has_contained, has_found, contains_had, all_from, some_has, test_has}
pub use Rattle.sqlite_rules.{proofs.ProbeLemmas.has_mapped, specs.{Action.{works, work_by, pairs, deed_for}, Edit.{taken_by, id_in}, Keys.conflicts}}
pub use Rattle.sqlite_rules.specs.{Keys.AreConflicts, Lists.Has}
pub use Rattle.sqlite_schema.specs.{Rules.parent_key, declared.{command.Returning.Returning, schema.{Column.Column, Index.Index, Keys.TheVariants.Enforced}}}
pub use Rattle.sqlite_sql.specs.{Ops.{is_true, from_truth}, Term.op1, declared.ops.{ArithOp.TheVariants.{Add, Sub, Mul}, BinaryOp.TheVariants.{Compare, Arith}}}
pub use Rattle.sqlite_sql.specs.declared.ops.{CompareOp.TheVariants.{Eq, Gt, Ge, Le}, UnaryOp.TheVariants.Not}
pub use Rattle.sqlite_syntax.specs.declared.statement.Parsed.{Parsed}
pub use Rattle.sqlite_trees.proofs.ListLemmas.{map-map, filter-map, all_weaker, map-flat_map, all_from_map, ascending-map, all-map, flat_map-map}
pub use Rattle.sqlite_trees.proofs.ListLemmas.{flat_map_same_on, ascending-filter, all_of, pull_back, all-permutation, along_permutation, filter_all}
pub use Rattle.sqlite_trees.{proofs.ListLemmas.{filter_same, ascending_from_map, all_both}, specs.Tree.IsAscending}
pub use Rattle.sqlite_value.{proofs.OrderLemmas.{value_cmp-Int, value_cmp_total, value_cmp-Text, then-Equal, value_cmp-Blob}, specs.Keys.{ascending, plain}}
pub use Rattle.sqlite_value.specs.declared.{keys.Collation.TheVariants.Binary, value.Value.{Value, TheVariants.{Int, Text, Null, Blob}}}
unfoldable pub use Rattle.sqlite.specs.{Listing.{understood, listing_schema}, State.{Shown, FailsToQuery, ExecutesIn, IsNotRun}}
unfoldable pub use Rattle.sqlite_sql.specs.Ops.{binary, unary}
unfoldable pub use Rattle.sqlite_tied.specs.Compute.{everything}
unfoldable pub use Rattle.sqlite_value.specs.Keys.{first_key, joined}
