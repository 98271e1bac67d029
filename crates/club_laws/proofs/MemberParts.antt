-- Lemmas about the effect of each kind of change on a member's part of the club, and about a
-- member's keys and credit after a run.
use Rattle.std.proofs.Common.{bytes_eq, Result, Ok, ◌≡◌, ◌≢◌, ℕ, Bool, true, List, [], ◌∷◌, ◌++◌, get_or, map, Option, Some, sym, ◌∙◌, arith, false, cond}
use Rattle.std.proofs.lemmas.List.{Elements.{Contains-push, All-contains, filter-append, All-push, All-map, filter_agree}, Quantifiers.all_pairs_push}
use Rattle.std.proofs.{Common.{filter, None, All, Contains, append-nil, refl, find, AllPairs, ◌&&◌, ◌||◌, ◌+◌}, lemmas.Slice.Eq.bytes_eq-Decides}
use Rattle.std.{proofs.lemmas.{List.Folds.{map_fixed, list_any-append, Any-from_list_any, find-append}, Simd.map-map}, specs.{List.list_any, Str.bytes_eq}}
use Rattle.club_core.specs.declared.change.Change.TheVariants.{TakeCredit, InsertMember, AddCredit, InsertKey, MarkRevoked, ReplaceRoot, ReplaceQuota}
use Rattle.club_core.specs.{After.{debited_member, after, credited_member, revoked_key, rotated_key, cancelled_booking, member_with_quota}, Answer.verdict_in}
use Rattle.club_core.specs.declared.command.{Command.TheVariants.{Debit, AddMember, Credit, SetQuota, AddKey, RevokeKey, RotateKey}, OfficeFault.OfficeFault}
use Rattle.club_core.specs.{Run.{command_outcome, Event, Asked, Commanded, step, after_change, Outcome, replies_of, club_after}, declared.change.Change.Change}
use Rattle.club_core.specs.{Club.{Club, key_named, is_key_of, bookings_of, keys_of, IsSound, member_named}, Request.Words, declared.command.Command.Command}
use Rattle.club_core.specs.{Office.office_verdict, Solo.part_of, declared.{change.Change.TheVariants.{InsertBooking, MarkCancelled}, verdict.Verdict.Verdict}}
use Rattle.club_laws.proofs.AnswerCases.{answer_cases, filter_same, filter_fixed, filter-map, none_passes, AllPairs-head, AllPairs-tail, any-filter, any-map}
use Rattle.club_laws.proofs.AnswerCases.{fresh_differs, only_named, none_named, other_bytes, AllPairs-map, still_there, named_there, found_passes, find-map}
use Rattle.club_laws.specs.{Conservation.{key_given, keys_given, credit_accepted, credits_accepted, debit_accepted, debits_accepted}, Frame.ChangesThePartAlike}
use Rattle.club_laws.specs.Frame.{part_after}
use Rattle.club_rows.specs.declared.{booking.Booking.Booking, key.{Key.Key, OlderRoot.OlderRoot}, member.Member.Member}

-- Whether a key has this name and belongs to this member.
abbrev pub is_own : List ℕ → List ℕ → Key → Bool
is_own member name key = bytes_eq key.member member && bytes_eq key.name name

pub is_key_of-any : (member : List ℕ) (club : Club) (name : List ℕ) → is_key_of member club name ≡ list_any (is_own member name) club.keys
is_key_of-any member club name = any-filter (λ (key : Key). bytes_eq key.name name) (λ (key : Key). bytes_eq key.member member) club.keys

pub is_key_of-added : (member : List ℕ) (club : Club) (key : Key) (name : List ℕ)
    → is_key_of member (record club { keys = club.keys ++ key ∷ [] }) name ≡ (is_key_of member club name || is_own member name key)
is_key_of-added member club key name =
    let more : Club = record club { keys = club.keys ++ key ∷ [] } in
    grind (arith, is_key_of-any member more name, is_key_of-any member club name, list_any-append (is_own member name) club.keys (key ∷ []))

module _ (root : Key → List ℕ) (older : Key → Option OlderRoot) (is_revoked : Key → Bool) where
  -- A key's row after an edit of its root, its older root and its revocation.
  abbrev pub edited : Key → Key
  edited key = record key { root = root key; older = older key; revoked = is_revoked key }

  -- The club after this edit of its keys.
  abbrev pub with_edited : Club → Club
  with_edited club = record club { keys = map edited club.keys }

  pub is_key_of-edited : (member : List ℕ) (club : Club) (name : List ℕ) → is_key_of member (with_edited club) name ≡ is_key_of member club name
  is_key_of-edited member club name =
      is_key_of-any member (with_edited club) name ∙ (any-map edited (is_own member name) club.keys ∙ sym (is_key_of-any member club name))

  pub bookings_of-edited : (member : List ℕ) (club : Club) → bookings_of member (with_edited club) ≡ bookings_of member club
  bookings_of-edited member club = filter_agree _ _ (λ booking. is_key_of-edited member club booking.key) club.bookings

  key_edited : (name : List ℕ) (club : Club) (other : List ℕ) → ((key : Key) → bytes_eq key.name other ≡ false → edited key ≡ key)
      → part_of name (with_edited club)
      ≡ cond (is_key_of name club other) (record (part_of name club) { keys = map edited (keys_of name club) }) (part_of name club)
  key_edited name club other same =
      let bookings = bookings_of-edited name club in
      let fixed = λ (none : is_key_of name club other ≡ false). map_fixed edited (keys_of name club) (λ k d short.
      same _ (none_passes (λ (key : Key). bytes_eq key.name other) (keys_of name club) none k d short)) in
      grind (arith, filter-map edited (λ (key : Key). bytes_eq key.member name) club.keys)

pub bookings_of-added : (member : List ℕ) (club : Club) (key : Key) → All (λ (other : Key). other.name ≢ key.name) club.keys
    → All (λ (booking : Booking). Contains (map (λ (k : Key). k.name) club.keys) booking.key) club.bookings
    → bookings_of member (record club { keys = club.keys ++ key ∷ [] }) ≡ bookings_of member club
bookings_of-added member club key fresh known =
    filter_same _ _ club.bookings
    (λ k d short.
    let name = (get_or club.bookings k d).key in
    let differs = fresh_differs (λ (k : Key). k.name) key.name name club.keys fresh (known k d short) in
    grind (arith, is_key_of-added member club key name, bytes_eq-Decides name key.name, bytes_eq-Decides key.name name))

pub owner : (club : Club) → AllPairs (λ (a : Key) (b : Key). a.name ≢ b.name) club.keys → (key : Key) → key_named key.name club ≡ Some key → (name : List ℕ)
    → is_key_of name club key.name ≡ true → name ≡ key.member
owner club unique key known name e =
    let any = Any-from_list_any (is_own name key.name) club.keys (sym (is_key_of-any name club key.name) ∙ e) in
    let only = only_named (λ (x : Key). x.name) key.name club.keys key unique known any.0 any.1 any.2 in
    grind (arith, bytes_eq-Decides any.1.member name, any.3, any.4)

abbrev pub is_named : List ℕ → Member → Bool
is_named name member = bytes_eq member.name name

abbrev pub is_owned : List ℕ → Key → Bool
is_owned name key = bytes_eq key.member name

abbrev pub has_name : List ℕ → Key → Bool
has_name name key = bytes_eq key.name name

-- Whether a booking was made under a key in this list.
abbrev pub is_under_one : List Key → Booking → Bool
is_under_one keys booking = list_any (has_name booking.key) keys

-- Each booking was made under a key of the club.
abbrev pub HasKnownKeys : Club → Type 0
HasKnownKeys club = All (λ (booking : Booking). Contains (map (λ (key : Key). key.name) club.keys) booking.key) club.bookings

-- A member's row after an edit of its credit and its quota.
abbrev pub edited_member : (Member → ℕ) → (Member → ℕ) → Member → Member
edited_member credited quota member = record member { credited = credited member; quota = quota member }

member_edited : (credited quota : Member → ℕ) (name : List ℕ) (club : Club) (other : List ℕ)
    → ((member : Member) → bytes_eq member.name other ≡ false → edited_member credited quota member ≡ member)
    → part_of name (record club { members = map (edited_member credited quota) club.members })
    ≡ cond (bytes_eq other name) (record (part_of name club) { members = map (edited_member credited quota) (filter (is_named name) club.members) })
    (part_of name club)
member_edited credited quota name club other same =
    let edit = edited_member credited quota in
    let members = filter (is_named name) club.members in
    let fixed : bytes_eq other name ≡ false → map edit members ≡ members =
    λ e. filter_fixed (is_named name) edit (λ member f.
    same member (grind (arith, bytes_eq-Decides member.name name, bytes_eq-Decides member.name other))) club.members in
    grind (arith, filter-map edit (is_named name) club.members)

-- A key that the change adds has a new name.
abbrev pub IsFresh : Club → Change → Type 0
IsFresh club (InsertKey key) = key_named key.name club ≡ None
IsFresh club change = Unit {0}

pub part_changed : (name : List ℕ) (club : Club) (change : Change) → HasKnownKeys club → IsFresh club change
    → part_of name (after change club) ≡ part_after name club change
part_changed name club (InsertMember member) known fresh =
    grind (arith, filter-append (is_named name) club.members (member ∷ []), append-nil (filter (is_named name) club.members))
part_changed name club (AddCredit other points) known fresh =
    member_edited (λ member. (credited_member other points member).credited) (λ member. member.quota) name club other (λ member e. grind arith)
part_changed name club (TakeCredit other points) known fresh =
    member_edited (λ member. (debited_member other points member).credited) (λ member. member.quota) name club other (λ member e. grind arith)
part_changed name club (ReplaceQuota other quota) known fresh =
    member_edited (λ member. member.credited) (λ member. (member_with_quota other quota member).quota) name club other (λ member e. grind arith)
part_changed name club (InsertKey key) known fresh =
    let bookings = bookings_of-added name club key (none_named (λ (k : Key). k.name) key.name club.keys fresh) known in
    grind (arith, filter-append (is_owned name) club.keys (key ∷ []), append-nil (keys_of name club))
part_changed name club (MarkRevoked other) known fresh =
    key_edited (λ key. key.root) (λ key. key.older) (λ key. (revoked_key other key).revoked) name club other (λ key e. grind arith)
part_changed name club (ReplaceRoot other former root until) known fresh =
    let edit = rotated_key other root until in
    key_edited (λ key. (edit key).root) (λ key. (edit key).older) (λ key. key.revoked) name club other (λ key e. grind arith)
part_changed name club (InsertBooking booking member) known fresh =
    grind (arith, filter-append (is_under_one (keys_of name club)) club.bookings (booking ∷ []), append-nil (bookings_of name club))
part_changed name club (MarkCancelled booking member refund) known fresh =
    let edit = cancelled_booking booking.key booking.number refund in
    let own = is_under_one (keys_of name club) in
    let fixed : own booking ≡ false → map edit (filter own club.bookings) ≡ filter own club.bookings =
    λ e. filter_fixed own edit (λ other f. grind (arith, bytes_eq-Decides other.key booking.key)) club.bookings in
    grind (arith, filter-map edit own club.bookings)
part_changed name club change known fresh = refl

-- The properties of a club that the lemmas about members' parts need.
pub record IsKeyed (club : Club) : Type 0 where
  pub unique : AllPairs (λ (a : Key) (b : Key). a.name ≢ b.name) club.keys
  pub known : HasKnownKeys club

pub keyed_from_sound : (club : Club) → IsSound club → IsKeyed club
keyed_from_sound club sound = record { unique = sound.unique.keys; known = sound.references.bookings }

keyed_edited : (root : Key → List ℕ) (older : Key → Option OlderRoot) (is_revoked : Key → Bool) (club : Club) → IsKeyed club
    → IsKeyed (with_edited root older is_revoked club)
keyed_edited root older is_revoked club keyed =
    let new = with_edited root older is_revoked club in
    let known : HasKnownKeys new = rw (map-map (λ (key : Key). key.name) (edited root older is_revoked) club.keys) keyed.known in
    record { unique = AllPairs-map (edited root older is_revoked) (λ (a : Key) (b : Key). a.name ≢ b.name) club.keys keyed.unique; known = known }

pub fresh_by_command : (club : Club) (command : Command) (change : Change) → office_verdict club command ≡ Ok (Some change) → IsFresh club change
fresh_by_command club command (InsertKey key) e = grind arith
fresh_by_command club command change e = tt

pub keyed_step : (club : Club) (event : Event) → IsKeyed club → IsKeyed (step club event).club
keyed_step club (Asked words moment) keyed =
    answer_cases (λ (v : Verdict). IsKeyed (after_change v.change club)) club words moment (record {
      silent = λ reply h. keyed;
      repeats_booking = λ key member slot number guests booking k e found same. keyed;
      books = λ key member slot number guests facility k e b. search (All-push, named_there);
      cancels_recorded = λ key member slot number booking k e found same before. keyed;
      cancels = λ key member slot number booking k e c. search All-map;
    })
keyed_step club (Commanded command) keyed = go (office_verdict club command) refl
  where
    go : (v : Result (Option Change) OfficeFault) → office_verdict club command ≡ v → IsKeyed (command_outcome club command v).club
    go (Ok (Some (InsertKey key))) e =
        let fresh = none_named (λ (k : Key). k.name) key.name club.keys (fresh_by_command club command (InsertKey key) e) in
        record {
          unique = all_pairs_push (λ (a : Key) (b : Key). a.name ≢ b.name) club.keys key keyed.unique fresh;
          known = λ k d short. still_there (λ (other : Key). other.name) club.keys key _ (keyed.known k d short);
        }
    go (Ok (Some (MarkRevoked name))) e = keyed_edited (λ key. key.root) (λ key. key.older) (λ key. (revoked_key name key).revoked) club keyed
    go (Ok (Some (ReplaceRoot name former root until))) e =
        keyed_edited (λ key. (rotated_key name root until key).root) (λ key. (rotated_key name root until key).older) (λ key. key.revoked) club keyed
    go (Ok (Some (InsertBooking booking member))) e = absurd (grind arith)
    go (Ok (Some (MarkCancelled booking member refund))) e = search All-map
    go v e = assumption

pub pushed_fresh : (keys : List Key) (new : Key) → AllPairs (λ (a : Key) (b : Key). a.name ≢ b.name) (keys ++ new ∷ []) → find (has_name new.name) keys ≡ None
pushed_fresh [] new unique = refl
pushed_fresh (key ∷ keys) new unique =
    let HasOther : Key → Key → Type 0 = λ a b. a.name ≢ b.name in
    let others = AllPairs-head HasOther key (keys ++ new ∷ []) unique in
    let differs = All-contains (HasOther key) (keys ++ new ∷ []) new others (Contains-push keys new) in
    rw (other_bytes key.name new.name differs) (pushed_fresh keys new (AllPairs-tail HasOther key (keys ++ new ∷ []) unique))

pub fresh_from_sound : (club : Club) (change : Change) → IsSound (after change club) → IsFresh club change
fresh_from_sound club (InsertKey key) sound = pushed_fresh club.keys key sound.unique.keys
fresh_from_sound club change sound = tt

pub changes_the_part_alike : ChangesThePartAlike
changes_the_part_alike name club change sound sound_after =
    part_changed name club change (keyed_from_sound club sound).known (fresh_from_sound club change sound_after)

-- The two clubs have the same keys and the same members.
pub record KeepsPeople (club new : Club) : Type 0 where
  pub keys : new.keys ≡ club.keys
  pub members : new.members ≡ club.members

answer_keeps : (club : Club) (words : Words) (moment : ℕ) → KeepsPeople club (after_change (verdict_in club words moment).change club)
answer_keeps club words moment = answer_cases (λ (v : Verdict). KeepsPeople club (after_change v.change club)) club words moment (grind arith)

abbrev pub is_among : List (List ℕ) → List ℕ → Bool
is_among keys key = list_any (λ (k : List ℕ). bytes_eq k key) keys

module _ (member : List ℕ) where
  -- The event adds to the member's keys the key that the event gives.
  abbrev Gives : List ℕ → Club → Event → Outcome → Type 0
  Gives key club event next = is_key_of member next.club key ≡ (is_key_of member club key || is_among (key_given member event next.reply) key)

  keys_of_step : (club : Club) (key : List ℕ) (event : Event) → Gives key club event (step club event)
  keys_of_step club key (Asked words moment) = let kept = (answer_keeps club words moment).keys in grind arith
  keys_of_step club key (Commanded (AddKey name owner root)) =
      grind (arith, is_key_of-added member club (record { name = name; member = owner; root = root; older = None; revoked = false }) key)
  keys_of_step club key (Commanded (RevokeKey name)) =
      grind (arith, is_key_of-edited (λ row. row.root) (λ row. row.older) (λ row. (revoked_key name row).revoked) member club key)
  keys_of_step club key (Commanded (RotateKey name root until)) =
      let edit = rotated_key name root until in
      grind (arith, is_key_of-edited (λ row. (edit row).root) (λ row. (edit row).older) (λ row. row.revoked) member club key)
  keys_of_step club key (Commanded command) = grind arith

  pub keys_of_run : (club : Club) (key : List ℕ) (events : List Event) → is_key_of member (club_after club events) key
      ≡ (is_key_of member club key || is_among (keys_given member events (replies_of club events)) key)
  keys_of_run club key [] = grind arith
  keys_of_run club key (event ∷ events) =
      let next = step club event in
      let given = key_given member event next.reply in
      let later = keys_given member events (replies_of next.club events) in
      grind (arith, keys_of_run next.club key events, keys_of_step club key event, list_any-append (λ (k : List ℕ). bytes_eq k key) given later)

-- The points credited to a member, or 0 if there is no member.
abbrev pub credit_of : Option Member → ℕ
credit_of None = 0
credit_of (Some member) = member.credited

module _ (name : List ℕ) where
  -- The event changes the member's credit by the credit and the debit that the reply accepts.
  abbrev Credits : Club → Event → Outcome → Type 0
  Credits club event next = credit_of (member_named name next.club) + debit_accepted name event next.reply
      ≡ credit_of (member_named name club) + credit_accepted name event next.reply

  credit_of_step : (club : Club) (event : Event) → Credits club event (step club event)
  credit_of_step club (Asked words moment) = let kept = (answer_keeps club words moment).members in grind arith
  credit_of_step club (Commanded (AddMember other quota)) =
      let new : Member = record { name = other; credited = 0; quota = quota } in
      grind (arith, find-append (λ (m : Member). bytes_eq m.name name) club.members (new ∷ []))
  credit_of_step club (Commanded (Credit other points)) =
      grind (arith, find-map (is_named name) (credited_member other points) (λ m. refl) club.members, found_passes, bytes_eq-Decides)
  credit_of_step club (Commanded (Debit other points)) =
      grind (arith, find-map (is_named name) (debited_member other points) (λ m. refl) club.members, found_passes, bytes_eq-Decides)
  credit_of_step club (Commanded (SetQuota other quota)) = grind (arith, find-map (is_named name) (member_with_quota other quota) (λ m. refl) club.members)
  credit_of_step club (Commanded command) = grind arith

  pub credit_of_run : (club : Club) (events : List Event) → credit_of (member_named name (club_after club events))
      + debits_accepted name events (replies_of club events) ≡ credit_of (member_named name club) + credits_accepted name events (replies_of club events)
  credit_of_run club [] = omega arith
  credit_of_run club (event ∷ events) =
      let next = step club event in
      let rest = credit_of_run next.club events in
      let first = credit_of_step club event in omega arith
