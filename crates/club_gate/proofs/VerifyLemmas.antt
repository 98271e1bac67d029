-- Lemmas for the proof that the desk reads enough rows and returns the right verdict on a text.
-- They are about the key under which a pass is signed, and about the caveats in its fields.
use Rattle.club_core.specs.declared.request.Request.TheVariants as asked
use Rattle.pass_forms.specs.declared.field_source.Field.TheVariants as fields
use Rattle.std.proofs.Common.{cond, not, suc, zero, Contains, find, option_map, sum_by, ◌-◌, ◌≢◌, is_some, option_and_then, if◌then◌else◌, Bor, min, ◌+◌, ◌<◌}
use Rattle.std.{proofs.{Common.{◌^◌, ◌↔◌}, lemmas.{List.Elements.All-contains, Slice.Eq.bytes_eq-Decides}}, specs.Option.option_or}
use Rattle.base64.specs.GeneralPurpose.{IsBytes}
use Rattle.club_core.specs.{Answer.{answer_by_view, ask_of, owed_at}, Basis.{account_named, Basis, slot_use, state_of, view_in, view_of}, Club.booking_under}
use Rattle.club_core.specs.{Club.{bookings_of, key_named, member_named, cost_of, spent_under, count_to_come}, Laws.{OwnBookings, bare_view, books_anew}}
use Rattle.club_core.specs.{Request.{request_number, request_slot, is_signed_under}, Verdict.{first_of, line_if}, declared.account.MemberAccount.MemberAccount}
use Rattle.club_core.specs.declared.{request.Request.Request, verdict.Verdict.Verdict, view.View.View}
use Rattle.club_gate.proofs.Common.{Bool, List, Option, Some, [], ap, arith, false, map, refl, sym, true, ℕ, ◌∙◌, ◌∷◌, ◌≡◌, Club, Err, IsSound, Ok, Plain}
use Rattle.club_gate.proofs.Common.{bytes_eq, verdict_in, subst, ◌≤◌, Form, IfOk, Result, length, StoreFault, pass_fields, reading, reading_in_form, None, inl}
use Rattle.club_gate.{proofs.Common.{inr, ◌++◌}, specs.{DecodedPass.key_in, Served.IsJson, Verify.{IsOnRecord, signer_of, AgreesOnRecord, IsBlindPass}}}
use Rattle.club_gate.specs.computed.DecodedPass.{machine_pass}
use Rattle.club_laws.specs.{Conservation.{AccountsShowWhatIsUsed, SpendsWithinItsMember}, SingleRequest.words_with}
use Rattle.club_rows.specs.{Rows.row_of_key, declared.{key.{Key.Key, KeyRow.KeyRow}, member.Member.Member}}
use Rattle.club_values.specs.{Number.Reads, declared.{kind.Kind.Kind, slot.Slot.Slot}}
use Rattle.pass_caveats.specs.{Caveat.Understood, Fault.{first_fault_of, IsFaultAt, first_fault_from, IsBlindToKind, at_kind}, Laws.FindsTheFaultAt}
use Rattle.pass_caveats.specs.{Laws.ReadsWhatIsUnderstood, Spending.after_spending, computed.CaveatOf.caveat_of, declared.{ask.Ask.Ask, caveat.Caveat.Caveat}}
use Rattle.pass_caveats.specs.declared.fault.CaveatFault.{CaveatFault}
use Rattle.pass_forms.specs.{Envelope.IsUnwrapped, FieldSource.{PassField, as_field, caveat_field, signature_field}, Laws.ReadsExactly, Reading.IsReadAs}
use Rattle.pass_forms.specs.{Reading.max_text_len, V1.SpellsV1, V2.SpellsV2, computed.{Reading.in_form, V1Reading.reading_v1, V2Reading.reading_v2}}
use Rattle.pass_forms.specs.declared.{fault.FormFault.FormFault, field_source.Field.Field, form.Form.TheVariants.{V1, V2, Json}}
use Rattle.pass_json.specs.{AnyForm.{IsReadingInForm, SpellsForm}, Json.SpellsJson, Laws.{ReadsAnyFormExactly, ReadsWhatIsWrapped}}
use Rattle.pass_json.specs.computed.JsonReading.{reading_json}

pub found : {X : Type 0} (p : X → Bool) (xs : List X) (x : X) → find p xs ≡ Some x → Contains xs x × (p x ≡ true)
found p [] x h = absurd (cc)
found {X} p (y ∷ xs) x h = go (p y) refl (λ e. found p xs x e) h
  where
    go : (b : Bool) → p y ≡ b → (find p xs ≡ Some x → Contains xs x × (p x ≡ true)) → cond b (Some y) (find p xs) ≡ Some x → Contains (y ∷ xs) x × (p x ≡ true)
    go true passes more e = let same : y ≡ x = cc in ((0, omega arith, same), ap p (sym same) ∙ passes)
    go false fails more e = let later = more e in ((suc later.0.0, omega (arith, later.0.1), later.0.2), later.1)

pub named : (club : Club) (name : List ℕ) (key : Key) → key_named name club ≡ Some key → key.name ≡ name
named club name key e = (bytes_eq-Decides key.name name).0 (found (λ (k : Key). bytes_eq k.name name) club.keys key e).1

or_first : (test : Bool) (member : Member) (others : Option Member) → (found : Member) × (others ≡ Some found)
    → (found : Member) × (cond test (Some member) others ≡ Some found)
or_first true member others rest = (member, refl)
or_first false member others rest = rest

member_there : (members : List Member) (name : List ℕ) → Contains (map (λ (m : Member). m.name) members) name
    → (found : Member) × (find (λ (m : Member). bytes_eq m.name name) members ≡ Some found)
member_there [] name h = absurd (omega (arith, h.1))
member_there (member ∷ members) name (zero, short, same) = (member, rw ((bytes_eq-Decides member.name name).1 same) refl)
member_there (member ∷ members) name (suc k, short, same) = grind (arith, or_first, member_there members name (k, omega arith, same))

among : (club : Club) (name : List ℕ) (key : Key) → key_named name club ≡ Some key → Contains club.keys key
among club name key row = (found (λ (k : Key). bytes_eq k.name name) club.keys key row).0

pub member_of : (club : Club) (name : List ℕ) (key : Key) → IsSound club → key_named name club ≡ Some key
    → (member : Member) × (member_named key.member club ≡ Some member)
member_of club name key sound row =
    let P : Key → Type 0 = λ k. Contains (map (λ (m : Member). m.name) club.members) k.member in
    member_there club.members key.member (All-contains P club.keys key sound.references.keys (among club name key row))

-- The club has the key's member, and the bookings of this member include all bookings of the key.
pub record IsOwned (club : Club) (key : Key) : Type 0 where
  pub member : Member
  pub is : member_named key.member club ≡ Some member
  pub spent : spent_under key.name (bookings_of member.name club) ≡ spent_under key.name club.bookings
  pub booking : (number : ℕ) → booking_under key.name number (bookings_of member.name club) ≡ booking_under key.name number club.bookings

pub owner : OwnBookings → (club : Club) (name : List ℕ) (key : Key) → IsSound club → key_named name club ≡ Some key → IsOwned club key
owner own club name key sound row =
    let has = member_of club name key sound row in
    let passes = (found (λ (m : Member). bytes_eq m.name key.member) club.members has.0 has.1).1 in
    let same : has.0.name ≡ key.member = (bytes_eq-Decides has.0.name key.member).0 passes in
    let its = own club key (among club name key row) in
    record { member = has.0; is = has.1; spent = rw same its.spent; booking = rw same its.booking }

pub key_there : (club : Club) (identifier : List ℕ) (key : Key) → key_in club identifier ≡ Some key → key_named key.name club ≡ Some key
key_there club identifier key e = grind (arith, named)

-- The row belongs to the key that the pass names, and the pass is signed under this key.
pub record IsSigner (club : Club) (pass : Plain) (moment : ℕ) (row : KeyRow) : Type 0 where
  pub key : Key
  pub is : key_in club pass.identifier ≡ Some key
  pub signed : is_signed_under (machine_pass pass) key moment ≡ true
  pub row_is : row ≡ row_of_key key

-- Returns `unsigned` if the pass isn't signed, `refused` if the key is revoked, and `last`
-- otherwise.
abbrev pub by_tests : {A : Type 0} → Bool → Bool → A → A → A → A
by_tests is_signed revoked unsigned refused last = first_of (line_if (not is_signed) unsigned ∷ line_if revoked refused ∷ []) last

pub is_signer : (club : Club) (pass : Plain) (moment : ℕ) (row : KeyRow) → signer_of pass moment (key_in club pass.identifier) ≡ Ok row
    → IsSigner club pass moment row
is_signer club pass moment row e = grind arith

pub on_record : (club : Club) (pass : Plain) (moment : ℕ) (row : KeyRow) → signer_of pass moment (key_in club pass.identifier) ≡ Ok row → IsOnRecord club row
on_record club pass moment row e =
    let its = is_signer club pass moment row e in
    (its.key, key_there club pass.identifier its.key its.is, its.row_is)

pub spent_within : SpendsWithinItsMember → AccountsShowWhatIsUsed → (club : Club) (row : KeyRow) (account : MemberAccount) (used most : ℕ) → IsSound club
    → IsOnRecord club row → account_named row.member club ≡ Some account → used ≡ account.member.credited - account.balance → used ≤ most
    → spent_under row.name club.bookings ≤ most
spent_within spends shows club row account used most sound on e u less =
    let key = on.0 in
    let there = (found (λ (k : Key). bytes_eq k.name key.name) club.keys key on.1).0 in
    let P : KeyRow → Type 0 = λ r. spent_under r.name club.bookings ≤ sum_by cost_of (bookings_of r.member club) in
    let some : P row = subst P (sym on.2) (spends club key there) in
    let all = shows club row.member account sound e in
    omega (arith, some, all, u, less)

abbrev IsVerdict : Result Verdict StoreFault → Verdict → Type 0
IsVerdict result verdict = IfOk result (λ found. found ≡ verdict)

pub text_fault : (form : Form) (read : Result Plain FormFault) (text : List ℕ) (fault : FormFault)
    → reading text ≡ in_form form read → reading text ≡ Err fault → read ≡ Err fault
text_fault form read text fault wrapped e = grind arith

with_its_form : (form : Form) (bytes : List ℕ) (read : Result Plain FormFault) → IsReadAs (length bytes) (SpellsForm form bytes) read
    → IsReadingInForm form bytes (in_form form read)
with_its_form form bytes read h = grind arith

module _ (packets : ReadsExactly SpellsV1 reading_v1) (sections : ReadsExactly SpellsV2 reading_v2) (json : ReadsExactly SpellsJson reading_json) where
  reads_in : (form : Form) (bytes : List ℕ) → IsReadAs (length bytes) (SpellsForm form bytes) (reading_in_form form bytes)
  reads_in V1 bytes = (packets bytes (reading_v1 bytes)).1 refl
  reads_in V2 bytes = (sections bytes (reading_v2 bytes)).1 refl
  reads_in Json bytes = (json bytes (reading_json bytes)).1 refl

  pub read_wrapped : ReadsAnyFormExactly → ReadsWhatIsWrapped → (text : List ℕ) (form : Form) (bytes : List ℕ) → IsBytes text
      → IsUnwrapped text (Ok (form, bytes)) → length bytes ≤ max_text_len → reading text ≡ in_form form (reading_in_form form bytes)
  read_wrapped texts wrapped text form bytes are content short =
      let answer = in_form form (reading_in_form form bytes) in
      let read = with_its_form form bytes (reading_in_form form bytes) (reads_in form bytes) in
      (texts text answer are).0 ((wrapped text bytes form answer content short).1 read)

json_in : (text : List ℕ) (form : Form) (bytes : List ℕ) → IsUnwrapped text (Ok (form, bytes)) → form ≡ Json → IsUnwrapped text (Ok (Json, bytes))
json_in text form bytes h json = subst (λ (f : Form). IsUnwrapped text (Ok (f, bytes))) json h

pub other_form : (text : List ℕ) (form : Form) (bytes : List ℕ) → IsUnwrapped text (Ok (form, bytes)) → ¬ IsJson text → form ≢ Json
other_form text form bytes h in_place json = in_place (bytes, json_in text form bytes h json)

-- The view after setting `taken` and `closed` to the slot's values.
abbrev pub with_slot : Club → Slot → View → View
with_slot club slot view = record view { taken = (slot_use club slot).taken; closed = (slot_use club slot).closed }

-- The view after adding a member's row, balance and number of open bookings.
abbrev pub with_account : Club → ℕ → View → MemberAccount → View
with_account club moment view account = record view {
  member = account.member;
  balance = account.balance;
  open_count = count_to_come moment (bookings_of account.member.name club);
}

-- The view after adding the row, balance and number of open bookings of the key's member. The
-- result is `None` if the club has no such member.
abbrev pub with_member : Club → ℕ → View → Option View
with_member club moment view = option_map (with_account club moment view) (account_named view.key.member club)

-- The view after adding a member's row, balance and number of open bookings, and the points that
-- the key has spent.
abbrev pub with_all : Club → ℕ → View → MemberAccount → View
with_all club moment view account = record (with_account club moment view account) { spent = spent_under view.key.name club.bookings }

abbrev pub with_sums : Club → ℕ → View → Option View
with_sums club moment view = option_map (with_all club moment view) (account_named view.key.member club)

-- The view after adding the rows and sums that the decision depends on:
-- - A request to view a slot needs the slot's values (`with_slot`).
-- - A new booking needs the slot's values and the member's values (`with_account`).
-- - A request for the account needs the member's values and the points that the key has spent.
-- - Other requests need no more rows or sums.
abbrev pub last_view : Club → Request → ℕ → View → Option View
last_view club (asked.View slot) moment view = Some (with_slot club slot view)
last_view club (asked.Book slot number guests) moment view = if books_anew view then with_member club moment (with_slot club slot view) else Some view
last_view club (asked.Cancel slot number) moment view = Some view
last_view club asked.Account moment view = with_sums club moment view

module _ (club : Club) (key : Key) (moment : ℕ) (its : IsOwned club key) where
  -- The view of a request under the key, with all rows and sums.
  abbrev whole : Request → View
  whole request =
      let bookings = bookings_of its.member.name club in
      let basis : Basis = record { key = key; member = its.member; bookings = bookings; state = state_of club (request_slot request) } in
      view_of basis request moment

  seen : (request : Request) (name : List ℕ) → key_named name club ≡ Some key → view_in club name request moment ≡ Some (whole request)
  seen request name row = rw (row, its.is) refl

  abbrev its_fault : Plain → Request → Option CaveatFault
  its_fault pass request = first_fault_of (map caveat_of pass.caveats) (ask_of (whole request) request moment)

  answered : (pass : Plain) (request : Request) → key_in club pass.identifier ≡ Some key → verdict_in club (words_with (machine_pass pass) request) moment
      ≡ answer_by_view (Some (whole request)) (is_signed_under (machine_pass pass) key moment) (its_fault pass request) request moment
  answered pass request is = rw (is, its.is) refl

  at_number : (number : Option ℕ) → option_and_then (λ (n : ℕ). booking_under key.name n club.bookings) number
      ≡ option_and_then (λ (n : ℕ). booking_under key.name n (bookings_of its.member.name club)) number
  at_number number = grind arith

  module _ (pass : Plain) (request : Request) (view : View) (agrees : AgreesOnRecord club (row_of_key key) pass request view) where
    booked : view.booking ≡ (whole request).booking
    booked = agrees.booking_is ∙ at_number (request_number request)

    decides : answer_by_view (last_view club request moment view) true None request moment ≡ answer_by_view (Some (whole request)) true None request moment
    decides = grind arith

    same_fault : first_fault_of (map caveat_of pass.caveats) (after_spending (spent_under key.name club.bookings) (ask_of view request moment))
        ≡ its_fault pass request
    same_fault = elim agrees.facility_is [
      | inl same ↦ rw (same, booked, its.spent) refl
      | inr (blind, some, none) ↦
          let owed : owed_at request (is_some view.booking) view.facility ≡ 0 = rw some (grind arith) in
          let its_owed : owed_at request (is_some (whole request).booking) (whole request).facility ≡ 0 =
          rw (← booked, some) (grind arith)
          in
          rw (owed, none, its_owed, its.spent) (rw (its_owed, its.spent) at (blind (ask_of (whole request) request moment) None))
    ]

pub last_reads : OwnBookings → (club : Club) (request : Request) (moment : ℕ) (view : View) (found : Option View) → IsSound club
    → found ≡ last_view club request moment view → (pass : Plain) (row : KeyRow) → IsOnRecord club row → AgreesOnRecord club row pass request view
    → answer_by_view found true None request moment ≡ answer_by_view (view_in club row.name request moment) true None request moment
last_reads own club request moment view found sound e pass row (key, named, is) agrees =
    let its = owner own club key.name key sound named in
    rw (e, is, seen club key moment its request key.name named) (decides club key moment its pass request view (rw is at agrees))

pub verdict_read : OwnBookings → (club : Club) (row : KeyRow) (moment : ℕ) (pass : Plain) (request : Request) (view : View) (fault : Option CaveatFault)
    → IsSound club → signer_of pass moment (key_in club pass.identifier) ≡ Ok row → AgreesOnRecord club row pass request view
    → fault ≡ first_fault_of (map caveat_of pass.caveats) (after_spending (spent_under row.name club.bookings) (ask_of view request moment))
    → (verdict_in club (words_with (machine_pass pass) request) moment ≡ answer_by_view (view_in club row.name request moment) true fault request moment)
    × (is_some fault ≡ true → answer_by_view (Some view) true fault request moment
    ≡ answer_by_view (view_in club row.name request moment) true fault request moment)
verdict_read own club row moment pass request view fault sound signer agrees f =
    let is = is_signer club pass moment row signer in
    let named = key_there club pass.identifier is.key is.is in
    let its = owner own club is.key.name is.key sound named in
    let there = rw is.row_is at agrees in
    let fault_is : fault ≡ its_fault club is.key moment its pass request = rw is.row_is at f ∙ same_fault club is.key moment its pass request view there
    in
    rw (is.row_is, seen club is.key moment its request is.key.name named) (
      answered club is.key moment its pass request is.is ∙ rw (is.signed, fault_is) refl,
      λ some. grind arith,
    )

pub account_seen : OwnBookings → (club : Club) (name : List ℕ) (key : Key) (moment : ℕ) → IsSound club → key_named name club ≡ Some key
    → with_sums club moment (bare_view (row_of_key key)) ≡ view_in club name asked.Account moment
account_seen own club name key moment sound row =
    let its = owner own club name key sound row in
    rw (its.is, seen club key moment its asked.Account name row, its.spent) refl

parsed : ReadsWhatIsUnderstood → (text : List ℕ) (found : Option Caveat) → caveat_of text ≡ found → Reads (Understood text) found
parsed reads text found e = grind arith

pub fault_is : FindsTheFaultAt → ReadsWhatIsUnderstood → (text : List ℕ) (n : ℕ) (ask : Ask) (fault : Option CaveatFault)
    → IsFaultAt text n ask fault ↔ (fault ≡ first_fault_from n (caveat_of text ∷ []) ask)
fault_is finds reads text n ask fault = finds text (caveat_of text) n ask fault (parsed reads text (caveat_of text) refl)

-- The first fault of the caveats in these fields. The caveats are numbered from `n`.
abbrev pub fault_in : Ask → ℕ → List PassField → Option CaveatFault
fault_in ask n [] = None
fault_in ask n (caveat_field bytes ∷ fields) = option_or (first_fault_from n (caveat_of bytes ∷ []) ask) (fault_in ask (min (n + 1) (2 ^ 64 - 1)) fields)
fault_in ask n (field ∷ fields) = fault_in ask n fields

pub fault_on : (n : ℕ) (caveat : Option Caveat) (caveats : List (Option Caveat)) (ask : Ask)
    → option_or (first_fault_from n (caveat ∷ []) ask) (first_fault_from (n + 1) caveats ask) ≡ first_fault_from n (caveat ∷ caveats) ask
fault_on n caveat caveats ask = grind arith

fault_behind : (ask : Ask) (signature : List ℕ) (n : ℕ) (caveats : List (List ℕ)) → n + length caveats < 2 ^ 64
    → fault_in ask n (map caveat_field caveats ++ signature_field signature ∷ []) ≡ first_fault_from n (map caveat_of caveats) ask
fault_behind ask signature n [] short = refl
fault_behind ask signature n (caveat ∷ caveats) short = grind (arith, fault_on, fault_behind ask signature (n + 1) caveats (omega arith))

pub fault_at_last : (ask : Ask) (n : ℕ) (fields left : List PassField) (answer : Option CaveatFault) → answer ≡ fault_in ask n left
    → fault_in ask n left ≡ fault_in ask 1 fields → (pass : Plain) → fields ≡ pass_fields pass → length pass.caveats ≤ 64
    → answer ≡ first_fault_from 1 (map caveat_of pass.caveats) ask
fault_at_last ask n fields left answer e f pass g short = e ∙ f ∙ rw g (fault_behind ask pass.signature 1 pass.caveats (omega arith))

module _ (ask : Ask) (n : ℕ) (left : List PassField) where
  decided : (fault later : Option CaveatFault) → is_some fault ≡ true → option_or fault later ≡ fault
  decided fault later h = grind arith

  pub fault_comes : (rest : List PassField) (field : Field) (caveat : Bor (List ℕ)) (answer : Option CaveatFault) → left ≡ as_field field ∷ rest
      → field ≡ fields.Caveat caveat → answer ≡ first_fault_from n (caveat_of caveat.now ∷ []) ask → is_some answer ≡ true → answer ≡ fault_in ask n left
  fault_comes rest field caveat answer l f e h = rw (l, f, ← e) (sym (decided answer _ h))

  pub no_fault_comes : left ≡ [] → None ≡ fault_in ask n left
  no_fault_comes l = rw l refl

-- The kind of the facility never changes the fault of a caveat in these fields.
abbrev pub AreBlind : List PassField → Type 0
AreBlind [] = Unit {0}
AreBlind (caveat_field bytes ∷ fields) = IsBlindToKind bytes × AreBlind fields
AreBlind (field ∷ fields) = AreBlind fields

module _ (finds : FindsTheFaultAt) (reads : ReadsWhatIsUnderstood) (ask : Ask) (kind : Option Kind) where
  one_alike : (text : List ℕ) → IsBlindToKind text → (n : ℕ)
      → first_fault_from n (caveat_of text ∷ []) (at_kind kind ask) ≡ first_fault_from n (caveat_of text ∷ []) ask
  one_alike text blind n =
      let fault = first_fault_from n (caveat_of text ∷ []) (at_kind kind ask) in
      (fault_is finds reads text n ask fault).0 ((blind n ask kind fault).0 ((fault_is finds reads text n (at_kind kind ask) fault).1 refl))

  all_alike : (signature : List ℕ) (n : ℕ) (caveats : List (List ℕ)) → AreBlind (map caveat_field caveats ++ signature_field signature ∷ [])
      → first_fault_from n (map caveat_of caveats) (at_kind kind ask) ≡ first_fault_from n (map caveat_of caveats) ask
  all_alike signature n [] blind = refl
  all_alike signature n (caveat ∷ caveats) blind =
      let others = map caveat_of caveats in
      rw (
        ← fault_on n (caveat_of caveat) others (at_kind kind ask),
        ← fault_on n (caveat_of caveat) others ask,
        one_alike caveat blind.0 n,
        all_alike signature (n + 1) caveats blind.1,
      ) refl

pub blind_at_last : FindsTheFaultAt → ReadsWhatIsUnderstood → (these left : List PassField) → left ≡ [] → (AreBlind left → AreBlind these)
    → (pass : Plain) → these ≡ pass_fields pass → IsBlindPass pass
blind_at_last finds reads these left none all pass g ask kind = grind (arith, all_alike)
