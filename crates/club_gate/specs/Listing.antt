-- Account and slot listings for the office. Each line of a listing is the name of a value, a space,
-- and the value.
use Rattle.club_core.specs.declared.reply.Reply.TheVariants as replies
use Rattle.club_core.specs.declared.request.Request.TheVariants as asked
use Rattle.std.specs.{Fmt.decimal, Prelude.{◌≡◌, ◌⊎◌, ℕ, Bool, true, false, List, [], ◌∷◌, ◌++◌, codes, IfErr, Option, Some, None, option_and_then, option_map}}
use Rattle.std.specs.{Prelude.{Result, Ok, Err, String}, String.string_bytes}
use Rattle.club_core.specs.{Basis.{slot_use, view_in}, Club.{Club, facility_named, key_named}, Store.{IsRead, KeepsClub, StoreGhosts}, Verdict.account_verdict}
use Rattle.club_core.specs.{Verdict.verdict_of, declared.{command.OfficeFault.TheVariants.Unknown, reply.Reply.{Reply, TheVariants.{AccountShown, SlotShown}}}}
use Rattle.club_core.specs.declared.{store.StoreFault.{StoreFault, TheVariants.Memory}, view.View.View}
use Rattle.club_gate.specs.{Desk.OfItsClub, declared.fault.Fault.{Fault, TheVariants.{Refused, Store}}}
use Rattle.club_rows.specs.declared.key.{Key.Key, OlderRoot.OlderRoot}
use Rattle.club_values.specs.{Kind.kind_text, Moment.{day_text, moment_text}, declared.{kind.Kind.Kind, slot.Slot.Slot}}

-- One line for each pair of a name and a value.
abbrev pub lines : List (List ℕ × List ℕ) → List ℕ
lines [] = []
lines ((name, value) ∷ values) = name ++ 32 ∷ value ++ 10 ∷ lines values

abbrev pub yes_or_no : Bool → List ℕ
yes_or_no true = codes "yes"
yes_or_no false = codes "no"

-- The named values that identify a slot.
abbrev pub values_of_slot : Slot → List (List ℕ × List ℕ)
values_of_slot slot =
    (codes "facility", slot.facility) ∷ (codes "day", day_text slot.day) ∷ (codes "hour", decimal slot.hour) ∷ []

-- The named values of a slot's state: the kind, price and places of its facility, how many places
-- are taken, and whether the slot is closed.
abbrev pub values_of_state : Kind → ℕ → ℕ → ℕ → Bool → List (List ℕ × List ℕ)
values_of_state kind price places taken closed =
    (codes "kind", kind_text kind)
    ∷ (codes "price", decimal price)
    ∷ (codes "places", decimal places)
    ∷ (codes "taken", decimal taken)
    ∷ (codes "closed", yes_or_no closed)
    ∷ []

-- The named values of a reply that shows an account or a slot. Any other reply has no named values.
abbrev pub named_values : Reply → List (List ℕ × List ℕ)
named_values (AccountShown member balance quota open_count spent) =
    (codes "member", member)
    ∷ (codes "balance", decimal balance)
    ∷ (codes "quota", decimal quota)
    ∷ (codes "open", decimal open_count)
    ∷ (codes "spent", decimal spent)
    ∷ []
named_values (SlotShown slot kind price places taken closed) = values_of_slot slot ++ values_of_state kind price places taken closed
named_values reply = []

-- The text for a key's older root: `until` and the moment when the older root expires, or `none`.
-- The text doesn't contain the root.
abbrev pub older_text : Option OlderRoot → List ℕ
older_text None = codes "none"
older_text (Some older) = codes "until " ++ moment_text older.until

-- The named values of a key. The named values don't contain the roots of the key.
abbrev pub values_of_key : Key → List (List ℕ × List ℕ)
values_of_key key = (codes "revoked", yes_or_no key.revoked) ∷ (codes "older root", older_text key.older) ∷ []

-- The listing of a key's account: the values that a request for the account shows, and then the
-- values of the key.
abbrev pub shown_account_text : Key → View → List ℕ
shown_account_text key view = lines (named_values (account_verdict view).reply ++ values_of_key key)

-- The key with this name, and the view of the key's account at a moment.
abbrev pub account_with_key : Club → List ℕ → ℕ → Option (Key × View)
account_with_key club name moment =
    option_and_then (λ (key : Key). option_map (λ (view : View). (key, view)) (view_in club name asked.Account moment)) (key_named name club)

-- The listing of a key's account at a moment, or `None` if the club has no such key.
abbrev pub account_listing : Club → List ℕ → ℕ → Option (List ℕ)
account_listing club name moment = option_map (λ (seen : Key × View). shown_account_text seen.0 seen.1) (account_with_key club name moment)

-- The reply to an accepted request to view a slot, or `None` if the club has no such facility.
abbrev pub slot_reply : Club → Slot → Option Reply
slot_reply club slot =
    option_map (λ facility. SlotShown slot facility.kind facility.price facility.places (slot_use club slot).taken (slot_use club slot).closed)
    (facility_named slot.facility club)

-- The lines of a reply, or `None` if there is no reply.
abbrev pub reply_lines : Option Reply → Option (List ℕ)
reply_lines reply = option_map (λ r. lines (named_values r)) reply

-- The listing of a slot, or `None` if the club has no such facility.
abbrev pub slot_listing : Club → Slot → Option (List ℕ)
slot_listing club slot = reply_lines (slot_reply club slot)

abbrev pub unless_refused : Reply → Option Reply
unless_refused (replies.Refused refusal) = None
unless_refused reply = Some reply

-- The listing of a slot shows the reply to a request to view the slot. An accepted request gets the
-- same reply under every key of the club and at every moment. If the reply is a refusal, there is
-- no listing.
abbrev pub ShowsSlotsToKeys : Type 0
ShowsSlotsToKeys =
    (club : Club) (slot : Slot) (name : List ℕ) (moment : ℕ) (view : View)
    → view_in club name (asked.View slot) moment ≡ Some view
    → slot_listing club slot ≡ reply_lines (unless_refused (verdict_of view (asked.View slot) moment).reply)

-- A listing can fail with this fault. The fault `Unknown` means that no key or facility has the
-- name. A fault of the store means that memory ran out or storage failed.
abbrev pub IsUnshown : Option (List ℕ) → Fault → Type 0
IsUnshown shown (Refused Unknown) = shown ≡ None
IsUnshown shown (Store failure) = Unit {0}
IsUnshown shown fault = ⊥

-- The result of a listing is the text of the listing, or the fault with which the listing failed.
abbrev pub ReturnsListing : {Z : Type 0} → Option (List ℕ) → Result (String Z) Fault → Type 0
ReturnsListing shown (Ok text) = shown ≡ Some (string_bytes text)
ReturnsListing shown (Err fault) = IsUnshown shown fault

-- The faults with which a listing can fail.
abbrev pub IsShowingFault : Fault → Type 0
IsShowingFault (Refused Unknown) = Unit {0}
IsShowingFault (Store failure) = Unit {0}
IsShowingFault fault = ⊥

-- The listing failed with this fault, for one of three reasons:
-- - The store failed while it read rows.
-- - No key or facility has the name.
-- - There was no memory for the text.
abbrev pub FailsToShow : {S : Type 0} → StoreGhosts S → S → S → Fault → Type 0
FailsToShow ghosts old new fault =
    ((failure : StoreFault) × ghosts.fails None old failure new × (fault ≡ Store failure))
    ⊎ (((fault ≡ Refused Unknown) ⊎ (fault ≡ Store Memory)) × IsRead ghosts old new)

-- If the store's disk is clean after a listing, the listing didn't change the club. `IsSo` is then
-- true for each club that the store represented before the listing.
pub record ShowsClub {S A : Type 0} (ghosts : StoreGhosts S) (old new : S) (result : Result A Fault) (IsSo : Club → Type 0) : Type 0 where
  pub was_clean : ghosts.is_clean new → ghosts.is_clean old
  pub kept : ghosts.is_clean new → KeepsClub ghosts.represents old new
  pub shown : OfItsClub ghosts old new IsSo
  pub faults : IfErr result IsShowingFault
  pub failure : ghosts.is_clean new → IfErr result (FailsToShow ghosts old new)
