-- Defines how each task of the office changes a desk, and how the program answers the task.
use Rattle.club_core.specs.declared.command.Command.TheVariants as office
use Rattle.club_core.specs.Run as machine
use Rattle.club_gate.specs.declared.event.OfficeReply.TheVariants as replies
use Rattle.club_gate.specs.declared.fault.Fault.TheVariants as desk
use Rattle.std.specs.{Prelude.{◌≡◌, ℕ, List, [], ◌∷◌, ◌++◌, codes, Option, MatchOption, Result, Ok, Err, IfOk, String}, String.string_bytes}
use Rattle.std.specs.declared.alloc.Global.{Global}
use Rattle.club_clock.specs.Moments.{IsMomentOf}
use Rattle.club_core.specs.{Club.Club, Office.IsCommand, Run.ToOffice, Sheet.IsSheet, Store.{KeepsClub, StoreGhosts}, declared.command.Command.Command}
use Rattle.club_gate.specs.{DecodedPass.{key_pass, minted_signature}, Desk.{OfItsClub, Steps}, Listing.{ReturnsListing, account_listing, slot_listing}}
use Rattle.club_gate.specs.declared.{event.OfficeReply.OfficeReply, fault.Fault.Fault as DeskFault}
use Rattle.clubdesk_arguments.specs.declared.task.{KeyChange.{KeyChange, TheVariants.{Add, Rotate}}, Task.TheVariants.{Give, Key, Sheet, ShowAccount, ShowSlot}}
use Rattle.clubdesk_arguments.specs.{Fault.fault_of_opening, declared.{fault.Fault.{Fault, TheVariants.{Refused, Memory, ClockOutOfRange}}, task.Task.Task}}
use Rattle.jiff_core.specs.declared.timestamp.Timestamp.{Timestamp}
use Rattle.pass_forms.specs.{Writing.IsWritableText, declared.form.Form.Form}
use Rattle.pass_json.specs.AnyForm.{IsTextIn}

-- The desk's command that adds a key with this root, or that gives this root to an existing key.
abbrev pub key_command : List ℕ → KeyChange → List ℕ → Command
key_command name (Add member) root = office.AddKey name member root
key_command name (Rotate until) root = office.RotateKey name root until

-- The line is the text of a key's pass in this form, followed by a line feed. Such a line exists
-- only if the text is within the size limits of a pass.
pub record IsPassLine (name root : List ℕ) (form : Form) (line : List ℕ) : Type 0 where
  pub text : List ℕ
  pub is : IsWritableText (IsTextIn form) (key_pass name (minted_signature name root)) text
  pub ends : line ≡ text ++ 10 ∷ []

-- The program's fault for a fault of the desk.
abbrev pub fault_of_desk : DeskFault → Fault
fault_of_desk (desk.Refused refusal) = Refused refusal
fault_of_desk (desk.Store failure) = fault_of_opening failure

-- If the desk replied with a fault, the answer is the program's fault for the desk's fault.
-- Otherwise, the answer is this text.
abbrev pub GivesReply : List ℕ → Result (List ℕ) Fault → OfficeReply → Type 0
GivesReply text answer (replies.Refused fault) = answer ≡ Err (fault_of_desk fault)
GivesReply text answer reply = answer ≡ Ok text

-- The program's answer if the desk returned a listing, a sheet or a fault.
abbrev pub answer_of_desk : {Z : Type 0} → Result (String Z) DeskFault → Result (List ℕ) Fault
answer_of_desk (Ok text) = Ok (string_bytes text)
answer_of_desk (Err fault) = Err (fault_of_desk fault)

module _ {S : Type 0} (ghosts : StoreGhosts S) where
  -- The desk received a command and sent a reply. The answer is `text`, or a fault if the reply is
  -- a fault.
  pub record IsGiven (command : Command) (text : List ℕ) (answer : Result (List ℕ) Fault) (old new : S) : Type 0 where
    pub reply : OfficeReply
    pub within : IsCommand command
    pub was_clean : ghosts.is_clean new → ghosts.is_clean old
    pub steps : ghosts.is_clean new → Steps ghosts old new (machine.Commanded command) (ToOffice reply)
    pub answers : GivesReply text answer reply

  -- The program makes the text of the answer before the desk receives the command. If memory for
  -- the text runs out, the desk doesn't receive the command.
  pub data IsAnswered (command : Command) (IsText : List ℕ → Type 0) (answer : Result (List ℕ) Fault) (old new : S) : Type 0 where
    out_of_memory : answer ≡ Err Memory → new ≡ old → IsAnswered command IsText answer old new
    command_given : (text : List ℕ) → IsText text → IsGiven command text answer old new → IsAnswered command IsText answer old new

  -- The answer is the listing or the sheet that the desk returned, or the program's fault for the
  -- desk's fault. The club is unchanged.
  pub record DeskShows (Shows : Club → Result (String Global) DeskFault → Type 0) (answer : Result (List ℕ) Fault) (old new : S) : Type 0 where
    pub was_clean : ghosts.is_clean new → ghosts.is_clean old
    pub kept : ghosts.is_clean new → KeepsClub ghosts.represents old new
    pub returned : Result (String Global) DeskFault
    pub shows : OfItsClub ghosts old new (λ club. Shows club returned)
    pub is : answer ≡ answer_of_desk returned

  -- The answer to a task of the office, and the effect of the task on a store. `Given` states which
  -- instants the machine's clock can show.
  abbrev pub Does : (Option Timestamp → Type 0) → Task → Result (List ℕ) Fault → S → S → Type 0
  Does Given (Give given) answer old new = IsAnswered given (λ line. line ≡ codes "done\n") answer old new
  Does Given (Key given root) answer old new =
      IsAnswered (key_command given.name given.change root) (IsPassLine given.name root given.form) answer old new
  Does Given (Sheet day) answer old new = DeskShows (λ club sheet. IfOk sheet (λ text. IsSheet club day (string_bytes text))) answer old new
  Does Given (ShowAccount key clock) answer old new = (shown : Option ℕ) × IsMomentOf Given clock shown
      × MatchOption shown ((answer ≡ Err ClockOutOfRange) × (new ≡ old))
      (λ moment. DeskShows (λ club shown. ReturnsListing (account_listing club key moment) shown) answer old new)
  Does Given (ShowSlot slot) answer old new = DeskShows (λ club shown. ReturnsListing (slot_listing club slot) shown) answer old new
