-- Defines the club of a store that is reopened after a crash.
use Rattle.sqlite_disk.specs.declared.Disk as disk
use Rattle.sqlite.specs.FileStore as file
use Rattle.club_core.specs.Run as machine
use Rattle.std.specs.Prelude.{◌≡◌, ◌⊎◌, List, [], Contains}
use Rattle.club_core.specs.Club.{Club}
use Rattle.club_gate.specs.Runs.{IsWithinOneEvent, MayBeLeft, DeskResponse, club_left}
use Rattle.club_laws.specs.RunsWithFailures.{RepeatsServedReplies}
use Rattle.club_store.specs.Opening.{CrashLeaves, IsOpenedOn, RepresentsOne, OpensFrom}
use Rattle.club_tables.specs.{ReadsAndChanges.sound_in, Tables.Represents}
use Rattle.sqlite.specs.{Files.{file_state, over_files, IsOpened}, Held.Held, Recovery.Image, Start.FindsIn, State.State, View.IsClean}
use Rattle.sqlite.specs.declared.FileStore.{FileStore}

-- The state represents exactly one of these clubs, and no later crash changes the club. In this
-- club, an accepted repeat of a served request gets the first reply and changes nothing.
pub record RecoversOne (state : State) (clubs : List Club) (events : List machine.Event) (returned : List DeskResponse) : Type 0 where
  pub club : Club
  pub among : Contains clubs club
  pub represents : Represents state club []
  pub again : RepeatsServedReplies club events returned

-- Suppose that `clubs` are the clubs that the store `before` may have after a crash. A store that
-- is opened on the files after the crash recovers exactly one of these clubs.
abbrev pub SurvivesCrash : {D E : Type 0} {d : disk.Ghosts D} {e : disk.Ghosts E} → FileStore D d → Held (FileStore E e) → List Club
    → List machine.Event → List DeskResponse → Type 0
SurvivesCrash before after clubs events returned =
    (left : Image) → CrashLeaves before clubs left → OpensFrom left after → ∥ RecoversOne (file_state after) clubs events returned ∥₁

-- The store's disk has been clean so far, and a crash may leave this image of the store's file and
-- log.
abbrev pub CrashMayLeave : {D : Type 0} {d : disk.Ghosts D} → FileStore D d → Image → Type 0
CrashMayLeave store left = IsClean (file.view store) × (file.state store).may_leave left

-- `Store::adopt` opened the store. The store's connection found a file and a log with this image.
pub record IsAdoptedFrom {E : Type 0} {e : disk.Ghosts E} (start : Image) (now : Held (FileStore E e)) : Type 0 where
  pub was : Held (FileStore E e)
  pub opening : IsOpened was
  pub found : FindsIn start (file_state was)
  pub again : (clubs : List Club) → IsOpenedOn (file_state was) clubs → RepresentsOne (file_state now) clubs

-- `Store::open_file` or `Store::adopt` opened the store on a file and a log with this image.
abbrev pub IsReopened : {E : Type 0} {e : disk.Ghosts E} → Image → Held (FileStore E e) → Type 0
IsReopened start now = OpensFrom start now ⊎ IsAdoptedFrom start now

-- After a run and a crash, a reopened store represents exactly one club, which no later crash
-- changes. This club is the club after the answered events, or another club that the crash may have
-- left. Suppose that it is the club after the answered events, or the club after one more event.
-- Then an accepted repeat of a served request gets the first reply and changes nothing.
pub record RecoversAfterRun {E : Type 0} {e : disk.Ghosts E} (opened : Held (FileStore E e)) (club : Club) (others : List Club) (events : List machine.Event)
    (returned : List DeskResponse) : Type 0 where
  pub now : Club
  pub is : (now ≡ club_left club events returned) ⊎ MayBeLeft club others (club_left club events returned) events returned now
  pub again : IsWithinOneEvent (club_left club events returned) now → RepeatsServedReplies now events returned
  pub represents : sound_in over_files opened now []

-- After a run from this club, a crash may leave a file and a log. Every store that is opened on
-- this file and this log satisfies `RecoversAfterRun`.
abbrev pub OpensAgain : {D E : Type 0} {d : disk.Ghosts D} → disk.Ghosts E → FileStore D d → Club → List Club → List machine.Event → List DeskResponse → Type 0
OpensAgain {E = E} e store club others events returned =
    (left : Image) (opened : Held (FileStore E e)) → CrashMayLeave store left → IsReopened left opened
    → ∥ RecoversAfterRun opened club others events returned ∥₁
