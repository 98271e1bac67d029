-- Laws about decoded passes and about events at the desk.
use Rattle.club_core.specs.Run as machine
use Rattle.std.specs.Prelude.{◌≡◌, ◌↔◌, ◌++◌, ◌∷◌, ℕ, [], List, All, length, Result, Ok, Err, Some}
use Rattle.base64.specs.GeneralPurpose.{IsBytes}
use Rattle.club_core.specs.{Basis.{basis_of, basis_under}, Club.{Club, IsSound, key_named}, Request.{Pass, Words}, Run.IsEvent, Store.StoreGhosts}
use Rattle.club_core.specs.declared.pass_fault.PassFault.{PassFault}
use Rattle.club_gate.specs.{DecodedPass.{IsDecoded, IsSeenAs, identifier_of}, Desk.Steps, Runs.{AreEventsOf, IsEventOfBytes}, computed.DecodedPass.decoded_pass}
use Rattle.club_gate.specs.Runs.{DeskResponse, IsFollowed, IsLawfulRun, LeavesClub}
use Rattle.club_gate.specs.{computed.DecodedPass.{machine_events, machine_pass}, declared.event.Event.Event}
use Rattle.club_rows.specs.declared.key.Key.{Key}
use Rattle.club_values.specs.Name.{IsName}
use Rattle.pass_forms.specs.{Pass.Plain, declared.{fault.FormFault.TheVariants.Memory, form.Form.Form}}
use Rattle.pass_json.specs.AnyForm.{IsAnyReading}

-- `IsSeenAs` relates each pass to exactly one value, which `machine_pass` computes.
abbrev pub SeenAlike : Type 0
SeenAlike = (pass : Plain) (seen : Pass) → IsSeenAs pass seen ↔ (machine_pass pass ≡ seen)

-- `IsDecoded` relates each text to exactly one pass or fault, which `decoded_pass` computes.
abbrev pub Decodes : Type 0
Decodes = (text : List ℕ) (seen : Result Pass PassFault) → IsBytes text → IsDecoded text seen ↔ (decoded_pass text ≡ seen)

-- `AreEventsOf` relates each list of events at the desk to exactly one list of machine events.
-- `machine_events` computes this list.
abbrev pub SeesEvents : Type 0
SeesEvents = (events : List Event) (seen : List machine.Event) → All IsEventOfBytes events → AreEventsOf events seen ↔ (machine_events events ≡ seen)

-- If a pass names a key of the club, the basis of the request is computed from this key. A basis is
-- the set of rows that a reply may depend on.
abbrev pub NamesItsRows : Type 0
NamesItsRows =
    (club : Club) (text : List ℕ) (words : Words) (form : Form) (pass : Plain) (key : Key)
    → IsBytes text → IsDecoded text words.pass → IsAnyReading text (Ok (form, pass))
    → IsName key.name → pass.identifier ≡ identifier_of key.name → key_named key.name club ≡ Some key
    → basis_of club words ≡ basis_under club words.request key

-- The specified result of reading a text is never the fault `Memory`.
abbrev pub ReadsNoLackOfMemory : Type 0
ReadsNoLackOfMemory = (text : List ℕ) → ¬ IsAnyReading text (Err Memory)

-- A store that represents a club has followed the run without events.
abbrev pub FollowsNoEvent : {S : Type 0} → StoreGhosts S → Type 0
FollowsNoEvent {S} ghosts = (now : S) (club : Club) (others : List Club) → ghosts.represents now club others → IsFollowed ghosts now club others [] []

-- If a store has followed a run, and then one more event was answered or failed, the store has
-- followed the run with this event.
abbrev pub FollowsOneMore : {S : Type 0} → StoreGhosts S → Type 0
FollowsOneMore {S} ghosts =
    (now new : S) (club : Club) (others : List Club) (events : List machine.Event) (responses : List DeskResponse) (event : machine.Event)
    (response : DeskResponse)
    → length responses ≡ length events → IsFollowed ghosts now club others events responses → Steps ghosts now new event response
    → IsFollowed ghosts new club others (events ++ event ∷ []) (responses ++ response ∷ [])

-- A run that a store followed from a sound club obeys the laws of runs, if every event is within its
-- limits. The store represents the club after the answered events.
abbrev pub FollowedRunsAreLawful : {S : Type 0} → StoreGhosts S → Type 0
FollowedRunsAreLawful {S} ghosts =
    (new : S) (club : Club) (others : List Club) (events : List machine.Event) (responses : List DeskResponse) → IsSound club → All IsEvent events
    → IsFollowed ghosts new club others events responses
    → IsLawfulRun club events responses × LeavesClub ghosts.represents new club others events responses
