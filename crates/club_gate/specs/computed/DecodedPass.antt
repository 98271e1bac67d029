-- Functions that compute the decoded pass of a text, and the machine's event for an event at the
-- desk.
use Rattle.club_core.specs.Run as machine
use Rattle.club_gate.specs.declared.event.Event.TheVariants as events
use Rattle.std.specs.Prelude.{ℕ, List, map, Result, Ok, Err}
use Rattle.club_core.specs.{Request.{Pass, Words}, declared.{pass_fault.PassFault.PassFault, request.Request.Request}}
use Rattle.club_gate.specs.{DecodedPass.{fault_of, key_name_in}, declared.event.Event.Event}
use Rattle.pass_caveats.specs.computed.CaveatOf.{caveat_of}
use Rattle.pass_forms.specs.{Pass.Plain, computed.Reading.is_signed, declared.{fault.FormFault.FormFault, form.Form.Form}}
use Rattle.pass_json.specs.computed.AnyForm.{reading, reading_in_form}

-- The decoded pass that the rules of the club use. `is_signed` tests whether the pass is signed
-- under a root.
abbrev pub machine_pass : Plain → Pass
machine_pass pass = record {
  key = key_name_in pass.identifier;
  caveats = map caveat_of pass.caveats;
  is_signed = λ root. is_signed root pass;
}

-- The decoded pass, or the fault of the text.
abbrev pub decoded_or_fault : Result Plain FormFault → Result Pass PassFault
decoded_or_fault (Ok pass) = Ok (machine_pass pass)
decoded_or_fault (Err fault) = Err (fault_of fault)

abbrev pub without_form : Result (Form × Plain) FormFault → Result Plain FormFault
without_form (Ok read) = Ok read.1
without_form (Err fault) = Err fault

-- The decoded pass of a text, or the fault of the text.
abbrev pub decoded_pass : List ℕ → Result Pass PassFault
decoded_pass text = decoded_or_fault (without_form (reading text))

-- The decoded pass of the text, together with the request.
abbrev pub decoded_words : List ℕ → Request → Words
decoded_words text request = record { pass = decoded_pass text; request = request }

-- The pass that these bytes encode in this form, together with the request.
abbrev pub words_in_form : Form → List ℕ → Request → Words
words_in_form form bytes request = record { pass = decoded_or_fault (reading_in_form form bytes); request = request }

-- The machine's event for an event at the desk.
abbrev pub machine_event : Event → machine.Event
machine_event (events.Asked words moment) = machine.Asked (decoded_words words.pass.now words.request) moment
machine_event (events.Commanded command) = machine.Commanded command

-- The machine's events for a list of events at the desk.
abbrev pub machine_events : List Event → List machine.Event
machine_events events = map machine_event events
