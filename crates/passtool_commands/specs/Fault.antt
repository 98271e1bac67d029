-- Defines the exit status of each outcome and each fault, and the line of each fault.
use Rattle.command_line.specs.declared.errors.ArgumentsFault.TheVariants as arguments
use Rattle.pass_forms.specs.declared.fault.FormFault.TheVariants as form
use Rattle.std.specs.{Fmt.{decimal, with_newline}, Prelude.{ℕ, List, ◌++◌, Option, Some, None, Result, Ok, Err, codes}}
use Rattle.command_line.specs.declared.errors.ArgumentsFault.{ArgumentsFault}
use Rattle.pass_forms.specs.{Reading.fault_text, declared.fault.FormFault.FormFault}
use Rattle.passtool_commands.specs.declared.answer.{Fault.TheVariants.{Arguments, Pass, CaveatNotUnderstood, BadRoot, InputOutput}, Outcome.TheVariants.Done}
use Rattle.passtool_commands.specs.declared.answer.{Outcome.{Outcome, TheVariants.NotSigned}, BadValue.{BadValue, TheVariants.{Root, Caveat}}, Fault.Fault}

abbrev pub outcome_status : Outcome → ℕ
outcome_status Done = 0
outcome_status NotSigned = 1

abbrev pub fault_status : Fault → ℕ
fault_status (Arguments error) = 2
fault_status (Pass form.Memory) = 4
fault_status (Pass fault) = 3
fault_status (CaveatNotUnderstood number) = 5
fault_status BadRoot = 6
fault_status InputOutput = 7

-- The exit status of a run with this result.
abbrev pub exit_status : Result Outcome Fault → ℕ
exit_status (Ok outcome) = outcome_status outcome
exit_status (Err fault) = fault_status fault

-- The number that the program prints for a fault of a pass. The fault `Memory` has no number.
abbrev pub form_number : FormFault → Option ℕ
form_number form.TooLong = Some 1
form_number form.Malformed = Some 2
form_number form.ThirdParty = Some 3
form_number form.TooMany = Some 4
form_number form.Memory = None

-- The line that the program prints for a fault of a pass. If the fault has a number, the number comes
-- before the text.
abbrev pub with_number : Option ℕ → List ℕ → List ℕ
with_number None text = text
with_number (Some number) text = codes "fault " ++ (decimal number ++ (codes ": " ++ text))

-- The line that the program prints on standard error for a fault. The result is `None` if `clap`
-- makes the text, because no definition states that text.
abbrev pub fault_line : Fault → Option (List ℕ)
fault_line (Arguments error) = None
fault_line (Pass fault) = Some (with_number (form_number fault) (fault_text fault))
fault_line (CaveatNotUnderstood number) = Some (codes "caveat " ++ (decimal number ++ codes " not understood"))
fault_line BadRoot = Some (codes "bad root")
fault_line InputOutput = Some (codes "input or output failed")

-- The bytes that the program prints on standard error for a fault. The result is `None` if `clap`
-- makes the text, because no definition states that text.
abbrev pub fault_output : Fault → Option (List ℕ)
fault_output (Arguments error) = None
fault_output fault = with_newline (fault_line fault)

-- Converts a fault of the arguments to the program's fault.
abbrev pub of_arguments : ArgumentsFault BadValue → Fault
of_arguments (arguments.Refused error) = Arguments error
of_arguments (arguments.BadValue Root) = BadRoot
of_arguments (arguments.BadValue (Caveat number)) = CaveatNotUnderstood number
of_arguments arguments.Memory = Pass form.Memory
