-- Defines the exit status and the line of each fault.
use Rattle.command_line.specs.declared.errors.ArgumentsFault.TheVariants as arguments
use Rattle.club_core.specs.declared.store.StoreFault.TheVariants as store
use Rattle.std.specs.{Fmt.with_newline, Prelude.{ℕ, List, ◌++◌, Option, Some, None, codes}, String.string_bytes}
use Rattle.club_core.specs.{Refusal.office_fault_text, declared.store.StoreFault.StoreFault}
use Rattle.clubdesk_arguments.specs.declared.fault.Fault.{Fault, TheVariants.{Refused, Arguments, BadValue, Memory, Storage, ClockOutOfRange, InputOutput}}
use Rattle.clubdesk_arguments.specs.declared.fault.Fault.TheVariants.{NoAnswer, Answered}
use Rattle.command_line.specs.declared.errors.ArgumentsFault.{ArgumentsFault}

abbrev pub fault_status : Fault → ℕ
fault_status (Refused fault) = 1
fault_status (Arguments error) = 2
fault_status BadValue = 3
fault_status Memory = 4
fault_status Storage = 5
fault_status ClockOutOfRange = 6
fault_status InputOutput = 7
fault_status NoAnswer = 8
fault_status (Answered status line) = status

-- The program's fault for a fault of the arguments.
abbrev pub of_arguments : ArgumentsFault Unit → Fault
of_arguments (arguments.Refused error) = Arguments error
of_arguments (arguments.BadValue value) = BadValue
of_arguments arguments.Memory = Memory

-- The program's fault for a database that can't be opened.
abbrev pub fault_of_opening : StoreFault → Fault
fault_of_opening store.Memory = Memory
fault_of_opening store.Storage = Storage

-- The line of a fault on standard error. For a fault from `clap`, no definition states the text.
abbrev pub fault_line : Fault → Option (List ℕ)
fault_line (Refused fault) = Some (codes "refused: " ++ office_fault_text fault)
fault_line (Arguments error) = None
fault_line BadValue = Some (codes "bad value")
fault_line Memory = Some (codes "out of memory")
fault_line Storage = Some (codes "storage failed")
fault_line ClockOutOfRange = Some (codes "clock out of range")
fault_line InputOutput = Some (codes "input or output failed")
fault_line NoAnswer = Some (codes "no answer")
fault_line (Answered status line) = Some (string_bytes line)

-- The bytes that the program prints on standard error. For a fault from `clap`, no definition
-- states the bytes.
abbrev pub fault_output : Fault → Option (List ℕ)
fault_output (Arguments error) = None
fault_output fault = with_newline (fault_line fault)
