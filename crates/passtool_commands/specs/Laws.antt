-- States laws about the commands, their arguments and their answers.
use Rattle.std.specs.Prelude.{◌≡◌, ◌↔◌, ℕ, List, Result, Ok, codes}
use Rattle.command_line.specs.Job.{AskOnce}
use Rattle.pass_forms.specs.{Pass.{IsSigned, Plain}, declared.{fault.FormFault.FormFault, form.Form.Form}}
use Rattle.passtool_commands.specs.{Answer.{IsAnswer, OutcomeText, ReadsPass, narrowing, new_pass, with_line_feed}, Application.passtool}
use Rattle.passtool_commands.specs.{Arguments.ReadsCommand, Minting.Minting, declared.{answer.Outcome.TheVariants.Done, command.Command.Command}}
use Rattle.passtool_commands.specs.declared.command.Command.TheVariants.{Verify}

-- If arguments ask for a command, parsing them returns this command or runs out of memory.
abbrev pub AskForOneCommand : Type 0
AskForOneCommand = AskOnce passtool ReadsCommand

-- A command has at most one answer to an input.
abbrev pub AnswersOnce : Type 0
AnswersOnce = (command : Command) (bytes : List ℕ) (one other : Result OutcomeText FormFault)
    → IsAnswer command bytes one → IsAnswer command bytes other → one ≡ other

-- `verify` answers `signed` if and only if the input's pass is signed under the root.
abbrev pub VerifyDecidesSigned : Type 0
VerifyDecidesSigned = (root bytes : List ℕ) (form : Form) (pass : Plain) → ReadsPass bytes (Ok (form, pass))
    → IsAnswer (Verify root) bytes (Ok (Done, with_line_feed (codes "signed"))) ↔ IsSigned root pass

-- The pass that `mint` makes is signed under the root of `mint`.
abbrev pub MintSigns : Type 0
MintSigns = (minting : Minting) (pass : Plain) → narrowing minting.caveats (new_pass minting) ≡ Ok pass → IsSigned minting.root pass

-- If a pass is signed under a root, it stays signed under this root after adding caveats.
abbrev pub NarrowingKeepsSigned : Type 0
NarrowingKeepsSigned = (root : List ℕ) (caveats : List (List ℕ)) (pass narrowed_pass : Plain) → IsSigned root pass
    → narrowing caveats pass ≡ Ok narrowed_pass → IsSigned root narrowed_pass
