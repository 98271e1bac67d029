-- Defines the answer of each command to its input, and the text that `show` writes.
use Rattle.pass_forms.specs.Pass as passes
use Rattle.std.specs.{Fmt.decimal, Io.BufRead.strip_last, List.flat_map, Prelude.{ℕ, ◌+◌, ◌==◌, ◌&&◌, nat_le, List, [], ◌∷◌, ◌++◌, codes, if◌then◌else◌, ◌≡◌}}
use Rattle.std.specs.Prelude.{Bool, true, false, nat_lt, length, Result, Ok, Err, MatchResult}
use Rattle.command_line.specs.Arguments.{form_name}
use Rattle.hex.specs.Hex.{encode_lower}
use Rattle.pass_forms.specs.{Pass.{Plain, IsSigned}, Reading.max_caveats, Writing.IsWriting, declared.fault.FormFault.{FormFault, TheVariants.TooMany}}
use Rattle.pass_forms.specs.declared.form.Form.{Form}
use Rattle.pass_json.specs.AnyForm.{IsAnyReading, IsTextIn}
use Rattle.pass_mac.specs.Chain.{extended_signature}
use Rattle.passtool_commands.specs.{Minting.Minting, declared.{answer.Outcome.{Outcome, TheVariants.{Done, NotSigned}}, command.Command.Command}}
use Rattle.passtool_commands.specs.declared.command.Command.TheVariants.{Mint, Show, Narrow, Convert, Verify}

-- The text followed by a line feed.
abbrev pub with_line_feed : List ℕ → List ℕ
with_line_feed text = text ++ 10 ∷ []

-- The text of a byte in the output of `show`. A backslash is doubled. Other printable ASCII
-- characters are unchanged. Any other byte is `\x` and two hexadecimal digits.
unfoldable pub escaped_byte : ℕ → List ℕ
escaped_byte byte =
    if byte == 92 then codes "\\\\"
    else (if nat_le 32 byte && nat_le byte 126 then byte ∷ [] else codes "\\x" ++ encode_lower (byte ∷ []))

abbrev pub escaped_text : List ℕ → List ℕ
escaped_text bytes = flat_map escaped_byte bytes

-- A line that consists of a name, a space and an escaped value.
abbrev pub value_line : List ℕ → List ℕ → List ℕ
value_line name bytes = with_line_feed (name ++ 32 ∷ escaped_text bytes)

-- The lines of the caveats. `number` is the number of the first caveat.
unfoldable pub caveat_lines : ℕ → List (List ℕ) → List ℕ
caveat_lines number [] = []
caveat_lines number (caveat ∷ caveats) =
    value_line (codes "caveat " ++ decimal number) caveat ++ caveat_lines (number + 1) caveats

unfoldable pub listing_text : Form → Plain → List ℕ
listing_text form pass =
    with_line_feed (codes "form " ++ form_name form)
    ++ (value_line (codes "location") pass.location
    ++ (value_line (codes "identifier") pass.identifier
    ++ (caveat_lines 1 pass.caveats
    ++ with_line_feed (codes "signature " ++ encode_lower pass.signature))))

-- The outcome of a command, and the text that the command writes.
abbrev pub OutcomeText : Type 0
OutcomeText = Outcome × List ℕ

-- A set of results that a step of a command may have. A step is a part of the command's work, such
-- as reading a pass.
abbrev pub Results : Type 0 → Type 1
Results A = Result A FormFault → Type 0

-- The set with this result as its only element.
abbrev pub IsOnly : {A : Type 0} → Result A FormFault → Results A
IsOnly expected result = expected ≡ result

-- Joins two steps, like `?` in Rust. If the first step fails, the result is the first step's fault.
-- Otherwise, the second step gets the value of the first step.
infixl 10 ◌>>=◌
abbrev pub ◌>>=◌ : {A B : Type 0} → Results A → (A → Results B) → Results B
step >>= rest = λ answer. (result : Result _ FormFault) × step result × MatchResult result (λ value. rest value answer) (λ fault. answer ≡ Err fault)

-- The possible results of reading the input: a pass with the form of its text, or a fault. One line
-- feed at the end of the input is ignored.
abbrev pub ReadsPass : List ℕ → Results (Form × Plain)
ReadsPass bytes = IsAnyReading (strip_last 10 bytes)

-- The answer of a successful command that writes this text and a line feed.
abbrev pub done_with : List ℕ → Result OutcomeText FormFault
done_with text = Ok (Done, with_line_feed text)

-- The answer is this text and a line feed. Reading the answer returns this form and this pass.
abbrev pub AnswersText : Form → Plain → List ℕ → Results OutcomeText
AnswersText form pass text result = (done_with text ≡ result) × ReadsPass (with_line_feed text) (Ok (form, pass))

abbrev pub WritesPass : Form → Plain → Results OutcomeText
WritesPass form pass = do
  text ← IsWriting (IsTextIn form) pass
  AnswersText form pass text

-- The pass with these caveats added. Each caveat replaces the signature with the HMAC of the
-- caveat. The key of the HMAC is the previous signature.
abbrev pub with_caveats : List (List ℕ) → Plain → Plain
with_caveats caveats pass = record {
  location = pass.location;
  identifier = pass.identifier;
  caveats = pass.caveats ++ caveats;
  signature = extended_signature pass.signature caveats;
}

-- The pass with these caveats added, or the fault `TooMany` if the pass would have more than 64
-- caveats.
unfoldable pub narrowing : List (List ℕ) → Plain → Result Plain FormFault
narrowing caveats pass =
    if nat_lt max_caveats (length pass.caveats + length caveats) then Err TooMany
    else Ok (with_caveats caveats pass)

-- A new pass without caveats, signed under the root of `mint`.
abbrev pub new_pass : Minting → Plain
new_pass minting = passes.minted_pass minting.root minting.location minting.identifier

-- The answer of `verify`: `signed` if the pass is signed under the root, and `not signed`
-- otherwise.
abbrev pub IsVerdict : List ℕ → Plain → Results OutcomeText
IsVerdict root pass (Ok (Done, text)) = IsSigned root pass × (text ≡ with_line_feed (codes "signed"))
IsVerdict root pass (Ok (NotSigned, text)) = (¬ IsSigned root pass) × (text ≡ with_line_feed (codes "not signed"))
IsVerdict root pass (Err fault) = ⊥

-- The following definitions state the answer of each command: an outcome and the text to write, or
-- a fault of the pass. By the law `AnswersOnce`, a command has at most one answer to an input.

abbrev pub MintsPass : Minting → Results OutcomeText
MintsPass minting = do
  pass ← IsOnly (narrowing minting.caveats (new_pass minting))
  WritesPass minting.form pass

abbrev pub ShowsPass : List ℕ → Results OutcomeText
ShowsPass bytes = do
  read ← ReadsPass bytes
  IsOnly (Ok (Done, listing_text read.0 read.1))

abbrev pub NarrowsPass : List (List ℕ) → List ℕ → Results OutcomeText
NarrowsPass caveats bytes = do
  read ← ReadsPass bytes
  pass ← IsOnly (narrowing caveats read.1)
  WritesPass read.0 pass

abbrev pub ConvertsPass : Form → List ℕ → Results OutcomeText
ConvertsPass form bytes = do
  read ← ReadsPass bytes
  WritesPass form read.1

abbrev pub VerifiesPass : List ℕ → List ℕ → Results OutcomeText
VerifiesPass root bytes = do
  read ← ReadsPass bytes
  IsVerdict root read.1

abbrev pub IsAnswer : Command → List ℕ → Results OutcomeText
IsAnswer (Mint minting) bytes = MintsPass minting
IsAnswer Show bytes = ShowsPass bytes
IsAnswer (Narrow caveats) bytes = NarrowsPass caveats bytes
IsAnswer (Convert form) bytes = ConvertsPass form bytes
IsAnswer (Verify root) bytes = VerifiesPass root bytes

-- True if the command reads its input. Only `mint` reads no input.
abbrev pub reads_input : Command → Bool
reads_input (Mint minting) = false
reads_input _ = true
