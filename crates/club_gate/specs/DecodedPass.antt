-- Defines the passes that the office issues, and how the text of a pass is decoded for the rules of
-- the club. The decoded pass is the same whether the text is in form V1, V2 or JSON. The identifier
-- of a pass is `key:` followed by the key's name.
use Rattle.pass_forms.specs.declared.fault.FormFault.TheVariants as faults
use Rattle.std.specs.{List.AllZip, Prelude.{ℕ, List, [], ◌++◌, codes, ◌≡◌, ◌↔◌, take, drop, Option, Some, None, option_and_then, if◌then◌else◌, IsTrue, Result}}
use Rattle.std.specs.{Prelude.{Ok, Err}, Str.bytes_eq}
use Rattle.club_core.specs.{Club.{Club, key_named}, Request.{Pass, Words}, declared.pass_fault.PassFault.{PassFault, TheVariants.{TooLong, Malformed}}}
use Rattle.club_core.specs.declared.{pass_fault.PassFault.TheVariants.{ThirdParty, TooMany}, request.Request.Request}
use Rattle.club_rows.specs.declared.key.Key.{Key}
use Rattle.club_values.specs.{Name.IsName, computed.TextOf.name_of_text}
use Rattle.pass_caveats.specs.{Caveat.Understood, declared.caveat.Caveat.Caveat}
use Rattle.pass_forms.specs.{Pass.{Plain, IsSigned}, declared.{fault.FormFault.FormFault, form.Form.Form}}
use Rattle.pass_json.specs.AnyForm.{IsAnyReading}
use Rattle.pass_mac.specs.Chain.{chain, derived_key}

-- The identifier of a key's passes: `key:` and the name of the key.
abbrev pub identifier_of : List ℕ → List ℕ
identifier_of name = codes "key:" ++ name

-- The signature of a key's pass without caveats, under this root.
abbrev pub minted_signature : List ℕ → List ℕ → List ℕ
minted_signature name root = chain (derived_key root) (identifier_of name) []

-- A key's pass without caveats, with this signature.
abbrev pub key_pass : List ℕ → List ℕ → Plain
key_pass name signature = record {
  location = codes "club-desk";
  identifier = identifier_of name;
  caveats = [];
  signature = signature;
}

-- The name of the key in an identifier. The result is `None` unless the identifier is `key:`
-- followed by a valid name.
unfoldable pub key_name_in : List ℕ → Option (List ℕ)
key_name_in identifier = if bytes_eq (take 4 identifier) (codes "key:") then name_of_text (drop 4 identifier) else None

-- The key that an identifier names, or `None` if the club has no such key.
abbrev pub key_in : Club → List ℕ → Option Key
key_in club identifier = option_and_then (λ (name : List ℕ). key_named name club) (key_name_in identifier)

-- `key_name_in` finds a name in an identifier if and only if the name is valid and the identifier
-- is `key:` followed by this name.
abbrev pub FindsNames : Type 0
FindsNames =
    (identifier name : List ℕ) → (key_name_in identifier ≡ Some name) ↔ (IsName name × (identifier ≡ identifier_of name))

-- `seen` is the decoded pass that the rules of the club use. The rules use three parts of a pass:
-- - the name of the key in the pass's identifier
-- - the meaning of each caveat that is understood
-- - the roots under which the pass is signed
pub record IsSeenAs (pass : Plain) (seen : Pass) : Type 0 where
  pub names : (name : List ℕ) → (seen.key ≡ Some name) ↔ (IsName name × (pass.identifier ≡ identifier_of name))
  pub understood :
      AllZip (λ (text : List ℕ) (one : Option Caveat). (caveat : Caveat) → (one ≡ Some caveat) ↔ Understood text caveat) pass.caveats seen.caveats
  pub signed : (root : List ℕ) → IsTrue (seen.is_signed root) ↔ IsSigned root pass

-- Converts the fault of a text to the fault that the rules of the club use. By the law
-- `ReadsNoLackOfMemory`, no text has the fault `Memory`, so the result for `Memory` doesn't matter.
abbrev pub fault_of : FormFault → PassFault
fault_of faults.TooLong = TooLong
fault_of faults.Malformed = Malformed
fault_of faults.ThirdParty = ThirdParty
fault_of faults.TooMany = TooMany
fault_of faults.Memory = Malformed

-- The result is the decoded pass of the text, or the fault of the text. The text may be in any
-- form.
abbrev pub IsDecoded : List ℕ → Result Pass PassFault → Type 0
IsDecoded text (Ok seen) = (form : Form) × (pass : Plain) × IsAnyReading text (Ok (form, pass)) × IsSeenAs pass seen
IsDecoded text (Err fault) = (reason : FormFault) × IsAnyReading text (Err reason) × (fault ≡ fault_of reason)

-- The decoded words of a request: the decoded pass or the fault of the text, and the request
-- itself.
abbrev pub AreWordsOf : List ℕ → Request → Words → Type 0
AreWordsOf text request words = IsDecoded text words.pass × (words.request ≡ request)
