-- Defines the results of writing a pass, and the buffer where the writers put their bytes. In each
-- form, a writer may return only one text for a pass. This project chose the limits, the order of
-- the faults, and base64 without padding.
use Rattle.std.specs.{List.AllByRecursion, Prelude.{◌≡◌, ℕ, ◌<◌, List, ◌++◌, length, Result, Ok, Err, ◌≤◌, [], ◌∷◌, Option, None, Some, IsOk}}
use Rattle.base64.specs.{Engines.url_safe_no_pad, GeneralPurpose.{IsBytes, encode_of}}
use Rattle.pass_forms.specs.{Envelope.IsUnwrapped, Pass.{Plain, WidePass, as_wide_pass}, Reading.{IsReadAs, max_caveats, max_text_len}, V1.SpellsV1}
use Rattle.pass_forms.specs.{V1.packets_of, V2.{SpellsV2, sections}, declared.fault.FormFault.{FormFault, TheVariants.{TooLong, Malformed, ThirdParty}}}
use Rattle.pass_forms.specs.declared.{fault.FormFault.TheVariants.{TooMany, Memory}, form.Form.Form}
use Rattle.pass_mac.specs.Hmac.{hmac}

-- The length of the buffer. A base64 text of 8,192 characters encodes at most 6,144 bytes.
abbrev pub buffer_len : ℕ
buffer_len = 6144

-- The result of appending `bytes` to a buffer. The call either appends all bytes, or fails with
-- `TooLong` because the buffer has no room.
abbrev pub Puts : List ℕ → List ℕ → List ℕ → Result (Unit {0}) FormFault → Type 0
Puts bytes old new (Ok _) = new ≡ old ++ bytes
Puts bytes old new (Err fault) = (fault ≡ TooLong) × (buffer_len < length (old ++ bytes))

-- Encodes bytes in URL-safe base64 (RFC 4648, section 5) without padding (section 3.2).
abbrev pub in_base64 : List ℕ → List ℕ
in_base64 bytes = encode_of url_safe_no_pad bytes

-- Returns the bytes of a pass in V1. The bytes are valid only if the length of each packet fits in
-- four hexadecimal digits.
unfoldable pub v1_bytes : Plain → List ℕ
v1_bytes pass = packets_of (as_wide_pass pass)

-- Returns the location to write in V2. This project doesn't write an empty location.
abbrev pub nonempty_location : List ℕ → Option (List ℕ)
nonempty_location [] = None
nonempty_location (byte ∷ bytes) = Some (byte ∷ bytes)

-- Returns the bytes of a pass in V2.
unfoldable pub v2_bytes : Plain → List ℕ
v2_bytes pass = sections (nonempty_location pass.location) (as_wide_pass pass)

-- The text is base64 of the bytes that `bytes_of` returns for the pass. These bytes encode the
-- pass.
pub record IsTextBy (bytes_of : Plain → List ℕ) (Spells : List ℕ → WidePass → Type 0) (pass : Plain) (text : List ℕ) : Type 0 where
  pub encoding : text ≡ in_base64 (bytes_of pass)
  pub spelling : Spells (bytes_of pass) (as_wide_pass pass)

abbrev pub IsV1Text : Plain → List ℕ → Type 0
IsV1Text pass text = IsTextBy v1_bytes SpellsV1 pass text

abbrev pub IsV2Text : Plain → List ℕ → Type 0
IsV2Text pass text = IsTextBy v2_bytes SpellsV2 pass text

-- A writer may return this text for the pass. The length of the text and the number of caveats are
-- within the limits.
pub record IsWritableText (IsText : Plain → List ℕ → Type 0) (pass : Plain) (text : List ℕ) : Type 0 where
  pub is_text : IsText pass text
  pub short : length text ≤ max_text_len
  pub few : length pass.caveats ≤ max_caveats

-- Defines the condition for each fault of a writer. `TooMany` requires more caveats than the limit.
-- `TooLong` requires that no text of the pass is within the limit. `TooMany` comes before
-- `TooLong`. `Memory` is possible only for a pass that has a text within the limits. No other fault
-- can occur.
abbrev pub IsWriteFault : (Plain → List ℕ → Type 0) → Plain → FormFault → Type 0
IsWriteFault IsText pass TooMany = max_caveats < length pass.caveats
IsWriteFault IsText pass TooLong =
    (length pass.caveats ≤ max_caveats) × ((text : List ℕ) → IsText pass text → max_text_len < length text)
IsWriteFault IsText pass Memory = (text : List ℕ) × IsWritableText IsText pass text
IsWriteFault IsText pass other = ⊥

-- The result of writing a pass is a text that a writer may return, or the first fault that applies.
-- This definition never allows the fault `Memory`, because it describes a writer with enough
-- memory.
abbrev pub IsWriting : (Plain → List ℕ → Type 0) → Plain → Result (List ℕ) FormFault → Type 0
IsWriting IsText pass (Ok text) = IsWritableText IsText pass text
IsWriting IsText pass (Err TooLong) = IsWriteFault IsText pass TooLong
IsWriting IsText pass (Err TooMany) = IsWriteFault IsText pass TooMany
IsWriting IsText pass (Err other) = ⊥

-- `FailsAs writing fault` means that a writer may return `fault` if the computed result is
-- `writing`. If the computed result is a fault, a writer returns the same fault. A writer may
-- return `Memory` instead of a text.
abbrev pub FailsAs : Result (List ℕ) FormFault → FormFault → Type 0
FailsAs writing Memory = IsOk writing
FailsAs writing TooLong = writing ≡ Err TooLong
FailsAs writing Malformed = writing ≡ Err Malformed
FailsAs writing ThirdParty = writing ≡ Err ThirdParty
FailsAs writing TooMany = writing ≡ Err TooMany

-- The text wraps the given bytes in the given form. Reading these bytes gives the pass.
pub record IsReadBack (Spells : List ℕ → WidePass → Type 0) (form : Form) (bytes : List ℕ) (pass : Plain) (text : List ℕ) : Type 0 where
  pub content : IsUnwrapped text (Ok (form, bytes))
  pub read : IsReadAs (length bytes) (Spells bytes) (Ok pass)

-- Each part of the pass is a list of bytes. A byte is a number below 256.
pub record HasBytes (pass : Plain) : Type 0 where
  pub location : IsBytes pass.location
  pub identifier : IsBytes pass.identifier
  pub caveats : AllByRecursion IsBytes pass.caveats
  pub signature : IsBytes pass.signature

-- Returns the pass with one more caveat. The new signature is the HMAC of the caveat, with the old
-- signature as the key. Both the macaroons paper (NDSS 2014) and libmacaroons define narrowing in
-- this way.
abbrev pub with_caveat : List ℕ → Plain → Plain
with_caveat caveat pass = record {
  location = pass.location;
  identifier = pass.identifier;
  caveats = pass.caveats ++ caveat ∷ [];
  signature = hmac pass.signature caveat;
}

-- The faults of narrowing are `TooMany` and `Memory`.
abbrev pub IsNarrowingFault : FormFault → Type 0
IsNarrowingFault TooMany = Unit {0}
IsNarrowingFault Memory = Unit {0}
IsNarrowingFault other = ⊥
