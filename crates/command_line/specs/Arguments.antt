-- This file defines the names of the forms, the roots, the values of options, and the results of
-- parsing arguments with `clap`. A root has 1 to 64 bytes in hexadecimal, with capital or small
-- letters.
use Rattle.clap.specs.declared.error.kind.ErrorKind.TheVariants as kind
use Rattle.std.specs.Prelude.{ℕ, List, Option, Some, None, codes, if◌then◌else◌, Result, Ok, Err, length, nat_le, ◌&&◌, ◌≡◌, ◌≢◌, ◌⊎◌, Bool, [], unwrap_or}
use Rattle.std.specs.Str.{bytes_eq}
use Rattle.clap.specs.{Words.{IsAmong, Kinds, Row, Text, first_of, kind_of}, declared.error.kind.ErrorKind.ErrorKind}
use Rattle.command_line.specs.declared.errors.ArgumentsFault.{ArgumentsFault, TheVariants.{Refused, BadValue, Memory}}
use Rattle.hex.specs.{Hex.decode_of, declared.error.FromHexError.FromHexError}
use Rattle.pass_forms.specs.declared.form.Form.{Form, TheVariants.{V1, V2, Json}}

abbrev pub form_name : Form → List ℕ
form_name V1 = codes "v1"
form_name V2 = codes "v2"
form_name Json = codes "json"

-- The form with the given name.
abbrev pub form_named : List ℕ → Option Form
form_named name =
    if bytes_eq name (form_name V1) then Some V1
    else (if bytes_eq name (form_name V2) then Some V2
    else (if bytes_eq name (form_name Json) then Some Json else None))

-- The number of bytes of the longest root.
abbrev pub max_root_bytes : ℕ
max_root_bytes = 64

abbrev pub has_root_length : List ℕ → Option (List ℕ)
has_root_length bytes = if nat_le 1 (length bytes) && nat_le (length bytes) max_root_bytes then Some bytes else None

abbrev pub root_among : Result (List ℕ) FromHexError → Option (List ℕ)
root_among (Ok bytes) = has_root_length bytes
root_among (Err e) = None

-- The root that the text represents in hexadecimal.
unfoldable pub root_of : List ℕ → Option (List ℕ)
root_of text = root_among (decode_of text)

-- The first value that clap found for the argument `id`, or an empty text if clap found none.
abbrev pub value_in : Text → List Row → Text
value_in id rows = unwrap_or (first_of id rows) []

-- The command line has the flag `id`. Clap stores the text `true` as the value of such a flag.
abbrev pub is_set : Text → List Row → Bool
is_set id rows = bytes_eq (value_in id rows) (codes "true")

-- The arguments ask for the text of the help or of the version.
abbrev pub HasText : Kinds → Type 0
HasText kinds = IsAmong kind.DisplayHelp kinds ⊎ IsAmong kind.DisplayVersion kinds

-- The kind of the error is neither `DisplayHelp` nor `DisplayVersion`.
abbrev pub IsNoText : ErrorKind → Type 0
IsNoText of_kind = (of_kind ≢ kind.DisplayHelp) × (of_kind ≢ kind.DisplayVersion)

-- Clap may refuse the arguments with an error of the given kind.
abbrev pub IsRefusedAs : Kinds → ErrorKind → Type 0
IsRefusedAs kinds of_kind = IsAmong of_kind kinds × IsNoText of_kind

-- The fault is clap's error of the given kind, or memory ran out.
abbrev pub IsOfKind : {V : Type 0} → ErrorKind → ArgumentsFault V → Type 0
IsOfKind of_kind (Refused error) = kind_of error ≡ of_kind
IsOfKind of_kind (BadValue value) = ⊥
IsOfKind of_kind Memory = Unit {0}
