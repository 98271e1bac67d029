-- Defines the results of reading a pass in any form, and the text of each fault. This project chose
-- the limits and the order of the faults.
use Rattle.std.specs.Prelude.{ℕ, List, codes, ◌≡◌, ◌<◌, ◌≤◌, true, false, length, Result, Ok, Err}
use Rattle.pass_forms.specs.{Pass.{Plain, WidePass, has_third_party, as_wide_pass}, declared.fault.FormFault.{FormFault, TheVariants.{TooLong, Malformed}}}
use Rattle.pass_forms.specs.declared.fault.FormFault.TheVariants.{ThirdParty, TooMany, Memory}

abbrev pub fault_text : FormFault → List ℕ
fault_text TooLong = codes "too long"
fault_text Malformed = codes "malformed"
fault_text ThirdParty = codes "third-party caveat"
fault_text TooMany = codes "too many caveats"
fault_text Memory = codes "out of memory"

-- The maximum length of a pass text, in bytes.
abbrev pub max_text_len : ℕ
max_text_len = 8192

-- The maximum number of caveats in a pass.
abbrev pub max_caveats : ℕ
max_caveats = 64

-- The result of reading a text of length `len`. The predicate `Spelled` is true for the wide passes
-- that the text encodes. If no fault applies, the result is the pass. Otherwise the result is the
-- first fault that applies, in this order:
--
-- - `TooLong`
-- - `Malformed`
-- - `ThirdParty`
-- - `TooMany`
abbrev pub IsReadAs : ℕ → (WidePass → Type 0) → Result Plain FormFault → Type 0
IsReadAs len Spelled (Err TooLong) = max_text_len < len
IsReadAs len Spelled (Err Malformed) = (len ≤ max_text_len) × ((wide : WidePass) → ¬ Spelled wide)
IsReadAs len Spelled (Err ThirdParty) =
    (len ≤ max_text_len) × (wide : WidePass) × Spelled wide × (has_third_party wide ≡ true)
IsReadAs len Spelled (Err TooMany) =
    (len ≤ max_text_len) × (wide : WidePass) × Spelled wide × (has_third_party wide ≡ false) × (max_caveats < length wide.caveats)
IsReadAs len Spelled (Ok pass) =
    (len ≤ max_text_len) × Spelled (as_wide_pass pass) × (length pass.caveats ≤ max_caveats)
-- This definition never allows the fault `Memory`, because it describes a reader with enough
-- memory.
IsReadAs len Spelled (Err Memory) = ⊥

-- The result satisfies the predicate `Holds`, or the result is the fault `Memory`.
abbrev pub UnlessMemory : {A : Type 0} → (Result A FormFault → Type 0) → Result A FormFault → Type 0
UnlessMemory Holds (Err Memory) = Unit {0}
UnlessMemory Holds (Err TooLong) = Holds (Err TooLong)
UnlessMemory Holds (Err Malformed) = Holds (Err Malformed)
UnlessMemory Holds (Err ThirdParty) = Holds (Err ThirdParty)
UnlessMemory Holds (Err TooMany) = Holds (Err TooMany)
UnlessMemory Holds (Ok read) = Holds (Ok read)

-- The result satisfies the predicate `Holds`, or the result is the fault `Memory`. The fault
-- `Memory` is possible only if `Holds` is true for some successful result.
abbrev pub OrOutOfMemory : {A : Type 0} → (Result A FormFault → Type 0) → Result A FormFault → Type 0
OrOutOfMemory {A} Holds (Err Memory) = (read : A) × Holds (Ok read)
OrOutOfMemory Holds (Err TooLong) = Holds (Err TooLong)
OrOutOfMemory Holds (Err Malformed) = Holds (Err Malformed)
OrOutOfMemory Holds (Err ThirdParty) = Holds (Err ThirdParty)
OrOutOfMemory Holds (Err TooMany) = Holds (Err TooMany)
OrOutOfMemory Holds (Ok read) = Holds (Ok read)
