-- Computes the model of the code's `Words`. `IsModelOf` defines the model, and a law states that
-- the computed model agrees with `IsModelOf`.
use Rattle.std.specs.{List.list_any, Prelude.{map, Result, Ok, Err}, Str.bytes_eq, Vec.vec_items}
use Rattle.club_core.specs.{Request.{Pass, Words}, declared.pass_fault.PassFault.PassFault}
use Rattle.club_reference.specs.declared.words.{Pass.Pass as PassInCode, Words.Words as WordsInCode}
use Rattle.pass_caveats.specs.computed.CaveatOf.{caveat_of}

-- The model of a pass, with the parsed caveats. A root signs the model if and only if the root is
-- in the pass's list of roots.
abbrev pub pass_model : PassInCode → Pass
pass_model pass = record {
  key = pass.key;
  caveats = map caveat_of (map vec_items pass.caveats.items);
  is_signed = λ root. list_any (λ other. bytes_eq other root) pass.roots.items;
}

abbrev pub pass_result_model : Result PassInCode PassFault → Result Pass PassFault
pass_result_model (Ok pass) = Ok (pass_model pass)
pass_result_model (Err fault) = Err fault

abbrev pub words_model : WordsInCode → Words
words_model words = record { pass = pass_result_model words.pass; request = words.request }
