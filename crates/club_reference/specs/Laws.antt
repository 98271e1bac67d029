-- A law about the model of `Words`.
use Rattle.std.specs.Prelude.{◌≡◌, ◌↔◌}
use Rattle.club_core.specs.Request.{Words}
use Rattle.club_reference.specs.{Words.IsModelOf, computed.Words.words_model, declared.words.Words.Words as WordsInCode}

-- A value of `Words` has exactly one model, and `words_model` computes this model.
abbrev pub ModelsWords : Type 0
ModelsWords = (words : WordsInCode) (model : Words) → IsModelOf words model ↔ (words_model words ≡ model)
