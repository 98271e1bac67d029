use Rattle.club_reference.proofs.words.Words.answer.Goals as goal
use Rattle.club_reference.{proofs.StepLemmas.their_model, specs.computed.Words.words_model}

pub returns : goal.returns
returns c = (words_model c.args.self.now, their_model c.models_words.ensures c.args.self.now, c.verdict.ensures)
