use Rattle.club_reference.proofs.club.Club.ask.Goals as goal
use Rattle.std.proofs.{Common.{◌∙◌, rules, sym, ap, subst, arith}, lemmas.{Grind.common_steps, Result.err_from_is_err_and}}
use Rattle.club_core.specs.declared.verdict.Verdict.{Verdict}
use Rattle.club_reference.{proofs.StepLemmas.{AllowsIfAny, fits_after, allows_answer, their_model}, specs.computed.Words.words_model}

pub apply-requires : goal.apply-requires
apply-requires c =
    let answer = c.answer-reply in
    fits_after c.args.self.now _ answer.ensures.fits
    (subst (AllowsIfAny c.args.self.now) (ap (λ (verdict : Verdict). verdict.change) (sym answer.ensures.value) ∙ c.in-Some.is)
    (allows_answer c.args.self.now (words_model c.args.words.now) c.args.moment answer.ensures.fits))

pub returns-in-None-clause-outcome : goal.returns-in-None-clause-outcome
returns-in-None-clause-outcome c = (words_model c.args.words.now, their_model c.models_words.ensures c.args.words.now, search rules)

pub returns-in_ok-apply-in-Some-clause-outcome : goal.returns-in_ok-apply-in-Some-clause-outcome
returns-in_ok-apply-in-Some-clause-outcome c = (words_model c.args.words.now, their_model c.models_words.ensures c.args.words.now, search rules)

pub returns-in_err-apply-in-Some-clause-growth : goal.returns-in_err-apply-in-Some-clause-growth
returns-in_err-apply-in-Some-clause-growth c =
    let p = err_from_is_err_and c.from_residual.result c.from_residual.ensures.1 in
    rw p.1 (words_model c.args.words.now, their_model c.models_words.ensures c.args.words.now, grind (arith, common_steps))
