use Rattle.club_gate.proofs.desk.Desk.reply_to.Given as given
use Rattle.club_gate.proofs.desk.Desk.reply_to.Goals as goal
use Rattle.club_gate.proofs.{Common.{All-head, Club, FitsIfAny, IsSound, List, arith, decoded_words, inl, inr, verdict_in, ◌∙◌, ◌≡◌}, DeskLemmas.always_decided}
use Rattle.club_gate.proofs.{DeskLemmas.{ask_done, ask_failed, ask_fits, changed_fault, fails_at_its_words}, desk.Desk.reply_to.Goals.After-settle}

decided : (g : given.Over) (c : After-settle g) → g.S.ClubStore.ghosts.is_clean c.settle.new.self → (club : Club) (others : List Club)
    → g.S.ClubStore.ghosts.represents c.args.self.now club others
    → (c.in_ok-verdict.verdict ≡ verdict_in club (decoded_words c.args.words.now.pass.now c.args.words.now.request) c.args.moment)
    × g.S.ClubStore.ghosts.represents c.verdict.new.self club others × FitsIfAny c.in_ok-verdict.verdict.change club
decided g c was_clean club others represents =
    let before = c.settle.ensures.was_clean was_clean in
    let words = decoded_words c.args.words.now.pass.now c.args.words.now.request in
    let is = c.in_ok-verdict.ensures.returned before club others represents in
    let sound = All-head IsSound club others (g.met.S.ClubStore.sound c.args.self.now club others represents) in (
      is,
      c.verdict.ensures.kept before club others represents,
      ask_fits c.changes_fit.ensures club words c.args.moment c.in_ok-verdict.verdict sound c.within.ensures is,
    )

pub returns-in_err-settle-clause-steps : goal.returns-in_err-settle-clause-steps
returns-in_err-settle-clause-steps g c = grind (arith, decided, ask_failed)

pub returns-clause-steps : goal.returns-clause-steps
returns-clause-steps g c = λ was_clean club others represents.
    let is = decided g (goal.at.returns-clause-steps g c).After-settle was_clean club others represents in
    inl (ask_done g.S.ClubStore.ghosts c.settle.new.self club others c.never_unavailable.ensures _ c.args.moment c.in_ok-verdict.verdict is.0
    (c.in_ok-settle.ensures.settled was_clean club others is.1 is.2))

pub returns-in_err-verdict-clause-untouched : goal.returns-in_err-verdict-clause-untouched
returns-in_err-verdict-clause-untouched g c = λ fault e. (c.verdict.ensures.refused fault e).same_store

pub returns-in_err-settle-clause-untouched : goal.returns-in_err-settle-clause-untouched
returns-in_err-settle-clause-untouched g c = λ fault e.
    (c.settle.ensures.nothing (c.in_ok-verdict.ensures.refused fault e).no_change).1 ∙ (c.verdict.ensures.refused fault e).same_store

pub returns-clause-untouched : goal.returns-clause-untouched
returns-clause-untouched g c = λ fault e.
    (c.settle.ensures.nothing (c.in_ok-verdict.ensures.refused fault e).no_change).1 ∙ (c.verdict.ensures.refused fault e).same_store

pub returns-in_err-verdict-clause-failed : goal.returns-in_err-verdict-clause-failed
returns-in_err-verdict-clause-failed g c = λ was_clean club others represents is. elim (c.in_err-verdict.ensures.failed was_clean) [
  | inl failed ↦ inl (_, λ words are. inl failed)
  | inr json ↦ inr json
]

pub returns-in_err-settle-clause-failed : goal.returns-in_err-settle-clause-failed
returns-in_err-settle-clause-failed g c = λ was_clean club others represents is.
    let its = decided g (goal.at.returns-in_err-settle-clause-failed g c).After-settle was_clean club others represents in
    let failed = changed_fault g.S.ClubStore.ghosts c.args.self.now c.verdict.new.self c.settle.new.self club _ c.args.moment c.in_ok-verdict.verdict
    its.0 _ (c.in_ok-verdict.ensures.failed (c.settle.ensures.was_clean was_clean)) (c.in_err-settle.ensures.failed was_clean) in
    inl (
      _,
      fails_at_its_words g.S.ClubStore.ghosts c.args.self.now c.settle.new.self club c.args.words.now.pass.now c.args.words.now.request c.args.moment _
          c.decodes.ensures c.are_bytes.ensures failed,
    )

pub returns-clause-failed : goal.returns-clause-failed
returns-clause-failed g c = λ was_clean club others represents is.
    let its = decided g (goal.at.returns-clause-failed g c).After-settle was_clean club others represents in
    absurd (always_decided c.never_unavailable.ensures club _ c.args.moment c.in_ok-verdict.verdict its.0 is)
