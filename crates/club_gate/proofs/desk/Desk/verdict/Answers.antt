use Rattle.club_gate.proofs.desk.Desk.verdict.Given as given
use Rattle.club_gate.proofs.desk.Desk.verdict.Goals as goal
use Rattle.club_gate.proofs.{Common.{arith, reading, reading_in_form, ◌≡◌}, VerifyLemmas.{text_fault as fault_in, other_form}}
use Rattle.club_gate.proofs.desk.Desk.verdict.Goals.{After-verdict_on}
use Rattle.pass_forms.specs.computed.Reading.{in_form}

reads_by_bytes : (g : given.Over) (c : After-verdict_on g)
    → reading c.args.words.now.pass.now ≡ in_form c.in-Ok.unwrapped.form (reading_in_form c.in-Ok.unwrapped.form c.bytes-bytes.result.now)
reads_by_bytes g c = grind arith

pub returns-in-Ok-clause-returned : goal.returns-in-Ok-clause-returned
returns-in-Ok-clause-returned g c = grind (arith, reads_by_bytes g (goal.at.returns-in-Ok-clause-returned g c).After-verdict_on)

pub returns-in-Ok-clause-refused : goal.returns-in-Ok-clause-refused
returns-in-Ok-clause-refused g c = λ fault e.
    let text = c.args.words.now.pass.now in
    let form = c.in-Ok.unwrapped.form in
    let read = reads_by_bytes g (goal.at.returns-in-Ok-clause-refused g c).After-verdict_on in
    let refused = c.verdict_on.ensures.refused fault (fault_in form (reading_in_form form c.bytes-bytes.result.now) text fault read e) in
    record {
      same_store = refused.same_store;
      no_change = refused.no_change;
      in_place = λ in_place. refused.in_place (other_form text form _ c.in-Ok.ensures.reading in_place);
    }
