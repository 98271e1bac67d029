use Rattle.club_gate.proofs.desk.Desk.ask.Goals as goal
use Rattle.std.specs.Result.{result_unwrap_or}
use Rattle.club_core.specs.declared.reply.Reply.{Reply}
use Rattle.club_gate.proofs.{Common.{Err, Result, StoreFault, arith, decoded_words, refl, verdict_in, ◌∙◌, ◌≡◌}, DeskLemmas.{lawful, reply_or_failure}}
use Rattle.club_gate.specs.{Response.{reply_or_unavailable, unavailable}, computed.DecodedPass.decoded_pass}

reply_is : (result : Result Reply StoreFault) → result_unwrap_or result unavailable ≡ reply_or_unavailable result
reply_is result = grind arith

pub returns-clause-lawful : goal.returns-clause-lawful
returns-clause-lawful g c = λ was_clean club others represents.
    let text = c.args.words.now.pass.now in
    let request = c.args.words.now.request in
    lawful c.serves_only_the_entitled.ensures c.depends_on_the_basis_alone.ensures c.refuses_without_a_basis.ensures
    c.more_caveats_never_open_more.ensures c.reads_any_form_exactly.ensures c.decides_signed.ensures c.finds_names.ensures
    c.reads_what_is_understood.ensures c.decodes.ensures club text request c.args.moment c.are_bytes.ensures _
    (rw (c.unwrap_or.ensures ∙ reply_is c.reply_to.result) (reply_or_failure g.S.ClubStore.ghosts c.reply_to.new.self club others
    (verdict_in club (decoded_words text request) c.args.moment) _ (c.reply_to.ensures.steps was_clean club others represents)))

pub returns-clause-steps : goal.returns-clause-steps
returns-clause-steps g c = λ was_clean.
    let decoded = (c.decodes.ensures c.args.words.now.pass.now (decoded_pass c.args.words.now.pass.now) c.are_bytes.ensures).1 refl in
    let steps = c.reply_to.ensures.steps was_clean in
    (_, (decoded, refl), rw (c.unwrap_or.ensures ∙ reply_is c.reply_to.result) steps)

pub returns-clause-untouched : goal.returns-clause-untouched
returns-clause-untouched g c = λ fault read.
    c.reply_to.ensures.untouched fault ((c.reads_any_form_exactly.ensures c.args.words.now.pass.now (Err fault) c.are_bytes.ensures).0 read)

pub returns-clause-in_place : goal.returns-clause-in_place
returns-clause-in_place g c = λ fault in_place read.
    let computed = (c.reads_any_form_exactly.ensures c.args.words.now.pass.now (Err fault) c.are_bytes.ensures).0 read in
    rw (c.unwrap_or.ensures, c.reply_to.ensures.in_place fault in_place computed) refl
