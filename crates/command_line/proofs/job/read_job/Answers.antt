use Rattle.command_line.proofs.job.read_job.Goals as goal
use Rattle.std.proofs.Common.{arith, refl}
use Rattle.command_line.{proofs.RowLemmas.{accepted, refused, reads_accepted, reads_fault, row_named}, specs.Table.{asked, refusals}}

pub job_found-requires : goal.job_found-requires
unfolding refusals asked
job_found-requires g c κs =
    let parse = c.in-Ok-try_get_matches_from.ensures in
    let parsed = accepted _ _ _ c.in-Ok.ensures.made c.application.ensures.good.free _ parse.matches parse.kinds in
    ((refl, tt), rw parsed.1 (row_named _ c.arguments_name_a_row.ensures c.application.ensures.good _ parsed.0))

pub returns-in-Ok-job_found : goal.returns-in-Ok-job_found
returns-in-Ok-job_found g c =
    let parse = c.in-Ok-try_get_matches_from.ensures in
    let parsed = accepted _ _ _ c.in-Ok.ensures.made c.application.ensures.good.free _ parse.matches parse.kinds in
    reads_accepted _ _ _ _ parsed.0 parsed.1 _ c.in-Ok-job_found.ensures

pub returns-in-Err-job_found : goal.returns-in-Err-job_found
returns-in-Err-job_found g c =
    let parse = c.in-Ok-try_get_matches_from.ensures in
    let parsed = accepted _ _ _ c.in-Ok.ensures.made c.application.ensures.good.free _ parse.matches parse.kinds in
    reads_fault _ _ _ _ parsed.0 parsed.1 c.in-Err-job_found.fault c.in-Err-job_found.ensures

pub returns-in-DisplayHelp : goal.returns-in-DisplayHelp
unfolding refusals
returns-in-DisplayHelp g c = grind (arith, refused)

pub returns-in-DisplayVersion : goal.returns-in-DisplayVersion
unfolding refusals
returns-in-DisplayVersion g c = grind (arith, refused)

pub returns-in_default-kind : goal.returns-in_default-kind
unfolding refusals
returns-in_default-kind g c = grind (arith, refused)
