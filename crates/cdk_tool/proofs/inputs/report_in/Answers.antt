use Rattle.cdk_tool.proofs.InputLemmas.{without_values, reported}
use Rattle.cdk_tool.proofs.inputs.report_in.Goals as goal

pub returns-in-Err-clause-answer : goal.returns-in-Err-clause-answer
returns-in-Err-clause-answer g c =
    without_values c.in-Err.unusable c.in_ok-assembly.assembly c.args.directory.now c.args.values.now _ _ c.in_ok-assembly.ensures.files c.in_ok-assembly.ensures.answer c.in-Err.ensures.answer

pub returns-clause-answer : goal.returns-clause-answer
returns-clause-answer g c =
    reported c.report_of.result c.in_ok-assembly.assembly c.in-Ok.values c.args.directory.now c.args.values.now _ _ c.in_ok-assembly.ensures.files c.in_ok-assembly.ensures.answer c.in-Ok.ensures.answer c.report_of.ensures.report c.report_of.ensures.refused
