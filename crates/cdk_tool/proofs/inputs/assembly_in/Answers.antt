use Rattle.cdk_tool.proofs.InputLemmas.{assembly_refused}
use Rattle.cdk_tool.proofs.inputs.assembly_in.Goals as goal

pub returns-in-Err-clause-answer : goal.returns-in-Err-clause-answer
returns-in-Err-clause-answer g c = assembly_refused c.in-Err.error _ c.args.directory.now _ c.unusable_of.ensures c.in-Err.ensures.reads
