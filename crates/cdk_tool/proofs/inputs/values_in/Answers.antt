use Rattle.cdk_tool.proofs.InputLemmas.{values_unread}
use Rattle.cdk_tool.proofs.inputs.values_in.Goals as goal

pub returns-in-Err-Failed-clause-answer : goal.returns-in-Err-Failed-clause-answer
returns-in-Err-Failed-clause-answer g c = values_unread c.unread.result c.args.file.now _ c.unread.ensures
