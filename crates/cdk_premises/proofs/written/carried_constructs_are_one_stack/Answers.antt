use Rattle.cdk_premises.proofs.Walked.{carried_constructs_are_one_stack}
use Rattle.cdk_premises.proofs.written.carried_constructs_are_one_stack.Goals as goal

pub returns : goal.returns
returns c = carried_constructs_are_one_stack
