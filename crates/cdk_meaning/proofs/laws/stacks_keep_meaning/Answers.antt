use Rattle.cdk_meaning.proofs.Stack.{stacks_keep_meaning}
use Rattle.cdk_meaning.proofs.laws.stacks_keep_meaning.Goals as goal

pub returns : goal.returns
returns c = stacks_keep_meaning
