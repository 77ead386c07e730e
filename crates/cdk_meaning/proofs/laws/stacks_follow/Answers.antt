use Rattle.cdk_meaning.proofs.Exports.{stacks_follow}
use Rattle.cdk_meaning.proofs.laws.stacks_follow.Goals as goal

pub returns : goal.returns
returns c = stacks_follow
