use Rattle.cdk_stacks.proofs.NameLaws.{stacks_have_names}
use Rattle.cdk_stacks.proofs.laws.stacks_have_names.Goals as goal

pub returns : goal.returns
returns c = stacks_have_names
