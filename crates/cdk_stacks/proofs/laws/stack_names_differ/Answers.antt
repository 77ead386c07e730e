use Rattle.cdk_stacks.proofs.NameLaws.{stack_names_differ}
use Rattle.cdk_stacks.proofs.laws.stack_names_differ.Goals as goal

pub returns : goal.returns
returns c = stack_names_differ
