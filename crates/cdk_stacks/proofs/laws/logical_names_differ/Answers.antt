use Rattle.cdk_stacks.proofs.NameLaws.{logical_names_differ}
use Rattle.cdk_stacks.proofs.laws.logical_names_differ.Goals as goal

pub returns : goal.returns
returns c = logical_names_differ
