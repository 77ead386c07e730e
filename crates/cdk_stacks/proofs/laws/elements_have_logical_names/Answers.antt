use Rattle.cdk_stacks.proofs.NameLaws.{elements_have_logical_names}
use Rattle.cdk_stacks.proofs.laws.elements_have_logical_names.Goals as goal

pub returns : goal.returns
returns c = elements_have_logical_names
