use Rattle.cdk_stacks.proofs.NameLaws.{no_artifact_is_tree}
use Rattle.cdk_stacks.proofs.laws.no_artifact_is_tree.Goals as goal

pub returns : goal.returns
returns c = no_artifact_is_tree
