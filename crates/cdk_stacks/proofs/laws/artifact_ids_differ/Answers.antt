use Rattle.cdk_stacks.proofs.NameLaws.{artifact_ids_differ}
use Rattle.cdk_stacks.proofs.laws.artifact_ids_differ.Goals as goal

pub returns : goal.returns
returns c = artifact_ids_differ
