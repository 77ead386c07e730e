use Rattle.cdk_manifest.proofs.ToldStacks.{manifests_tell_stacks}
use Rattle.cdk_manifest.proofs.laws.manifests_tell_stacks.Goals as goal

pub returns : goal.returns
returns c = manifests_tell_stacks
