use Rattle.cdk_manifest.proofs.WholeManifest.{manifests_are_whole}
use Rattle.cdk_manifest.proofs.laws.manifests_are_whole.Goals as goal

pub returns : goal.returns
returns c = manifests_are_whole
