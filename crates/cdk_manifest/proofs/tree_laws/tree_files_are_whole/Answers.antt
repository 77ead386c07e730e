use Rattle.cdk_manifest.proofs.TreeFileLaws.{tree_files_are_whole}
use Rattle.cdk_manifest.proofs.tree_laws.tree_files_are_whole.Goals as goal

pub returns : goal.returns
returns c = tree_files_are_whole
