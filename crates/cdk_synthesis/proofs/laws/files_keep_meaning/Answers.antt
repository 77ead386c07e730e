use Rattle.cdk_synthesis.proofs.AssemblyLaws.{files_keep_meaning_law}
use Rattle.cdk_synthesis.proofs.laws.files_keep_meaning.Goals as goal

pub returns : goal.returns
returns c = files_keep_meaning_law c.trees_keep_meaning.ensures
