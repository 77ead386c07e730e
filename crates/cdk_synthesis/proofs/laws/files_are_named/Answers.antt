use Rattle.cdk_synthesis.proofs.AssemblyLaws.{files_are_named_law}
use Rattle.cdk_synthesis.proofs.laws.files_are_named.Goals as goal

pub returns : goal.returns
returns c = files_are_named_law
