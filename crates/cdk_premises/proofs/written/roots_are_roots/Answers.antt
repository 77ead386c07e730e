use Rattle.cdk_premises.proofs.Roots.{roots_are_roots}
use Rattle.cdk_premises.proofs.written.roots_are_roots.Goals as goal

pub returns : goal.returns
returns c = roots_are_roots
