use Rattle.cdk_expansion.proofs.BoundLazies.{lazies_suffice}
use Rattle.cdk_expansion.proofs.laws.lazies_suffice.Goals as goal

pub returns : goal.returns
returns c = lazies_suffice
