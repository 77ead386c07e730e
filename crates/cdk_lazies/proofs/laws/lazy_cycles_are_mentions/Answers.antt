use Rattle.cdk_lazies.proofs.LawWays.{lazy_cycles_are_mentions}
use Rattle.cdk_lazies.proofs.laws.lazy_cycles_are_mentions.Goals as goal

pub returns : goal.returns
returns c = lazy_cycles_are_mentions
