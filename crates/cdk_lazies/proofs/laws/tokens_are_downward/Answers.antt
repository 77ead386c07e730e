use Rattle.cdk_lazies.proofs.LawTokens.{tokens_are_downward}
use Rattle.cdk_lazies.proofs.laws.tokens_are_downward.Goals as goal

pub returns : goal.returns
returns c = tokens_are_downward
