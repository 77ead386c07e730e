use Rattle.cdk_premises.proofs.OperandMentions.{operands_mention_theirs}
use Rattle.cdk_premises.proofs.mentions.operands_mention_theirs.Goals as goal

pub returns : goal.returns
returns c = operands_mention_theirs
