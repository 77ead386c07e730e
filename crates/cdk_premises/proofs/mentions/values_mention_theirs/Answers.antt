use Rattle.cdk_premises.proofs.ValueMentions.{values_mention_theirs}
use Rattle.cdk_premises.proofs.mentions.values_mention_theirs.Goals as goal

pub returns : goal.returns
returns c = values_mention_theirs
