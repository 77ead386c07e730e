use Rattle.cdk_premises.proofs.PlainApplications.{operands_are_read_plain}
use Rattle.cdk_premises.proofs.mentions.operands_are_read_plain.Goals as goal

pub returns : goal.returns
returns c = operands_are_read_plain
