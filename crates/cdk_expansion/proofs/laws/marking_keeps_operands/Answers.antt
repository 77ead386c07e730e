use Rattle.cdk_expansion.proofs.Joined.{marking_keeps_operands}
use Rattle.cdk_expansion.proofs.laws.marking_keeps_operands.Goals as goal

pub returns : goal.returns
returns c = marking_keeps_operands
