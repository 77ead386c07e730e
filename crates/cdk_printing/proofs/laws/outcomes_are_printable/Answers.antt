use Rattle.cdk_printing.proofs.Assembly.{outcomes_printable}
use Rattle.cdk_printing.proofs.laws.outcomes_are_printable.Goals as goal

pub returns : goal.returns
returns c v ss = outcomes_printable v ss
