use Rattle.cdk_printing.proofs.Feeds.{feeds-report_text}
use Rattle.cdk_printing.proofs.laws.no_line_is_forged.Goals as goal

pub returns : goal.returns
returns c ss = feeds-report_text ss
