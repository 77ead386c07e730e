use Rattle.cdk_base.proofs.Back.{read-pretty_text}
use Rattle.cdk_base.proofs.value_text.pretty_text_reads_back.Goals as goal

pub returns : goal.returns
returns c = read-pretty_text
