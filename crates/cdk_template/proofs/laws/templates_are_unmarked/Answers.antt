use Rattle.cdk_template.proofs.WholeTemplates.{templates_are_unmarked}
use Rattle.cdk_template.proofs.laws.templates_are_unmarked.Goals as goal

pub returns : goal.returns
returns c = templates_are_unmarked
