use Rattle.cdk_names.proofs.FormLaws.{stack_name_lem}
use Rattle.cdk_names.proofs.laws.stack_names_are_ascii.Goals as goal

pub returns : goal.returns
returns c = stack_name_lem
