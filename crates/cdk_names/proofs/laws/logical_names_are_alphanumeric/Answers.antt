use Rattle.cdk_names.proofs.FormLaws.{logical_lem}
use Rattle.cdk_names.proofs.laws.logical_names_are_alphanumeric.Goals as goal

pub returns : goal.returns
returns c = logical_lem
