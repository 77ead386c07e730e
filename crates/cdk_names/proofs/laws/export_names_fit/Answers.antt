use Rattle.cdk_names.proofs.FormLaws.{export_name_lem}
use Rattle.cdk_names.proofs.laws.export_names_fit.Goals as goal

pub returns : goal.returns
returns c = export_name_lem
