use Rattle.cdk_names.proofs.Alphanumerics.{unique_id_lem}
use Rattle.cdk_names.proofs.laws.unique_ids_are_alphanumeric.Goals as goal

pub returns : goal.returns
returns c = unique_id_lem
