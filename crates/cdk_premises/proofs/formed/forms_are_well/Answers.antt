use Rattle.cdk_premises.proofs.FitForms.{forms_are_well}
use Rattle.cdk_premises.proofs.formed.forms_are_well.Goals as goal

pub returns : goal.returns
returns c = forms_are_well
