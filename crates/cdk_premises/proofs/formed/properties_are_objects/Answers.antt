use Rattle.cdk_premises.proofs.FitForms.{properties_are_objects}
use Rattle.cdk_premises.proofs.formed.properties_are_objects.Goals as goal

pub returns : goal.returns
returns c = properties_are_objects
