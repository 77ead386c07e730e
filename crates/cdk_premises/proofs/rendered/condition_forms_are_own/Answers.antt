use Rattle.cdk_premises.proofs.OwnForms.{condition_forms_are_own}
use Rattle.cdk_premises.proofs.rendered.condition_forms_are_own.Goals as goal

pub returns : goal.returns
returns c = condition_forms_are_own
