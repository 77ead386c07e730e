use Rattle.cdk_premises.proofs.OwnForms.{conditions_need_no_more, values_need_no_more}
use Rattle.cdk_premises.proofs.rendered.forms_need_no_more.Goals as goal

pub returns : goal.returns
returns c = record { values = values_need_no_more c.loops_are_found.ensures; conditions = conditions_need_no_more c.loops_are_found.ensures }
