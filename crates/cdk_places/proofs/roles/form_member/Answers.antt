use Rattle.std.proofs.Common.{◌∙◌}
use Rattle.cdk_places.proofs.FormNames.{member_of_form, member_of_none}
use Rattle.cdk_places.proofs.roles.form_member.Goals as goal

pub returns-in-Some : goal.returns-in-Some
returns-in-Some c = c.argument_role.ensures ∙ member_of_form c.args.within c.args.key.now c.in-Some.form c.in-Some.ensures

pub returns-in-None : goal.returns-in-None
returns-in-None c = member_of_none c.args.within c.args.key.now c.in-None.ensures
