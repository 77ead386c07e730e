use Rattle.std.proofs.Common.{sym}
use Rattle.cdk_places.proofs.FormNames.{no_form}
use Rattle.cdk_places.proofs.forms.is_form.Goals as goal

pub returns-in_default : goal.returns-in_default
returns-in_default c = sym (no_form c.args.within c.args.members.now.entries c.in_default.ensures)
