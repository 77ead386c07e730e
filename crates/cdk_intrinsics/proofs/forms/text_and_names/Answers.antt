use Rattle.cdk_intrinsics.proofs.Parts.{sub_other}
use Rattle.cdk_intrinsics.proofs.forms.text_and_names.Goals as goal

pub returns-in_default : goal.returns-in_default
returns-in_default c s = sub_other s c.args.items.now.items c.in_default.ensures
