use Rattle.std.proofs.Common.{sym, ap, ◌∙◌}
use Rattle.serde_json.specs.View.{view}
use Rattle.serde_json.proofs.Views.{view-Array}
use Rattle.cdk_intrinsics.specs.Forms.{if_arguments}
use Rattle.cdk_intrinsics.proofs.Parts.{no_if_arguments}
use Rattle.cdk_intrinsics.proofs.forms.if_arguments.Goals as goal

pub returns-in_default-three_of-clause-parts : goal.returns-in_default-three_of-clause-parts
returns-in_default-three_of-clause-parts c = sym (ap if_arguments (ap view c.in-Array.is ∙ view-Array c.in-Array.items) ∙ no_if_arguments c.in-Array.items.items c.in_default-three_of.ensures)
