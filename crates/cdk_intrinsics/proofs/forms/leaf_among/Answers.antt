use Rattle.cdk_scopes.specs.Scopes.{scope_view}
use Rattle.cdk_intrinsics.proofs.Parts.{leaf_other}
use Rattle.cdk_intrinsics.proofs.forms.leaf_among.Goals as goal

pub returns-in_default : goal.returns-in_default
returns-in_default c = leaf_other (scope_view c.args.scope.now) c.args.names.now.items c.in_default.ensures
