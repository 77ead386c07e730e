use Rattle.std.proofs.Common.{sym, ap, ◌∙◌}
use Rattle.serde_json.specs.View.{view}
use Rattle.serde_json.proofs.Views.{view-Array}
use Rattle.cdk_eval.specs.Conditions.{equals_form}
use Rattle.cdk_eval.specs.Template.{outcome}
use Rattle.cdk_scopes.specs.Scopes.{scope_view}
use Rattle.cdk_conditions.proofs.Counts.{equals_other}
use Rattle.cdk_conditions.proofs.truth.equals_truth.Goals as goal

pub returns-in_default-two_of : goal.returns-in_default-two_of
returns-in_default-two_of c =
    let op = outcome (scope_view c.args.scope.now) in
    equals_other op c.in-Array.items.items c.in_default-two_of.ensures ∙ sym (ap (equals_form op) (ap view c.in-Array.is ∙ view-Array c.in-Array.items))
