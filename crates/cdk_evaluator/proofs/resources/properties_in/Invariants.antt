use Rattle.std.proofs.Common.{◌≡◌, ◌++◌, map}
use Rattle.serde_json.specs.View.{members_view}
use Rattle.cdk_scopes.specs.Scopes.{scope_view}
use Rattle.cdk_eval.specs.Template.{each_member}
use Rattle.cdk_eval.specs.Views.{property_view}
use Rattle.cdk_evaluator.proofs.resources.properties_in.Given as goal

abbrev pub invariant-loop-key : goal.invariant-loop-key
invariant-loop-key l = each_member (scope_view l.scope) (members_view l.members.entries) ≡ map property_view l.properties ++ each_member (scope_view l.scope) (members_view l.key-iterator)
