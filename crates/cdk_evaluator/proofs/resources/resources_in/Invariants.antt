use Rattle.std.proofs.Common.{◌≡◌, ◌++◌, map}
use Rattle.serde_json.specs.View.{members_view}
use Rattle.cdk_scopes.specs.Scopes.{scope_view, presence_of}
use Rattle.cdk_eval.specs.Stack.{resource_outcomes}
use Rattle.cdk_eval.specs.Views.{resource_view}
use Rattle.cdk_evaluator.proofs.resources.resources_in.Given as goal

abbrev pub invariant-loop-logical : goal.invariant-loop-logical
invariant-loop-logical l =
    resource_outcomes (presence_of l.truths) (scope_view l.scope) (members_view l.members.entries) ≡ map resource_view l.resources ++ resource_outcomes (presence_of l.truths) (scope_view l.scope) (members_view l.logical-iterator)
