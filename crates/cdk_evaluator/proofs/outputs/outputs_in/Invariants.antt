use Rattle.std.proofs.Common.{◌≡◌, ◌++◌, map}
use Rattle.serde_json.specs.View.{members_view}
use Rattle.cdk_scopes.specs.Scopes.{scope_view, presence_of}
use Rattle.cdk_eval.specs.Stack.{output_outcomes, export_entries}
use Rattle.cdk_eval.specs.Views.{output_entry}
use Rattle.cdk_evaluator.specs.Made.{export_pair}
use Rattle.cdk_evaluator.proofs.outputs.outputs_in.Given as goal

abbrev pub invariant-loop-logical : goal.invariant-loop-logical
invariant-loop-logical l =
    (output_outcomes (presence_of l.truths) (scope_view l.scope) (members_view l.members.entries) ≡ map output_entry l.made.outputs ++ output_outcomes (presence_of l.truths) (scope_view l.scope) (members_view l.logical-iterator))
    × (export_entries (presence_of l.truths) (scope_view l.scope) (members_view l.members.entries) ≡ map export_pair l.made.exports ++ export_entries (presence_of l.truths) (scope_view l.scope) (members_view l.logical-iterator))
