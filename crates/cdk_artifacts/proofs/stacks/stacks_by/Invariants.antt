use Rattle.std.proofs.Common.{◌≡◌, ◌++◌, map}
use Rattle.serde_json.specs.View.{members_view}
use Rattle.cdk_artifacts.specs.Found.{has_name, stack_view, stacks_by}
use Rattle.cdk_artifacts.proofs.stacks.stacks_by.Given as goal

abbrev pub invariant-loop-id : goal.invariant-loop-id
invariant-loop-id l =
    (goal.iterator-loop-id).can_next l.id-iterator ×
    (goal.iterator-loop-id).is_finite l.id-iterator ×
    (stacks_by (has_name l.ids) (members_view l.artifacts.entries) ≡ map stack_view l.stacks.items ++ stacks_by (has_name l.ids) (members_view l.id-iterator))
