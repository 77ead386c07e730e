use Rattle.std.proofs.Common.{◌≡◌, ℕ, List}
use Rattle.std.specs.Prelude.{◌||◌}
use Rattle.serde_json.specs.View.{members_view}
use Rattle.cdk_eval.specs.Manifest.{stack_ids}
use Rattle.cdk_eval.specs.Reach.{is_among}
use Rattle.cdk_artifacts.specs.Found.{has_name}
use Rattle.cdk_artifacts.proofs.stacks.stack_ids.Given as goal

abbrev pub invariant-loop-id : goal.invariant-loop-id
invariant-loop-id l =
    (goal.iterator-loop-id).can_next l.id-iterator ×
    (goal.iterator-loop-id).is_finite l.id-iterator ×
    ((n : List ℕ) → is_among n (stack_ids (members_view l.artifacts.entries)) ≡ has_name l.ids n || is_among n (stack_ids (members_view l.id-iterator)))
