use Rattle.std.proofs.Common.{◌≡◌}
use Rattle.serde_json.specs.View.{members_view}
use Rattle.cdk_eval.specs.Template.{has_intrinsic_key}
use Rattle.cdk_intrinsics.proofs.forms.has_intrinsic_key.Given as goal

abbrev pub invariant-loop-key : goal.invariant-loop-key
invariant-loop-key l =
    (goal.iterator-loop-key).can_next l.key-iterator ×
    (goal.iterator-loop-key).is_finite l.key-iterator ×
    (has_intrinsic_key (members_view l.members.entries) ≡ has_intrinsic_key (members_view l.key-iterator))
