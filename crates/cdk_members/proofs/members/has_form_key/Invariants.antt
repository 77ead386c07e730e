use Rattle.std.proofs.Common.{◌≡◌}
use Rattle.serde_json.specs.View.{members_view}
use Rattle.cdk_language.specs.Application.{has_form_key as spec_has_form_key}
use Rattle.cdk_members.proofs.members.has_form_key.Given as goal

abbrev pub invariant-loop-key : goal.invariant-loop-key
invariant-loop-key l =
    (goal.iterator-loop-key).can_next l.key-iterator ×
    (goal.iterator-loop-key).is_finite l.key-iterator ×
    (spec_has_form_key (members_view l.members.entries) ≡ spec_has_form_key (members_view l.key-iterator))
