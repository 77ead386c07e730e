use Rattle.std.proofs.Common.{◌≡◌, drop}
use Rattle.serde_json.specs.View.{items_view}
use Rattle.cdk_eval.specs.Conditions.{item_truths}
use Rattle.cdk_eval.specs.Outcomes.{Holds}
use Rattle.cdk_eval.specs.Template.{outcome}
use Rattle.cdk_scopes.specs.Scopes.{scope_view, truth_in}
use Rattle.cdk_conditions.specs.Kept.{hold_by, both_by}
use Rattle.cdk_conditions.proofs.truth.+truth.Given as goal

abbrev pub invariant-few_truth-loop-item : goal.invariant-few_truth-loop-item
invariant-few_truth-loop-item l =
    hold_by l.is_all (item_truths (outcome (scope_view l.scope)) (truth_in l.truths) (items_view l.item-items)) ≡ both_by l.is_all (Holds l.holds) (hold_by l.is_all (item_truths (outcome (scope_view l.scope)) (truth_in l.truths) (items_view (drop l.item-index l.item-items))))
