use Rattle.std.proofs.Common.{◌≡◌, ℕ, List, true}
use Rattle.std.specs.Prelude.{◌⊎◌, is_some}
use Rattle.serde_json.specs.Find.{get_member}
use Rattle.serde_json.specs.View.{view, members_view}
use Rattle.cdk_eval.specs.Sections.{operand_scope}
use Rattle.cdk_eval.specs.Template.{outcome}
use Rattle.cdk_eval.specs.Views.{values_view}
use Rattle.cdk_conditions.specs.Kept.{is_kept, AreRight}
use Rattle.cdk_conditions.specs.Walks.{AreClosed}
use Rattle.cdk_conditions.proofs.order.truths_of.Given as goal

abbrev pub invariant-loop-name : goal.invariant-loop-name
invariant-loop-name l =
    AreRight (outcome (operand_scope (values_view l.values) l.stack (view l.template))) (members_view l.conditions.entries) l.truths
    × AreClosed (members_view l.conditions.entries) l.truths
    × ((c : List ℕ) → is_some (get_member c (members_view l.conditions.entries)) ≡ true → (is_kept l.truths c ≡ true) ⊎ (is_some (get_member c (members_view l.name-iterator)) ≡ true))
