use Rattle.std.proofs.Common.{◌≡◌, ℕ, List, true}
use Rattle.std.specs.Prelude.{is_some}
use Rattle.serde_json.specs.View.{members_view}
use Rattle.cdk_eval.specs.Template.{outcome}
use Rattle.cdk_scopes.specs.Scopes.{scope_view}
use Rattle.cdk_conditions.specs.Kept.{is_kept}
use Rattle.cdk_conditions.specs.Walks.{IsWalk, positions_of, steps_left}
use Rattle.cdk_conditions.proofs.order.settle.Given as goal

abbrev pub invariant-walk : goal.invariant-walk
invariant-walk l =
    IsWalk (outcome (scope_view l.scope)) (members_view l.conditions.entries) l.truths l.walk
    × ((n : List ℕ) → is_kept l.initial.truths n ≡ true → is_kept l.truths n ≡ true)
    × (is_some (positions_of l.walk l.name) ≡ true)

abbrev pub decreases-walk : goal.decreases-walk
decreases-walk l = steps_left (members_view l.conditions.entries) l.walk
