use Rattle.std.proofs.Common.{◌≡◌, ℕ, List, true, drop}
use Rattle.std.specs.List.Sorted.{IsStrictlySortedBy}
use Rattle.std.specs.Map.{keys_of}
use Rattle.std.specs.String.{string_cmp}
use Rattle.serde_json.specs.View.{items_view, members_view}
use Rattle.cdk_eval.specs.Outcomes.{Outcome}
use Rattle.cdk_eval.specs.Template.{item_outcomes, member_outcomes, each_member, named_or}
use Rattle.cdk_scopes.specs.Scopes.{scope_view, has_name}
use Rattle.cdk_intrinsics.specs.Substitution.{named_at, or_found}
use Rattle.cdk_intrinsics.proofs.Listing.{listed_before, fielded_before, AreAbove}
use Rattle.cdk_intrinsics.proofs.value.+evaluation.Given as goal

abbrev pub invariant-array_outcome-loop-item : goal.invariant-array_outcome-loop-item
invariant-array_outcome-loop-item l =
    item_outcomes (scope_view l.scope) (items_view l.item-items) ≡ listed_before l.found.items (item_outcomes (scope_view l.scope) (items_view (drop l.item-index l.item-items)))

abbrev pub invariant-object_outcome-loop-key : goal.invariant-object_outcome-loop-key
invariant-object_outcome-loop-key l =
    IsStrictlySortedBy string_cmp (keys_of l.key-iterator) ×
    AreAbove l.key-iterator (members_view l.found.entries) ×
    (member_outcomes (scope_view l.scope) (members_view l.members.entries) ≡ fielded_before (members_view l.found.entries) (member_outcomes (scope_view l.scope) (members_view l.key-iterator)))

abbrev pub invariant-named_outcomes-loop-key : goal.invariant-named_outcomes-loop-key
invariant-named_outcomes-loop-key l =
    (goal.iterator-named_outcomes-loop-key).can_next l.key-iterator ×
    (goal.iterator-named_outcomes-loop-key).is_finite l.key-iterator ×
    ((n : List ℕ) → has_name l.used n ≡ true → (o : Outcome) → named_or o n (each_member (scope_view l.scope) (members_view l.members.entries)) ≡ or_found (named_or o n (each_member (scope_view l.scope) (members_view l.key-iterator))) (named_at l.named n))
