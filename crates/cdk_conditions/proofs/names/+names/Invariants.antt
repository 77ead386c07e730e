use Rattle.std.proofs.Common.{◌≡◌, ◌++◌, drop}
use Rattle.serde_json.specs.View.{items_view}
use Rattle.cdk_eval.specs.Conditions.{item_names}
use Rattle.cdk_conditions.specs.Kept.{texts_of}
use Rattle.cdk_conditions.proofs.names.+names.Given as goal

abbrev pub invariant-push_part_names-loop-item : goal.invariant-push_part_names-loop-item
invariant-push_part_names-loop-item l =
    texts_of l.initial.names.items ++ item_names (items_view l.item-items) ≡ texts_of l.names.items ++ item_names (items_view (drop l.item-index l.item-items))
