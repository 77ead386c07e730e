use Rattle.std.proofs.Common.{◌≡◌, option_map, drop}
use Rattle.serde_json.specs.View.{items_view}
use Rattle.cdk_language.specs.Application.{conditions_from}
use Rattle.cdk_expressions.proofs.ConditionLemmas.{conditions_before}
use Rattle.cdk_expressions.proofs.conditions.+conditions.Given as goal

abbrev pub invariant-conditions_from-loop-item : goal.invariant-conditions_from-loop-item
invariant-conditions_from-loop-item l =
    conditions_from (items_view l.item-items) ≡ option_map (conditions_before l.found) (conditions_from (items_view (drop l.item-index l.item-items)))
