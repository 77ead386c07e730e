use Rattle.std.proofs.Common.{◌≡◌, drop}
use Rattle.std.specs.List.{list_any}
use Rattle.cdk_language.specs.Condition.{conditions_view}
use Rattle.cdk_tree.specs.Expected.{expected_conditions}
use Rattle.cdk_targets.specs.Looks.{is_refused}
use Rattle.cdk_targets.proofs.targets.+conditions.Given as goal

abbrev pub invariant-refuses_part-loop-part : goal.invariant-refuses_part-loop-part
invariant-refuses_part-loop-part l =
    list_any (is_refused l.tree l.look l.at) (expected_conditions (conditions_view l.part-items)) ≡ list_any (is_refused l.tree l.look l.at) (expected_conditions (conditions_view (drop l.part-index l.part-items)))
