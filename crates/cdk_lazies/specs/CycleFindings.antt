-- Lazies and conditions that reach themselves by mentions (own).
use Rattle.std.specs.Prelude.{ℕ, ◌+◌, List, [], ◌∷◌, ◌++◌, map, if◌then◌else◌}
use Rattle.cdk_base.specs.declared.code.Code.{Code}
use Rattle.cdk_base.specs.declared.code.Code.TheVariants.{ConditionCycle, LazyCycle}
use Rattle.cdk_graphs.specs.Loops.{reaches_itself}
use Rattle.cdk_language.specs.Construct.{Body}
use Rattle.cdk_lazies.specs.MentionGraph.{construct_node, mention_graph}
use Rattle.cdk_tokens.specs.Token.{Token}
use Rattle.cdk_tokens.specs.Whole.{MarkedBody}
use Rattle.cdk_tree.specs.Expected.{is_condition, target_at}
use Rattle.cdk_tree.specs.PlaceFindings.{when}
use Rattle.cdk_tree.specs.Placed.{Placed}
use Rattle.cdk_tree.specs.declared.role.Found.{Found}

-- only lazies and conditions mention anything, so what reaches itself is one of them
abbrev pub cycle_code : Body → Code
cycle_code b = if is_condition b then ConditionCycle else LazyCycle

abbrev pub cycles_at : List Placed → List Token → List MarkedBody → ℕ → Body → List Code
cycles_at cs ts ms n b = when (reaches_itself (mention_graph cs ts ms) (construct_node ts n)) (cycle_code b)

-- of the constructs from the number n on
abbrev pub cycle_findings_from : List Placed → List Token → List MarkedBody → ℕ → List Placed → List Found
cycle_findings_from cs ts ms n [] = []
cycle_findings_from cs ts ms n (c ∷ rest) = map (target_at n) (cycles_at cs ts ms n c.body) ++ cycle_findings_from cs ts ms (n + 1) rest

-- in walk order
abbrev pub cycle_findings : List Placed → List Token → List MarkedBody → List Found
cycle_findings cs ts ms = cycle_findings_from cs ts ms 0 cs
