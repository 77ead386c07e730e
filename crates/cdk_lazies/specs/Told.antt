-- The first of the lazies and conditions that reach themselves, where truth values tell which numbers of the graph do (own).
use Rattle.std.specs.Prelude.{ℕ, ◌+◌, List, [], ◌∷◌, ◌++◌, map, slice_index_or, Bool, false}
use Rattle.cdk_lazies.specs.CycleFindings.{cycle_code}
use Rattle.cdk_lazies.specs.MentionGraph.{construct_node}
use Rattle.cdk_tokens.specs.Token.{Token}
use Rattle.cdk_tree.specs.Expected.{target_at}
use Rattle.cdk_tree.specs.PlaceFindings.{when}
use Rattle.cdk_tree.specs.Placed.{Placed}
use Rattle.cdk_tree.specs.declared.role.Found.{Found}

-- of the constructs from the number n on
abbrev pub told_findings_from : List Token → List Bool → ℕ → List Placed → List Found
told_findings_from ts told n [] = []
told_findings_from ts told n (c ∷ rest) = map (target_at n) (when (slice_index_or told (construct_node ts n) false) (cycle_code c.body)) ++ told_findings_from ts told (n + 1) rest
