use Rattle.std.proofs.Common.{◌≡◌, min, take}
use Rattle.std.specs.List.{sum_by}
use Rattle.cdk_tree.specs.TreeView.{constructs}
use Rattle.cdk_dependencies.specs.Counts.{most}
use Rattle.cdk_dependencies.specs.Pairs.{resources_at}
use Rattle.cdk_dependencies.proofs.counting.entry_pairs.Given as goal

abbrev pub invariant-loop-path : goal.invariant-loop-path
invariant-loop-path l = l.sum ≡ min (sum_by (resources_at (constructs l.tree)) (take l.path-index l.path-items)) most
