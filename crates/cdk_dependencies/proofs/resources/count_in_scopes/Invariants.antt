use Rattle.std.proofs.Common.{◌+◌}
use Rattle.std.specs.Option.{option_map_or}
use Rattle.cdk_tree.specs.TreeView.{constructs}
use Rattle.cdk_dependencies.proofs.ResourceLemmas.{IsCountedTo}
use Rattle.cdk_dependencies.proofs.resources.count_in_scopes.Given as goal

abbrev pub invariant-loop-next : goal.invariant-loop-next
invariant-loop-next l = IsCountedTo (constructs l.tree) l.fn.at l.next l.fn.counts l.counts

-- scopes have lower numbers
abbrev pub decreases-loop-next : goal.decreases-loop-next
decreases-loop-next l = option_map_or (λ n. n + 1) l.next 0
