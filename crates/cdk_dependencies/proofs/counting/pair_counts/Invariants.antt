use Rattle.cdk_tree.specs.TreeView.{constructs}
use Rattle.cdk_dependencies.proofs.PairLemmas.{HavePairsTo}
use Rattle.cdk_dependencies.proofs.counting.pair_counts.Given as goal

abbrev pub invariant-loop-number : goal.invariant-loop-number
invariant-loop-number l = HavePairsTo (constructs l.tree) l.number l.counts.items
