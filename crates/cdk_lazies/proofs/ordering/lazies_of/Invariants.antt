use Rattle.std.proofs.Common.{◌≡◌, ◌++◌, drop}
use Rattle.cdk_tokens.specs.TableView.{tokens_in}
use Rattle.cdk_tree.specs.TreeView.{constructs}
use Rattle.cdk_lazies.specs.Picked.{lazies_of}
use Rattle.cdk_lazies.proofs.ordering.lazies_of.Given as goal

abbrev pub invariant-loop-number : goal.invariant-loop-number
invariant-loop-number l =
    let cs = constructs l.tree in
    let ts = tokens_in l.table in
    lazies_of cs ts l.numbers ≡ l.lazies ++ lazies_of cs ts (drop l.number-index l.numbers)
