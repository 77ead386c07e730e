use Rattle.std.proofs.Common.{◌≡◌, drop}
use Rattle.cdk_value_measures.specs.Keeping.{kept_after, kept_in}
use Rattle.cdk_tokens.specs.TableView.{marked_in, tokens_in}
use Rattle.cdk_tree.specs.TreeView.{constructs}
use Rattle.cdk_value_measures.proofs.lazies.measures_in_order.Given as goal

abbrev pub invariant-loop-lazy : goal.invariant-loop-lazy
invariant-loop-lazy l =
    let cs = constructs l.tree in
    let ts = tokens_in l.table in
    let ms = marked_in l.marked in kept_in cs ts ms l.fn.order ≡ kept_after cs ts ms l.kept.items (drop l.lazy-index l.lazy-items)
