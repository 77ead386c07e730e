use Rattle.std.proofs.Common.{◌≡◌, ◌++◌, drop, length, map}
use Rattle.cdk_tree.specs.TreeView.{constructs}
use Rattle.cdk_tokens.specs.TableView.{tokens_in}
use Rattle.cdk_tokens.specs.Views.{part_view}
use Rattle.cdk_tokens.specs.Whole.{marked_from, marking, tokens_from, tokens_of}
use Rattle.cdk_tokens.proofs.whole.mark_constructs.Given as goal

abbrev pub invariant-loop-number : goal.invariant-loop-number
invariant-loop-number l =
    let cs = constructs l.tree in
    let now = tokens_in l.table in
    let rest = drop l.number cs in
    (marking cs ≡ map part_view l.parts.items ++ marked_from cs l.number (length now) rest)
    × (tokens_of cs ≡ now ++ tokens_from cs l.number (length now) rest)
