use Rattle.std.proofs.Common.{◌≡◌, length, min, get_or, sym, ap, ◌∙◌, arith}
use Rattle.std.specs.Prelude.{nat_lt}
use Rattle.cdk_dependencies.specs.Counts.{most}
use Rattle.cdk_dependencies.specs.Pairs.{pairs_of}
use Rattle.cdk_sizes.proofs.PairCounts.{pair_count, pair_counts-length, same_number}
use Rattle.cdk_tree.specs.TreeView.{constructs}
use Rattle.cdk_sizes.proofs.check.check_each.Goals as goal

pub bounds-pairs-number : goal.bounds-pairs-number
bounds-pairs-number c =
    let cs = constructs c.args.tree.now in
    let long : length c.args.pairs.now ≡ length cs = ap length c.requires.counted ∙ pair_counts-length cs in omega (arith, long, c.len-number-end.ensures)

pub offset_bounds-pairs-number : goal.offset_bounds-pairs-number
offset_bounds-pairs-number c =
    let cs = constructs c.args.tree.now in
    let long : length c.args.pairs.now ≡ length cs = ap length c.requires.counted ∙ pair_counts-length cs in omega (arith, long, c.len-number-end.ensures)

pub construct_measure-requires-clause-counted : goal.construct_measure-requires-clause-counted
construct_measure-requires-clause-counted c =
    let cs = constructs c.args.tree.now in
    let n = c.loop-number.number in
    let same : c.in-Some.at ≡ n = same_number (nat_lt n (length cs)) n c.in-Some.at c.in-Some.ensures in
    ap (λ ps. get_or ps n 0) c.requires.counted ∙ (pair_count cs n (omega (arith, c.len-number-end.ensures)) ∙ ap (λ m. min (pairs_of cs m) most) (sym same))
