use Rattle.std.proofs.Common.{◌<◌, length, sym, ap, arith}
use Rattle.cdk_spelling.proofs.JoinLemmas.{assembled_items-many, told}
use Rattle.cdk_spelling.proofs.joins.assembled.Goals as goal

pub returns-then-as_slice-gt1 : goal.returns-then-as_slice-gt1
returns-then-as_slice-gt1 c =
    let parts = c.args.parts.items in
    let many : 1 < length parts = omega (arith, ap length c.as_slice.ensures.value) in
    told c.concat.result _ _ c.concat.ensures (sym (assembled_items-many parts many))
