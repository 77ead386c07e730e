use Rattle.std.proofs.Common.{◌≤◌, length, ap, arith}
use Rattle.cdk_spelling.proofs.JoinLemmas.{is_text-long}
use Rattle.cdk_spelling.proofs.joins.is_text.Goals as goal

pub returns-in_default : goal.returns-in_default
returns-in_default c =
    let many : 2 ≤ length c.args.items.now.items = omega (arith, ap length c.as_slice.ensures.value) in
    is_text-long c.args.items.now.items many
