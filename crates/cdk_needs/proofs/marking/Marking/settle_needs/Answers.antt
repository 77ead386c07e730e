use Rattle.std.proofs.Common.{◌+◌, []}
use Rattle.cdk_needs.proofs.MarkingLemmas.{looked, widen}
use Rattle.cdk_needs.proofs.marking.Marking.settle_needs.Goals as goal

pub loop-user-preserved : goal.loop-user-preserved
loop-user-preserved c =
    let ns = c.args.needs.now in
    let u = c.loop-user.user in
    (looked ns (u + 1) u [] c.loop-user.self c.settle.new.self c.requires.within (widen ns u c.loop-user.self c.loop-user.invariant) c.in_ok-settle.ensures).marking
