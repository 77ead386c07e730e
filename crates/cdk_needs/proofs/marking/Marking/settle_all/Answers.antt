use Rattle.std.proofs.Common.{◌≡◌, ◌∷◌, ◌+◌, length, drop, get_or, subst, arith}
use Rattle.std.proofs.lemmas.List.{drop_more}
use Rattle.cdk_needs.specs.Needs.{IsMarking}
use Rattle.cdk_needs.proofs.MarkingLemmas.{looked}
use Rattle.cdk_needs.proofs.marking.Marking.settle_all.Goals as goal

pub loop-user-preserved : goal.loop-user-preserved
loop-user-preserved c =
    let ns = c.args.needs.now in
    let us = c.args.users.now in
    let i = c.loop-user.user-index in
    let here : drop i us ≡ get_or us i 0 ∷ drop (i + 1) us = drop_more us i 0 (omega arith) in
    let step = looked ns (length ns) (get_or us i 0) (drop (i + 1) us) c.loop-user.self c.settle.new.self c.requires.within
    (subst (λ b. IsMarking ns (length ns) b c.loop-user.self) here c.loop-user.invariant.marking) c.in_ok-settle.ensures in
    record {
      marking = step.marking;
      steps = omega (arith, step.steps, c.loop-user.invariant.steps);
    }
