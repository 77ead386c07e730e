use Rattle.std.proofs.Common.{[], length, subst}
use Rattle.cdk_needs.specs.Needs.{IsMarkingOf}
use Rattle.cdk_needs.proofs.MarkingLemmas.{all_marked}
use Rattle.cdk_needs.proofs.marking.met_needs.Goals as goal

pub returns : goal.returns
returns c =
    let ns = c.args.needs.now in
    let m = c.settle_needs.new.self in
    all_marked ns c.requires m.passed.items m.met.items m.waiting.items
    (subst (λ r. IsMarkingOf ns (length ns) [] m.passed.items m.met.items m.waiting.items r) c.in_ok-settle_needs.ensures.done c.in_ok-settle_needs.ensures.marking)
