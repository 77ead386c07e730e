use Rattle.std.proofs.Common.{cond, Some, ap, ◌∙◌}
use Rattle.cdk_homes.specs.Places.{place_of}
use Rattle.cdk_homes.proofs.PlaceLemmas.{same_key}
use Rattle.cdk_homes.proofs.places.Places.put.Goals as goal

pub returns-clause-ok : goal.returns-clause-ok
returns-clause-ok c x a =
    c.in_ok-insert.ensures.updates.0 (x, a)
    ∙ ap (λ b. cond b (Some c.args.place) (place_of c.args.self.now x a)) (same_key c.args.consumer c.args.at x a)
