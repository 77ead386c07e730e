use Rattle.std.proofs.Common.{ℕ, List, ap, subst, drop, ◌∙◌}
use Rattle.std.specs.Prelude.{Contains}
use Rattle.std.proofs.lemmas.List.{take_rest}
use Rattle.cdk_graphs.proofs.walk.Walk.leave.Goals as goal

pub mark_each-requires : goal.mark_each-requires
mark_each-requires c n i = c.requires.within n (subst (λ (xs : List ℕ). Contains xs n) (take_rest c.deref.result.now c.args.last.first ∙ ap (drop c.args.last.first) c.deref.ensures.value) i)
