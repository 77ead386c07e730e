use Rattle.std.proofs.Common.{◌≡◌, drop, map}
use Rattle.std.specs.Prelude.{find}
use Rattle.cdk_eval.specs.Manifest.{comes_back}
use Rattle.cdk_artifacts.specs.Found.{stack_view}
use Rattle.cdk_artifacts.proofs.cycle.first_cycle.Given as goal

abbrev pub invariant-loop-stack : goal.invariant-loop-stack
invariant-loop-stack l =
    find (λ s. comes_back (map stack_view l.stacks) s.id) (map stack_view l.stacks) ≡ find (λ s. comes_back (map stack_view l.stacks) s.id) (map stack_view (drop l.stack-index l.stacks))
