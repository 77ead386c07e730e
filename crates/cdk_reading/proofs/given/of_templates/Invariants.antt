use Rattle.std.proofs.Common.{◌≡◌, ◌++◌, drop, take, map, Ok}
use Rattle.cdk_eval.specs.Reading.{given_stacks, ok_then}
use Rattle.cdk_eval.specs.Views.{stack_view}
use Rattle.cdk_reading.proofs.given.of_templates.Given as goal

abbrev pub invariant-loop-stack : goal.invariant-loop-stack
invariant-loop-stack l = given_stacks (map stack_view l.stack-items) ≡ ok_then (given_stacks (map stack_view (drop l.stack-index l.stack-items))) (λ ss. Ok (map stack_view (take l.stack-index l.stack-items) ++ ss))
