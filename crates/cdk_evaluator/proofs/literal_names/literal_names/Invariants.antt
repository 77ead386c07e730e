use Rattle.std.proofs.Common.{◌≡◌, ℕ, List, drop, map}
use Rattle.std.specs.Prelude.{◌||◌}
use Rattle.cdk_eval.specs.Assembly.{literal_names}
use Rattle.cdk_eval.specs.Reach.{is_among}
use Rattle.cdk_eval.specs.Views.{stack_view}
use Rattle.cdk_scopes.specs.Scopes.{has_name}
use Rattle.cdk_evaluator.proofs.literal_names.literal_names.Given as goal

abbrev pub invariant-loop-stack : goal.invariant-loop-stack
invariant-loop-stack l = (e : List ℕ) → is_among e (literal_names (map stack_view l.stacks)) ≡ has_name l.names e || is_among e (literal_names (map stack_view (drop l.stack-index l.stacks)))
