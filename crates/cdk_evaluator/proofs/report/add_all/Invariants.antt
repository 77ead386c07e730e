use Rattle.std.proofs.Common.{◌≡◌, ℕ, List, drop, map}
use Rattle.std.specs.Option.{option_or}
use Rattle.cdk_eval.specs.Stack.{lookup}
use Rattle.cdk_scopes.specs.Scopes.{exports_view}
use Rattle.cdk_evaluator.specs.Made.{export_pair}
use Rattle.cdk_evaluator.proofs.report.add_all.Given as goal

abbrev pub invariant-loop-export : goal.invariant-loop-export
invariant-loop-export l = (e : List ℕ) → option_or (exports_view l.initial.exports e) (lookup e (map export_pair l.made)) ≡ option_or (exports_view l.exports e) (lookup e (map export_pair (drop l.export-index l.made)))
