use Rattle.std.proofs.Common.{drop}
use Rattle.cdk_scopes.specs.Scopes.{kept_at}
use Rattle.cdk_conditions.specs.Kept.{texts_of}
use Rattle.cdk_conditions.proofs.Loops.{AreKept}
use Rattle.cdk_conditions.proofs.closing.keep_loops.Given as goal

abbrev pub invariant-loop-name : goal.invariant-loop-name
invariant-loop-name l = AreKept (texts_of l.names) (kept_at l.initial.truths.kept) (texts_of (drop l.name-index l.names)) (kept_at l.truths.kept)
