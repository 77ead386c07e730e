use Rattle.std.proofs.Common.{sym, subst, arith}
use Rattle.cdk_language.specs.Runs.{no_literal}
use Rattle.cdk_runs.specs.Reads.{Reads}
use Rattle.cdk_runs.proofs.Opening.{reads-whole, reads-other}
use Rattle.cdk_runs.proofs.runs.read_other.Goals as goal

pub returns-then-matched-eq-WHOLE : goal.returns-then-matched-eq-WHOLE
returns-then-matched-eq-WHOLE c = subst (λ n. Reads n no_literal 8) (sym c.if-matched-eq-WHOLE.true) (reads-whole no_literal)

pub returns-else-matched-eq-WHOLE : goal.returns-else-matched-eq-WHOLE
returns-else-matched-eq-WHOLE c = reads-other c.args.matched (omega arith)
