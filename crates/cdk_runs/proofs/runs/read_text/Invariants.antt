use Rattle.std.proofs.Common.{◌≡◌, ◌≤◌, ◌++◌, drop}
use Rattle.cdk_language.specs.Runs.{Literals, is_marked_run}
use Rattle.cdk_runs.specs.Reads.{opening}
use Rattle.cdk_runs.proofs.runs.read_text.Given as goal

abbrev pub invariant-loop-byte : goal.invariant-loop-byte
invariant-loop-byte l = record {
  bound : l.matched ≤ 8;
  same : (more : Literals) → is_marked_run (opening l.fn.matched ++ l.byte-items) more ≡ is_marked_run (opening l.matched ++ drop l.byte-index l.byte-items) more;
}
