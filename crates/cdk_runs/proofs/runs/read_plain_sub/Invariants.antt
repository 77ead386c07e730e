use Rattle.std.proofs.Common.{◌≡◌, ◌≤◌, ◌++◌, [], false, length}
use denote.Text.{Utf8}
use denote.Shadow.{shadow}
use Rattle.cdk_language.specs.Runs.{Literals, is_marked_run, sub_literals}
use Rattle.cdk_language.specs.Schema.{is_wrong_sub_text as spec_is_wrong_sub_text}
use Rattle.cdk_language.specs.Sub.{pieces_of}
use Rattle.cdk_language.specs.declared.schema.Within.TheVariants as within
use Rattle.cdk_runs.specs.Reads.{opening}
use Rattle.cdk_runs.proofs.runs.read_plain_sub.Given as goal

abbrev pub invariant-loop-before : goal.invariant-loop-before
invariant-loop-before l = record {
  bound : l.matched ≤ 8;
  cut : spec_is_wrong_sub_text within.Construct l.rest ≡ false;
  same : (more : Literals) → is_marked_run (opening l.fn.matched) (sub_literals [] (pieces_of l.text) ++ more) ≡ is_marked_run (opening l.matched) (sub_literals [] (pieces_of l.rest) ++ more);
  text : shadow (Utf8 l.rest);
}

abbrev pub decreases-loop-before : goal.decreases-loop-before
decreases-loop-before l = length l.rest
