use Rattle.std.proofs.Common.{◌≡◌, length}
use denote.Text.{Utf8}
use denote.Shadow.{shadow}
use Rattle.cdk_language.specs.Schema.{is_wrong_sub_text as spec_is_wrong_sub_text}
use Rattle.cdk_runs.proofs.subs.is_wrong_sub_text.Given as goal

abbrev pub invariant-loop-piece : goal.invariant-loop-piece
invariant-loop-piece l = (spec_is_wrong_sub_text l.within l.text ≡ spec_is_wrong_sub_text l.within l.rest) × shadow (Utf8 l.rest)

abbrev pub decreases-loop-piece : goal.decreases-loop-piece
decreases-loop-piece l = length l.rest
