use Rattle.std.proofs.Common.{◌≡◌, [], length}
use denote.Text.{Utf8}
use denote.Shadow.{shadow}
use Rattle.cdk_eval.specs.Texts.{cut}
use Rattle.cdk_texts.specs.Steps.{values_before}
use Rattle.cdk_texts.proofs.pieces.cut.Given as goal

abbrev pub invariant-parts : goal.invariant-parts
invariant-parts l = shadow (Utf8 l.rest) × (cut l.delimiter 0 [] l.text ≡ values_before l.items.items (cut l.delimiter 0 [] l.rest))

abbrev pub decreases-parts : goal.decreases-parts
decreases-parts l = length l.rest
