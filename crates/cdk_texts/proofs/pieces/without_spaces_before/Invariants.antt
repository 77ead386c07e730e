use Rattle.std.proofs.Common.{◌≡◌, length, reverse}
use denote.Text.{Utf8}
use denote.Shadow.{shadow}
use Rattle.cdk_eval.specs.Texts.{without_spaces}
use Rattle.cdk_texts.proofs.pieces.without_spaces_before.Given as goal

abbrev pub invariant-spaces : goal.invariant-spaces
invariant-spaces l = shadow (Utf8 l.rest) × (without_spaces l.text ≡ without_spaces l.rest)

abbrev pub decreases-spaces : goal.decreases-spaces
decreases-spaces l = length l.rest
