use Rattle.std.proofs.Common.{◌≡◌, length}
use denote.Text.{Utf8}
use denote.Shadow.{shadow}
use Rattle.cdk_eval.specs.Texts.{list_items}
use Rattle.cdk_texts.specs.Steps.{values_before}
use Rattle.cdk_texts.proofs.pieces.list_items.Given as goal

abbrev pub invariant-parts : goal.invariant-parts
invariant-parts l = shadow (Utf8 l.rest) × (list_items l.text ≡ values_before l.items.items (list_items l.rest))

abbrev pub decreases-parts : goal.decreases-parts
decreases-parts l = length l.rest
