use Rattle.std.proofs.Common.{◌≡◌, length}
use denote.Text.{Utf8}
use denote.Shadow.{shadow}
use Rattle.cdk_eval.specs.SubText.{sub_parts}
use Rattle.cdk_texts.specs.Steps.{parts_before}
use Rattle.cdk_texts.proofs.sub.sub_parts.Given as goal

abbrev pub invariant-parts : goal.invariant-parts
invariant-parts l = shadow (Utf8 l.rest) × (sub_parts l.text ≡ parts_before l.parts.items (sub_parts l.rest))

abbrev pub decreases-parts : goal.decreases-parts
decreases-parts l = length l.rest
