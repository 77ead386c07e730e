use Rattle.std.proofs.Common.{sym, ◌∙◌}
use Rattle.cdk_texts.proofs.Cutting.{spaces_stay}
use Rattle.cdk_texts.proofs.pieces.without_spaces_before.Goals as goal

pub returns : goal.returns
returns c = sym (c.spaces.invariant.1 ∙ spaces_stay c.spaces.rest.now c.in_default.ensures.cases)
