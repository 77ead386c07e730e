use Rattle.std.proofs.Common.{reverse, sym, ap, ◌∙◌}
use Rattle.std.proofs.lemmas.List.{reverse-reverse}
use Rattle.cdk_texts.proofs.Cutting.{spaces_stay_behind}
use Rattle.cdk_texts.proofs.pieces.without_spaces_behind.Goals as goal

pub returns : goal.returns
returns c =
    sym (ap reverse (c.spaces.invariant.1 ∙ spaces_stay_behind c.spaces.rest.now c.in_default.ensures.cases) ∙ reverse-reverse c.spaces.rest.now)
