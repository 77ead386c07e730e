use Rattle.std.proofs.Common.{sym, ap, ◌∙◌}
use Rattle.cdk_eval.specs.SubText.{asked_at}
use Rattle.cdk_texts.proofs.Holes.{not_spelled}
use Rattle.cdk_texts.proofs.sub.asked_by.Goals as goal

pub returns-in-Some-around : goal.returns-in-Some-around
returns-in-Some-around c = sym (not_spelled c.args.name.now c.in_default.ensures.cases ∙ ap (asked_at c.args.name.now) (sym c.in-Some-around.ensures.value))

pub returns-in-None : goal.returns-in-None
returns-in-None c = sym (not_spelled c.args.name.now c.in_default.ensures.cases ∙ ap (asked_at c.args.name.now) (sym c.in-None.ensures.value))
