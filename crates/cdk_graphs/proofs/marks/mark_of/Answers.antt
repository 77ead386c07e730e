use Rattle.std.proofs.Common.{ap, ◌∙◌}
use Rattle.std.specs.Prelude.{unwrap_or}
use Rattle.std.proofs.lemmas.Option.{unwrap_or-slice_get}
use Rattle.cdk_graphs.specs.declared.marks.Mark.TheVariants.{New}
use Rattle.cdk_graphs.proofs.marks.mark_of.Goals as goal

pub returns-in-None : goal.returns-in-None
returns-in-None c = ap (λ o. unwrap_or o New) c.in-None.ensures.value ∙ unwrap_or-slice_get c.args.marks.now c.args.number New
