use Rattle.cdk_template.specs.Sources.{RendersOwn, constructs_in}
use Rattle.cdk_synthesis.proofs.ValueLemmas.{AreMade}
use Rattle.cdk_synthesis.proofs.values.values_of.Given as goal

abbrev pub invariant-loop-number : goal.invariant-loop-number
invariant-loop-number l = record { made : AreMade l.values.items (constructs_in l.sources) l.number; kept : RendersOwn (constructs_in l.sources) l.kept }
