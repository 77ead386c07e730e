use Rattle.std.proofs.Common.{drop}
use Rattle.cdk_names.specs.Names.{visible}
use Rattle.cdk_names.proofs.Parts.{SoFar}
use Rattle.cdk_names.proofs.visible.visible_of.Given as goal

abbrev pub invariant-loop-component : goal.invariant-loop-component
invariant-loop-component l = SoFar l.found (visible l.components) (visible (drop l.component-index l.components))
