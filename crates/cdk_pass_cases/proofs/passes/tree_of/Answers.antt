use Rattle.cdk_premises.proofs.CleanTrees.{trees_are_clean}
use Rattle.cdk_language.specs.Construct.{app_view}
use Rattle.cdk_pass_cases.proofs.CleanTrees.{built_clean}
use Rattle.cdk_pass_cases.proofs.passes.tree_of.Goals as goal

pub returns : goal.returns
returns c =
    let read = c.in-Ok.ensures in
    built_clean c.build.result (app_view c.in-Ok.app) c.build.ensures (trees_are_clean c.args.document.now read.document (app_view c.in-Ok.app) read.holds read.clean read.is)
