use Rattle.std.proofs.Common.{◌≡◌, ◌++◌, drop, filter}
use Rattle.serde_json.specs.View.{items_view}
use Rattle.cdk_eval.specs.Manifest.{texts_in}
use Rattle.cdk_artifacts.specs.Found.{texts_of, has_name}
use Rattle.cdk_artifacts.proofs.stacks.dependencies.Given as goal

abbrev pub invariant-loop-dependency : goal.invariant-loop-dependency
invariant-loop-dependency l =
    filter (has_name l.ids) (texts_in (items_view l.dependency-items)) ≡ texts_of l.found.items ++ filter (has_name l.ids) (texts_in (items_view (drop l.dependency-index l.dependency-items)))
