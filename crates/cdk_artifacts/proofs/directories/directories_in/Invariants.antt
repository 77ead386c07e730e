use Rattle.std.proofs.Common.{◌≡◌, ◌++◌}
use Rattle.serde_json.specs.View.{members_view}
use Rattle.cdk_eval.specs.Manifest.{nested_directories}
use Rattle.cdk_artifacts.specs.Found.{texts_of}
use Rattle.cdk_artifacts.proofs.directories.directories_in.Given as goal

abbrev pub invariant-loop-artifact : goal.invariant-loop-artifact
invariant-loop-artifact l =
    (goal.iterator-loop-artifact).can_next l.artifact-iterator ×
    (goal.iterator-loop-artifact).is_finite l.artifact-iterator ×
    (nested_directories (members_view l.artifacts.entries) ≡ texts_of l.found.items ++ nested_directories (members_view l.artifact-iterator))
