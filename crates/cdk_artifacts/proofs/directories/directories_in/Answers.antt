use Rattle.std.proofs.Common.{ap, ◌∙◌}
use Rattle.std.specs.Prelude.{codes}
use Rattle.serde_json.specs.View.{view, members_view}
use Rattle.cdk_eval.specs.Manifest.{is_type, property, nested_directories}
use Rattle.cdk_artifacts.proofs.Onward.{moved, texts_split}
use Rattle.cdk_artifacts.proofs.directories.directories_in.Goals as goal

pub loop-artifact-preserved : goal.loop-artifact-preserved
loop-artifact-preserved c =
    let a = view c.in-Some.artifact.now in
    let rest = nested_directories (members_view c.next.new.self) in
    let split = ap (λ es. nested_directories (members_view es)) c.in-Some.ensures.steps ∙ texts_split (is_type (codes "cdk:cloud-assembly") a) (property (codes "directoryName") a) rest in
    (tt, tt, moved _ _ _ _ _ rest c.loop-artifact.invariant.2 split c.in_ok-push_directory.ensures)
