use Rattle.std.proofs.Common.{◌≡◌, ◌≤◌, ℕ, length}
use Rattle.serde_json.specs.View.{members_view}
use Rattle.cdk_tree.specs.TreeView.{constructs}
use Rattle.cdk_manifest.specs.Manifest.{artifact_entry, artifact_members, is_artifact_of, stack_metadata, telling_of}
use Rattle.cdk_objects.specs.Maps.{count_of, members_at}
use Rattle.cdk_manifest.proofs.FillLemmas.{filled_from}
use Rattle.cdk_manifest.proofs.assemblies.artifacts.Given as goal

abbrev pub invariant-loop-number : goal.invariant-loop-number
invariant-loop-number l =
    let cs = constructs l.tree in
    let t = telling_of cs in
    (count_of l.metadata ≡ length cs)
    × ((n : ℕ) → l.number ≤ n → members_at l.metadata n ≡ stack_metadata cs t n)
    × (artifact_members cs t l.stage ≡ filled_from t.artifact (artifact_entry cs t) (is_artifact_of cs l.stage) l.number (length cs) (members_view l.artifacts.entries))
