-- The manifest of an application of one stack tells its stacks, and no nested assembly.
use Rattle.std.proofs.Common.{◌≡◌, ℕ, List, [], map, codes, refl}
use Rattle.serde_json.specs.Data.{string, object, Members, no_members, member}
use Rattle.cdk_eval.specs.Manifest as evaluated
use Rattle.cdk_eval.specs.Manifest.{artifacts, nested_directories}
use Rattle.cdk_tree.specs.Placed.{Placed}
use Rattle.cdk_manifest.specs.ManifestLaws.{ManifestsTellStacks, artifact_of}
use Rattle.cdk_manifest.proofs.OneStack.{with_one_stack}

abbrev AreTold : List Placed → List ℕ → Members → Type 0
AreTold cs ns ms =
    let d = object (member (codes "artifacts") (object ms) (member (codes "version") (string (codes "36.0.0")) no_members)) in
    (evaluated.stacks_of d ≡ map (artifact_of cs) ns) × (nested_directories (artifacts d) ≡ [])

pub manifests_tell_stacks : ManifestsTellStacks
manifests_tell_stacks cs w h =
    let both = with_one_stack (AreTold cs) cs w h (refl, refl) (λ n i. ((refl, refl), (refl, refl))) in
    record { stacks = both.0; nested = both.1 }
