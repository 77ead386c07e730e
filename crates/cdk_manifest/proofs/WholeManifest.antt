-- The manifest of an application of one stack misses nothing of its form.
use Rattle.std.proofs.Common.{◌≡◌, ℕ, ◌+◌, List, [], ◌∷◌, ◌++◌, map, codes, true, None, refl, ap, ◌∙◌, arith}
use Rattle.std.specs.Prelude.{decimal}
use Rattle.serde_json.specs.Data.{Data, null, boolean, number, string, array, object, Items, no_items, item, Members, no_members, member}
use Rattle.cdk_base.specs.Pointer.{step_to}
use Rattle.cdk_elements.specs.Kinds.{stacks_of}
use Rattle.cdk_elements.specs.OneStack.{AreOneStack}
use Rattle.cdk_eval.specs.Form.{first_miss, first_of, in_items, in_members, inside, is_file_name}
use Rattle.cdk_eval.specs.declared.role.Role.TheVariants.{Anything, Artifacts, Manifest, StackArtifact}
use Rattle.cdk_stacks.specs.Claims.{name_findings}
use Rattle.cdk_meaning.specs.Names.{IsIn}
use Rattle.cdk_tree.specs.Placed.{Placed, construct_at}
use Rattle.cdk_manifest.specs.Manifest.{artifact_members, manifest_of, stack_metadata, telling_of, template_file, with_tree}
use Rattle.cdk_manifest.specs.ManifestLaws.{ManifestsAreWhole}
use Rattle.cdk_manifest.proofs.ArtifactLemmas.{artifact_bytes}
use Rattle.cdk_manifest.proofs.CanonicalManifest.{manifest_canonical, manifest_depth}
use Rattle.cdk_manifest.proofs.FileNames.{template_is_file}
use Rattle.cdk_manifest.proofs.OneStack.{told, told_at, told_first, told_last, with_one_stack}

-- ---- where anything may stand

mutual
  anything : (d : Data) → inside Anything d ≡ []
  anything null = refl
  anything (boolean b) = refl
  anything (number n) = refl
  anything (string s) = refl
  anything (array ds) = any_items 0 ds
  anything (object ms) = any_members ms

  any_items : (n : ℕ) (ds : Items) → in_items Anything n ds ≡ []
  any_items n no_items = refl
  any_items n (item d ds) = ap (λ x. map (step_to (decimal n)) x ++ in_items Anything (n + 1) ds) (anything d) ∙ any_items (n + 1) ds

  any_members : (ms : Members) → in_members Anything ms ≡ []
  any_members no_members = refl
  any_members (member k d ms) = ap (λ x. map (step_to k) x ++ in_members Anything ms) (anything d) ∙ any_members ms

-- ---- the artifacts

told_formed : (path name file : List ℕ) (ms : Members) → is_file_name file ≡ true → inside StackArtifact (told path ms name file) ≡ []
told_formed path name file ms h = rw (any_members ms, h) refl

abbrev AreFormed : List ℕ → Members → Type 0
AreFormed ns ms = in_members (Artifacts true) ms ≡ []

one_formed : (cs : List Placed) → AreOneStack cs → name_findings cs ≡ [] → (n : ℕ) → IsIn n (stacks_of cs) → AreFormed (n ∷ []) (told_first cs n) × AreFormed (n ∷ []) (told_last cs n)
one_formed cs w h n i =
    let id = (telling_of cs).artifact n in
    let own = told_formed (construct_at cs n).path ((telling_of cs).stack_name n) (template_file id) (stack_metadata cs (telling_of cs) n) (template_is_file id (artifact_bytes cs n w h i)) in
    let one : map (step_to id) (inside StackArtifact (told_at cs n)) ++ [] ≡ [] = ap (λ x. map (step_to id) x ++ []) own in
    (one, one)

formed_by : (ms : Members) → in_members (Artifacts true) ms ≡ [] → first_miss (Manifest true) (object (member (codes "artifacts") (object ms) (member (codes "version") (string (codes "36.0.0")) no_members))) ≡ None
formed_by ms h = ap (λ x. first_of (map (step_to (codes "artifacts")) x ++ [])) h

manifest_formed : (cs : List Placed) → AreOneStack cs → name_findings cs ≡ [] → first_miss (Manifest true) (manifest_of cs (telling_of cs) 0) ≡ None
manifest_formed cs w h = formed_by (with_tree 0 (artifact_members cs (telling_of cs) 0)) (with_one_stack AreFormed cs w h refl (one_formed cs w h))

pub manifests_are_whole : ManifestsAreWhole
manifests_are_whole cs w h =
    let deep = manifest_depth cs (telling_of cs) 0 in
    record { canonical = manifest_canonical cs (telling_of cs) 0; shallow = omega (arith, deep); formed = manifest_formed cs w h }
