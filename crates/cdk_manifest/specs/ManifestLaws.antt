-- The manifest of an application of one stack: the form that an evaluation asks for, and the stacks that it tells (own).
use Rattle.std.specs.Prelude.{◌≡◌, ◌≤◌, ℕ, List, [], map, None, true}
use Rattle.serde_json.specs.Data.{Data, depth}
use Rattle.cdk_base.specs.Pretty.{IsCanonical}
use Rattle.cdk_elements.specs.Kinds.{stacks_of}
use Rattle.cdk_elements.specs.OneStack.{AreOneStack}
use Rattle.cdk_eval.specs.Form.{first_miss}
use Rattle.cdk_eval.specs.Manifest as evaluated
use Rattle.cdk_eval.specs.Manifest.{StackArtifact, artifacts, nested_directories}
use Rattle.cdk_eval.specs.declared.role.Role.TheVariants.{Manifest}
use Rattle.cdk_stacks.specs.Claims.{name_findings}
use Rattle.cdk_tree.specs.Placed.{Placed}
use Rattle.cdk_manifest.specs.Manifest.{manifest_of, telling_of, template_file}

-- ---- its form

-- It is read back from its text as it is, and misses nothing of what is asked of a manifest.
pub record IsWholeManifest (d : Data) : Type 0 where
  pub canonical : IsCanonical d
  -- what a text is read to nests at most so deep
  pub shallow : depth d ≤ 127
  pub formed : first_miss (Manifest true) d ≡ None

abbrev pub ManifestsAreWhole : Type 0
ManifestsAreWhole = (cs : List Placed) → AreOneStack cs → name_findings cs ≡ [] → IsWholeManifest (manifest_of cs (telling_of cs) 0)

-- ---- its stacks

-- a stack as its manifest tells it
abbrev pub artifact_of : List Placed → ℕ → StackArtifact
artifact_of cs n = record {
  id = (telling_of cs).artifact n;
  name = (telling_of cs).stack_name n;
  file = template_file ((telling_of cs).artifact n);
  dependencies = [];
}

-- each stack, and no nested assembly
pub record TellsStacks (cs : List Placed) (d : Data) : Type 0 where
  pub stacks : evaluated.stacks_of d ≡ map (artifact_of cs) (stacks_of cs)
  pub nested : nested_directories (artifacts d) ≡ []

abbrev pub ManifestsTellStacks : Type 0
ManifestsTellStacks = (cs : List Placed) → AreOneStack cs → name_findings cs ≡ [] → TellsStacks cs (manifest_of cs (telling_of cs) 0)
