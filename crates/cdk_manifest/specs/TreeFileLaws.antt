-- What the tree file is like where nothing is wrong with places (own).
use Rattle.std.specs.Prelude.{◌≡◌, ◌<◌, ◌≤◌, ℕ, List, [], length}
use Rattle.serde_json.specs.Data.{Data, depth}
use Rattle.cdk_base.specs.Pretty.{IsCanonical}
use Rattle.cdk_language.specs.Construct as language
use Rattle.cdk_language.specs.Construct.{Application, ResourceBody}
use Rattle.cdk_language.specs.Expression.{Expression}
use Rattle.cdk_tree.specs.PlaceFindings.{place_findings}
use Rattle.cdk_tree.specs.Placed.{Placed, construct_at, constructs_of}
use Rattle.cdk_manifest.specs.TreeFile.{tree_file_of}

-- keys in order, and no deeper than what is read back
pub record IsWholeTreeFile (d : Data) : Type 0 where
  pub canonical : IsCanonical d
  pub shallow : depth d ≤ 127

-- the values of resources are canonical and at most 94 deep
abbrev pub AreWholeValues : (ℕ → Expression → Data) → List Placed → Type 0
AreWholeValues value cs = (n : ℕ) (r : ResourceBody) → n < length cs → (construct_at cs n).body ≡ language.resource r → IsCanonical (value n r.properties) × (depth (value n r.properties) ≤ 94)

abbrev pub TreeFilesAreWhole : Type 0
TreeFilesAreWhole = (a : Application) (value : ℕ → Expression → Data) → place_findings (constructs_of a) ≡ [] → AreWholeValues value (constructs_of a) → IsWholeTreeFile (tree_file_of value a)
