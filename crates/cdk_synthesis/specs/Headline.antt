-- That the files of an application come to what its construct tree means, and how they are named (own).
use Rattle.std.specs.Prelude.{◌≡◌, ℕ, List, Option, Some, None, Ok}
use Rattle.cdk_base.specs.Marker.{IsMarkerFree}
use Rattle.cdk_base.specs.declared.Setting.{Setting}
use Rattle.cdk_eval.specs.Assembly.{assembly_outcome}
use Rattle.cdk_eval.specs.Reading.{reading, path_in}
use Rattle.cdk_eval.specs.Stack.{Stack}
use Rattle.cdk_eval.specs.Values.{Values}
use Rattle.cdk_meaning.specs.Names.{Each}
use Rattle.cdk_tree.specs.Placed.{Placed}
use Rattle.cdk_tree_meaning.specs.TreeMeaning.{AgreesWithTree}
use Rattle.cdk_synthesis.specs.Assembly.{AllUtf8, IsAssembly, assembly_of, tree_of}
use Rattle.cdk_synthesis.specs.Checks.{AreCounted}
use Rattle.cdk_synthesis.specs.Passes.{first_fault}
use Rattle.cdk_synthesis.specs.declared.files.File.{File}

-- The files under the directory are read as an assembly, and under all values, its stacks one after another, it comes to what the tree
-- means: each resource once, made as it is meant to be, and each property with its meaning.
pub record Means (files : List ℕ → Option (List ℕ)) (directory : List ℕ) (cs : List Placed) : Type 0 where
  pub stacks : List Stack
  pub read : reading files directory ≡ Ok stacks
  -- no text and no key of a template has the beginning of a token's marker
  pub unmarked : Each (λ s. IsMarkerFree s.template) stacks
  pub agrees : (v : Values) → AgreesWithTree v cs (assembly_outcome v stacks)

-- the files stand under the directory
abbrev pub StandUnder : (List ℕ → Option (List ℕ)) → List ℕ → List File → Type 0
StandUnder files directory list = Each (λ f. files (path_in directory f.name) ≡ Some f.bytes) list

abbrev pub FilesKeepMeaning : Type 0
FilesKeepMeaning =
    (bytes : List ℕ) (settings : List Setting) → first_fault bytes settings ≡ None → AreCounted (tree_of bytes settings) → AllUtf8 (assembly_of bytes settings)
    → (files : List ℕ → Option (List ℕ)) (directory : List ℕ) → StandUnder files directory (assembly_of bytes settings)
    → Means files directory (tree_of bytes settings)

abbrev pub FilesAreNamed : Type 0
FilesAreNamed = (bytes : List ℕ) (settings : List Setting) → first_fault bytes settings ≡ None → IsAssembly (assembly_of bytes settings)
