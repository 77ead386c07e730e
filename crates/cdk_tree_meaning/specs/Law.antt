-- That the files of an application come to what its construct tree means (own).
use Rattle.std.specs.Prelude.{◌≡◌, ℕ, List, map, true, Option, Some, Ok, codes}
use Rattle.std.specs.Str.{is_utf8}
use Rattle.serde_json.specs.Data.{Data}
use Rattle.cdk_base.specs.Pretty.{pretty_text}
use Rattle.cdk_elements.specs.Elements.{name_of}
use Rattle.cdk_elements.specs.Kinds.{stacks_of}
use Rattle.cdk_eval.specs.Assembly.{assembly_outcome}
use Rattle.cdk_eval.specs.Reading.{reading, path_in}
use Rattle.cdk_eval.specs.Stack.{Stack}
use Rattle.cdk_eval.specs.Values.{Values}
use Rattle.cdk_manifest.specs.Manifest.{manifest_of, telling_of, template_file}
use Rattle.cdk_meaning.specs.Names.{Each}
use Rattle.cdk_template.specs.Own.{spelling_of}
use Rattle.cdk_template.specs.Template.{template_of}
use Rattle.cdk_tree.specs.Placed.{Placed}
use Rattle.cdk_tree_meaning.specs.Checked.{AreChecked}
use Rattle.cdk_tree_meaning.specs.TreeMeaning.{AgreesWithTree}

-- a stack as it is evaluated
abbrev pub evaluated : List Placed → ℕ → Stack
evaluated cs stack = record { name = name_of cs stack; template = template_of cs (spelling_of cs) stack }

abbrev pub manifest_document : List Placed → Data
manifest_document cs = manifest_of cs (telling_of cs) 0

-- the name of a stack's template
abbrev pub template_name : List Placed → ℕ → List ℕ
template_name cs stack = template_file ((telling_of cs).artifact stack)

-- the file holds the text of the document
abbrev pub IsHeld : (List ℕ → Option (List ℕ)) → List ℕ → Data → Type 0
IsHeld files path d = (files path ≡ Some (pretty_text d)) × (is_utf8 (pretty_text d) ≡ true)

-- the manifest and the templates stand under the directory
pub record AreHeld (files : List ℕ → Option (List ℕ)) (directory : List ℕ) (cs : List Placed) : Type 0 where
  pub manifest : IsHeld files (path_in directory (codes "manifest.json")) (manifest_document cs)
  pub templates : Each (λ stack. IsHeld files (path_in directory (template_name cs stack)) (template_of cs (spelling_of cs) stack)) (stacks_of cs)

-- They are read as the stacks of the tree, and under all values these come to what the tree means.
abbrev pub TreesKeepMeaning : Type 0
TreesKeepMeaning =
    (cs : List Placed) → AreChecked cs
    → (files : List ℕ → Option (List ℕ)) (directory : List ℕ) → AreHeld files directory cs
    → (reading files directory ≡ Ok (map (evaluated cs) (stacks_of cs))) × ((v : Values) → AgreesWithTree v cs (assembly_outcome v (map (evaluated cs) (stacks_of cs))))
