-- The files of an application's assembly, in writing order (own; the files' forms are those of the cloud assembly).
use Rattle.std.specs.Prelude.{◌≡◌, ℕ, List, [], ◌∷◌, ◌++◌, map, Option, Some, None, option_and_then, if◌then◌else◌, codes, ⊤}
use Rattle.std.specs.Str.{IsUtf8}
use Rattle.serde_json.specs.Data.{Data}
use Rattle.cdk_base.specs.Json.{parsed}
use Rattle.cdk_base.specs.Pretty.{pretty_text}
use Rattle.cdk_base.specs.declared.Setting.{Setting}
use Rattle.cdk_elements.specs.Kinds.{stacks_of}
use Rattle.cdk_language.specs.Application.{application_of}
use Rattle.cdk_language.specs.Construct.{Application}
use Rattle.cdk_manifest.specs.TreeFile.{tree_file_of}
use Rattle.cdk_meaning.specs.Names.{AreDistinct}
use Rattle.cdk_template.specs.Own.{spelling_of}
use Rattle.cdk_template.specs.Template.{template_of}
use Rattle.cdk_tree.specs.Placed.{Placed, construct_at, constructs_of, is_stack}
use Rattle.cdk_tree_meaning.specs.Law.{manifest_document, template_name}
use Rattle.cdk_synthesis.specs.Passes.{laid}
use Rattle.cdk_synthesis.specs.declared.files.File.{File}

-- ---- one application

abbrev pub file_of : List ℕ → Data → File
file_of name d = record { name = name; bytes = pretty_text d }

abbrev pub template_of_stack : List Placed → ℕ → File
template_of_stack cs stack = file_of (template_name cs stack) (template_of cs (spelling_of cs) stack)

-- with each resource's properties as its template has them
abbrev pub tree_document : Application → Data
tree_document a = tree_file_of (spelling_of (constructs_of a)).value a

abbrev pub tree_of_application : Application → File
tree_of_application a = file_of (codes "tree.json") (tree_document a)

abbrev pub manifest_of_constructs : List Placed → File
manifest_of_constructs cs = file_of (codes "manifest.json") (manifest_document cs)

-- the stacks' templates, the tree file, and last the manifest
abbrev pub files_of : Application → List File
files_of a = map (template_of_stack (constructs_of a)) (stacks_of (constructs_of a)) ++ tree_of_application a ∷ manifest_of_constructs (constructs_of a) ∷ []

-- the files, with the template of the construct where it is a stack
abbrev pub with_template : List Placed → ℕ → List File → List File
with_template cs n files = if is_stack (construct_at cs n).body then files ++ template_of_stack cs n ∷ [] else files

-- ---- the bytes of an application, with settings

abbrev pub application_in : List ℕ → List Setting → Option Application
application_in bytes settings = laid settings (option_and_then application_of (parsed bytes))

abbrev pub files_in : Option Application → List File
files_in None = []
files_in (Some a) = files_of a

-- the files of an application without fault
abbrev pub assembly_of : List ℕ → List Setting → List File
assembly_of bytes settings = files_in (application_in bytes settings)

abbrev pub placed_in : Option Application → List Placed
placed_in None = []
placed_in (Some a) = constructs_of a

-- the constructs of an application without fault
abbrev pub tree_of : List ℕ → List Setting → List Placed
tree_of bytes settings = placed_in (application_in bytes settings)

-- ---- what holds of them

-- each file's bytes are UTF-8
abbrev pub AllUtf8 : List File → Type 0
AllUtf8 [] = ⊤
AllUtf8 (f ∷ fs) = IsUtf8 f.bytes × AllUtf8 fs

abbrev pub names_of : List File → List (List ℕ)
names_of files = map (λ (f : File). f.name) files

-- no two files have one name, and the manifest is last
pub record IsAssembly (files : List File) : Type 0 where
  pub front : List File
  pub last : File
  pub is : files ≡ front ++ last ∷ []
  pub named : last.name ≡ codes "manifest.json"
  pub apart : AreDistinct (names_of files)
