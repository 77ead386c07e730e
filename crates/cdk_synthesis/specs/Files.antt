-- What the making of files answers.
use Rattle.std.specs.Prelude.{◌≡◌, ℕ, List, [], ◌∷◌, ◌++◌, filter, map, Result, Ok, Err, Some, ⊤}
use Rattle.cdk_elements.specs.Kinds.{stacks_of}
use Rattle.cdk_language.specs.Construct.{Application}
use Rattle.cdk_template.specs.Markers.{marker_findings, marker_findings_of}
use Rattle.cdk_tree.specs.PlaceFindings.{first}
use Rattle.cdk_tree.specs.Placed.{Placed, construct_at, constructs_of, is_stack}
use Rattle.cdk_tree.specs.declared.role.Found.{Found}
use Rattle.cdk_tree.specs.declared.role.PassError.{PassError}
use Rattle.cdk_tree.specs.declared.role.PassError.TheVariants as errors
use Rattle.cdk_synthesis.specs.Assembly.{manifest_of_constructs, template_of_stack, tree_of_application, with_template}
use Rattle.cdk_synthesis.specs.Checks.{AreFilesOf}
use Rattle.cdk_synthesis.specs.declared.files.File.{File}

-- the first of these findings, or want of memory, which is free
abbrev pub IsFirst : PassError → List Found → Type 0
IsFirst errors.Memory fs = ⊤
IsFirst (errors.Fault f) fs = first fs ≡ Some f

-- of the stacks among the numbers
abbrev pub markers_among : List Placed → List ℕ → List Found
markers_among cs ns = marker_findings_of cs (filter (λ n. is_stack (construct_at cs n).body) ns)

-- the template of the stack, in which no marker is left, or the fault that one is
abbrev pub IsTemplateFile : Result File PassError → List Placed → ℕ → Type 0
IsTemplateFile (Ok file) cs stack = (file ≡ template_of_stack cs stack) × (marker_findings_of cs (stack ∷ []) ≡ [])
IsTemplateFile (Err error) cs stack = IsFirst error (marker_findings_of cs (stack ∷ []))

abbrev pub PutsTemplate : Result (Unit {0}) PassError → List Placed → ℕ → List File → List File → Type 0
PutsTemplate (Ok u) cs n old new = (new ≡ with_template cs n old) × (markers_among cs (n ∷ []) ≡ [])
PutsTemplate (Err error) cs n old new = IsFirst error (markers_among cs (n ∷ []))

-- those of all stacks, in walk order
abbrev pub AreTemplates : Result (List File) PassError → List Placed → Type 0
AreTemplates (Ok files) cs = (files ≡ map (template_of_stack cs) (stacks_of cs)) × (marker_findings cs ≡ [])
AreTemplates (Err error) cs = IsFirst error (marker_findings cs)

abbrev pub PutsRest : List Placed → List File → List File → Type 0
PutsRest cs old new = (a : Application) → cs ≡ constructs_of a → new ≡ old ++ tree_of_application a ∷ manifest_of_constructs cs ∷ []

-- all files, in no template of which a marker is left
abbrev pub FilesAnswer : Result (List File) PassError → List Placed → Type 0
FilesAnswer (Ok files) cs = AreFilesOf cs files × (marker_findings cs ≡ [])
FilesAnswer (Err error) cs = IsFirst error (marker_findings cs)
