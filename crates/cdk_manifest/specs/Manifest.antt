-- The manifest of an assembly: of the application, or of a stage (the cloud assembly schema, version 36).
use Rattle.std.specs.Prelude.{ℕ, ◌==◌, ◌&&◌, ◌||◌, List, [], ◌∷◌, ◌++◌, filter, length, Bool, if◌then◌else◌, codes, unwrap_or}
use Rattle.std.specs.List.{range_with_len}
use Rattle.serde_json.specs.Data.{Data, string, array, object, Items, no_items, item, Members, no_members, member, put}
use Rattle.cdk_tree.specs.Placed.{Placed, construct_at, is_stack, is_stage}
use Rattle.cdk_tree.specs.PlaceFindings.{is_element}
use Rattle.cdk_stacks.specs.Names as names
use Rattle.cdk_stacks.specs.Names.{assembly_of}
use Rattle.cdk_objects.specs.Keys.{is_in, metadata_key}
use Rattle.cdk_manifest.specs.Objects.{filled, put_where, texts}

-- a note on a construct: its type (`aws:cdk:info`, `aws:cdk:warning`, `aws:cdk:error`) and its text
pub record Note : Type 0 where
  pub kind : List ℕ
  pub text : List ℕ

-- How constructs are told in the manifest, by their numbers in the tree.
pub record Telling : Type 0 where
  -- of elements
  pub logical : ℕ → List ℕ
  pub notes : ℕ → List Note
  -- of stacks and stages
  pub artifact : ℕ → List ℕ
  -- of stacks; the dependencies are artifact ids by bytes
  pub stack_name : ℕ → List ℕ
  pub dependencies : ℕ → List (List ℕ)
  -- of a stack's generated outputs, which no construct is: the path below the stack and the logical name
  pub generated : ℕ → List (List ℕ × List ℕ)

-- by the names of an application that has no dependencies, notes or generated outputs
abbrev pub telling_of : List Placed → Telling
telling_of cs = record {
  logical = λ n. unwrap_or (names.logical_name cs n) [];
  notes = λ n. [];
  artifact = λ n. unwrap_or (names.artifact_id cs n) [];
  stack_name = λ n. unwrap_or (names.stack_name cs n) [];
  dependencies = λ n. [];
  generated = λ n. [];
}

-- ---- a stack

abbrev pub metadata_entry : List ℕ → List ℕ → Data
metadata_entry kind text = object (member (codes "data") (string text) (member (codes "type") (string kind) no_members))

abbrev pub noted : List Note → Items
noted [] = no_items
noted (n ∷ ns) = item (metadata_entry n.kind n.text) (noted ns)

-- the logical name first, then the notes
abbrev pub metadata_of : List ℕ → List Note → Data
metadata_of logical notes = array (item (metadata_entry (codes "aws:cdk:logicalId") logical) (noted notes))

abbrev pub with_generated : List ℕ → List (List ℕ × List ℕ) → Members → Members
with_generated path [] ms = ms
with_generated path (g ∷ gs) ms = with_generated path gs (put (47 ∷ path ++ 47 ∷ g.0) (metadata_of g.1 []) ms)

-- it is an element of the stack
abbrev pub is_element_of : List Placed → ℕ → ℕ → Bool
is_element_of cs stack n = is_in stack (construct_at cs n).stack && is_element (construct_at cs n).body

-- the numbers of a stack's elements, in walk order
abbrev pub elements_of : List Placed → ℕ → List ℕ
elements_of cs stack = filter (is_element_of cs stack) (range_with_len 0 (length cs))

abbrev pub element_metadata : Telling → ℕ → Data
element_metadata t n = metadata_of (t.logical n) (t.notes n)

-- those of generated outputs first, so that an element's own stays
abbrev pub stack_metadata : List Placed → Telling → ℕ → Members
stack_metadata cs t stack =
    filled (metadata_key cs) (element_metadata t) (elements_of cs stack)
    (with_generated (construct_at cs stack).path (t.generated stack) no_members)

abbrev pub template_file : List ℕ → List ℕ
template_file artifact = artifact ++ codes ".template.json"

abbrev pub stack_properties : Telling → ℕ → Data
stack_properties t stack = object (member (codes "stackName") (string (t.stack_name stack)) (member (codes "templateFile") (string (template_file (t.artifact stack))) no_members))

abbrev pub stack_entry : List Placed → Telling → ℕ → Data
stack_entry cs t stack =
    object (member (codes "dependencies") (array (texts (t.dependencies stack)))
    (member (codes "displayName") (string (construct_at cs stack).path)
    (member (codes "environment") (string (codes "aws://unknown-account/unknown-region"))
    (member (codes "metadata") (object (stack_metadata cs t stack))
    (member (codes "properties") (stack_properties t stack)
    (member (codes "type") (string (codes "aws:cloudformation:stack"))
    no_members))))))

-- ---- a nested assembly, whose directory has its artifact id as name

abbrev pub nested_entry : List ℕ → Data
nested_entry artifact =
    object (member (codes "properties") (object (member (codes "directoryName") (string artifact) no_members))
    (member (codes "type") (string (codes "cdk:cloud-assembly"))
    no_members))

-- ---- the manifest

abbrev pub tree_entry : Data
tree_entry =
    object (member (codes "properties") (object (member (codes "file") (string (codes "tree.json")) no_members))
    (member (codes "type") (string (codes "cdk:tree"))
    no_members))

abbrev pub artifact_entry : List Placed → Telling → ℕ → Data
artifact_entry cs t n = if is_stack (construct_at cs n).body then stack_entry cs t n else nested_entry (t.artifact n)

-- it is a stack or stage that stands in the assembly
abbrev pub is_artifact_of : List Placed → ℕ → ℕ → Bool
is_artifact_of cs stage n = (is_stack (construct_at cs n).body || is_stage (construct_at cs n).body) && assembly_of cs n == stage

-- the numbers of the stacks and stages of an assembly, in walk order
abbrev pub artifacts_of : List Placed → ℕ → List ℕ
artifacts_of cs stage = filter (is_artifact_of cs stage) (range_with_len 0 (length cs))

abbrev pub artifact_members : List Placed → Telling → ℕ → Members
artifact_members cs t stage = filled t.artifact (artifact_entry cs t) (artifacts_of cs stage) no_members

-- the tree file stands in the application's own assembly
abbrev pub with_tree : ℕ → Members → Members
with_tree stage ms = if stage == 0 then put (codes "Tree") tree_entry ms else ms

abbrev pub manifest_of : List Placed → Telling → ℕ → Data
manifest_of cs t stage =
    object (member (codes "artifacts") (object (with_tree stage (artifact_members cs t stage)))
    (member (codes "version") (string (codes "36.0.0"))
    no_members))

-- ---- one construct's part

abbrev pub with_element : List Placed → ℕ → ℕ → Members → Members
with_element cs stack n ms = put_where (metadata_key cs) (element_metadata (telling_of cs)) (is_element_of cs stack) n ms

abbrev pub with_artifact : List Placed → ℕ → ℕ → Members → Members
with_artifact cs stage n ms = put_where (telling_of cs).artifact (artifact_entry cs (telling_of cs)) (is_artifact_of cs stage) n ms
