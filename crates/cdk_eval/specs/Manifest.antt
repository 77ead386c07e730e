-- The stacks of an assembly's manifest, in evaluation order (CDK's cloud assembly; the order is own).
use Rattle.std.specs.Prelude.{◌≡◌, ℕ, zero, suc, List, [], ◌∷◌, map, length, filter, find, Bool, true, false, not, Option, Some, None, unwrap_or, option_map, option_and_then, if◌then◌else◌, bytes_eq, codes, ⊤}
use Rattle.std.specs.List.{list_all}
use Rattle.serde_json.specs.Data.{Data, Items, no_items, item, Members, no_members, member}
use Rattle.serde_json.specs.Find.{get, as_str, as_array}
use Rattle.cdk_eval.specs.Reach.{is_among, comes_to}
use Rattle.cdk_eval.specs.Sections.{section}

pub record StackArtifact : Type 0 where
  pub id : List ℕ
  pub name : List ℕ
  pub file : List ℕ
  -- artifact ids of stacks of the same manifest
  pub dependencies : List (List ℕ)

abbrev pub artifacts : Data → Members
artifacts manifest = section (codes "artifacts") manifest

abbrev pub is_type : List ℕ → Data → Bool
is_type t artifact = bytes_eq t (unwrap_or (option_and_then as_str (get (codes "type") artifact)) [])

-- a text of the artifact's properties
abbrev pub property : List ℕ → Data → Option (List ℕ)
property k artifact = option_and_then as_str (option_and_then (get k) (get (codes "properties") artifact))

-- the ids of the stacks
abbrev pub stack_ids : Members → List (List ℕ)
stack_ids no_members = []
stack_ids (member id a ms) = if is_type (codes "aws:cloudformation:stack") a then id ∷ stack_ids ms else stack_ids ms

abbrev pub text_onto : Option (List ℕ) → List (List ℕ) → List (List ℕ)
text_onto None ts = ts
text_onto (Some t) ts = t ∷ ts

abbrev pub texts_in : Items → List (List ℕ)
texts_in no_items = []
texts_in (item d ds) = text_onto (as_str d) (texts_in ds)

-- what it depends on
abbrev pub named_in : Data → List (List ℕ)
named_in artifact = texts_in (unwrap_or (option_and_then as_array (get (codes "dependencies") artifact)) no_items)

abbrev pub stack_at : List (List ℕ) → List ℕ → Data → StackArtifact
stack_at stacks artifact_id a = record {
  id = artifact_id;
  name = unwrap_or (property (codes "stackName") a) artifact_id;
  file = unwrap_or (property (codes "templateFile") a) [];
  dependencies = filter (λ d. is_among d stacks) (named_in a);
}

abbrev pub stack_artifacts : List (List ℕ) → Members → List StackArtifact
stack_artifacts stacks no_members = []
stack_artifacts stacks (member id a ms) = if is_type (codes "aws:cloudformation:stack") a then stack_at stacks id a ∷ stack_artifacts stacks ms else stack_artifacts stacks ms

-- by artifact id
abbrev pub stacks_of : Data → List StackArtifact
stacks_of manifest = stack_artifacts (stack_ids (artifacts manifest)) (artifacts manifest)

-- the directories of the nested assemblies, by artifact id
abbrev pub nested_directories : Members → List (List ℕ)
nested_directories no_members = []
nested_directories (member id a ms) = if is_type (codes "cdk:cloud-assembly") a then text_onto (property (codes "directoryName") a) (nested_directories ms) else nested_directories ms

-- ---- their order

abbrev pub dependencies_of : List StackArtifact → List ℕ → List (List ℕ)
dependencies_of [] id = []
dependencies_of (s ∷ ss) id = if bytes_eq s.id id then s.dependencies else dependencies_of ss id

-- it reaches itself; no way back needs more steps than there are stacks
abbrev pub comes_back : List StackArtifact → List ℕ → Bool
comes_back ss id = comes_to (dependencies_of ss) (length ss) id id

-- the least artifact id that reaches itself
abbrev pub cyclic : List StackArtifact → Option (List ℕ)
cyclic ss = option_map (λ s. s.id) (find (λ s. comes_back ss s.id) ss)

abbrev pub is_ready : List (List ℕ) → StackArtifact → Bool
is_ready before s = list_all (λ d. is_among d before) s.dependencies

abbrev pub first_then : Option StackArtifact → (StackArtifact → List StackArtifact) → List StackArtifact
first_then None rest = []
first_then (Some s) rest = s ∷ rest s

-- always next the least whose dependencies stand before; at most so many
abbrev pub placed : ℕ → List (List ℕ) → List StackArtifact → List StackArtifact
placed zero before left = []
placed (suc n) before left = first_then (find (is_ready before) left) (λ s. placed n (s.id ∷ before) (filter (λ r. not (bytes_eq r.id s.id)) left))

abbrev pub in_order : List StackArtifact → List StackArtifact
in_order ss = placed (length ss) [] ss

-- ---- laws

abbrev pub ids : List StackArtifact → List (List ℕ)
ids ss = map (λ s. s.id) ss

-- no id twice, as in every manifest that is read
abbrev pub AreApart : List StackArtifact → Type 0
AreApart [] = ⊤
AreApart (s ∷ ss) = (is_among s.id (ids ss) ≡ false) × AreApart ss

-- what reaches itself by any way is told
abbrev pub CyclesAreFound : Type 0
CyclesAreFound = (ss : List StackArtifact) (n : ℕ) (id : List ℕ) → comes_to (dependencies_of ss) n id id ≡ true → comes_back ss id ≡ true

-- each of the list stands after its dependencies
abbrev pub StandAfter : List (List ℕ) → List StackArtifact → Type 0
StandAfter before [] = ⊤
StandAfter before (s ∷ ss) = (is_ready before s ≡ true) × StandAfter (s.id ∷ before) ss

abbrev pub OrderKeepsDependencies : Type 0
OrderKeepsDependencies = (ss : List StackArtifact) → StandAfter [] (in_order ss)

-- without a cycle no stack of a manifest is left out
abbrev pub OrderIsWhole : Type 0
OrderIsWhole = (manifest : Data) → AreApart (stacks_of manifest) → cyclic (stacks_of manifest) ≡ None → (id : List ℕ) → is_among id (ids (stacks_of manifest)) ≡ true → is_among id (ids (in_order (stacks_of manifest))) ≡ true
