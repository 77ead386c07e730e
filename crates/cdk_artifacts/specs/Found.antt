-- What the code's stacks and sets of names stand for.
use Rattle.std.specs.Prelude.{ℕ, List, [], ◌∷◌, map, filter, Bool, codes, unwrap_or, if◌then◌else◌, is_some}
use Rattle.std.specs.Ordering.{nat_cmp}
use Rattle.std.specs.Cmp.Lexicographic.{slice_cmp}
use Rattle.std.specs.BTreeMap.{get_by}
use denote.Ref.{Bor}
use Rattle.serde_json.specs.Data.{Data, Members, no_members, member}
use Rattle.cdk_eval.specs.Manifest.{StackArtifact, is_type, property, named_in}
use Rattle.cdk_artifacts.specs.declared.name_set.NameSet.{NameSet}
use Rattle.cdk_artifacts.specs.declared.stacks.Stack.{Stack}

abbrev pub texts_of : List (Bor (List ℕ)) → List (List ℕ)
texts_of ns = map (λ n. n.now) ns

abbrev pub has_name : NameSet → List ℕ → Bool
has_name s n = is_some (get_by (λ k. slice_cmp nat_cmp n k.now) s.names)

abbrev pub stack_view : Stack → StackArtifact
stack_view s = record { id = s.id.now; name = s.name.now; file = s.file.now; dependencies = texts_of s.dependencies.items }

abbrev pub is_stack : Data → Bool
is_stack a = is_type (codes "aws:cloudformation:stack") a

-- `stack_at` and `stack_artifacts`, by a test for the ids of stacks
abbrev pub stack_by : (List ℕ → Bool) → List ℕ → Data → StackArtifact
stack_by known artifact_id a = record {
  id = artifact_id;
  name = unwrap_or (property (codes "stackName") a) artifact_id;
  file = unwrap_or (property (codes "templateFile") a) [];
  dependencies = filter known (named_in a);
}

abbrev pub stack_onto : (List ℕ → Bool) → List ℕ → Data → List StackArtifact → List StackArtifact
stack_onto known id a ss = if is_stack a then stack_by known id a ∷ ss else ss

abbrev pub stacks_by : (List ℕ → Bool) → Members → List StackArtifact
stacks_by known no_members = []
stacks_by known (member id a ms) = stack_onto known id a (stacks_by known ms)
