-- What follows where nothing is wrong with names (own).
use Rattle.std.specs.Prelude.{◌≡◌, ◌<◌, ℕ, List, [], true, Some, IsTrue, IsSomeAnd, codes, length}
use Rattle.cdk_names.specs.Forms.{is_logical, is_stack_name}
use Rattle.cdk_tree.specs.Placed.{Placed, construct_at, is_stack}
use Rattle.cdk_tree.specs.PlaceFindings.{is_element}
use Rattle.cdk_stacks.specs.Claims.{name_findings}
use Rattle.cdk_stacks.specs.Names.{artifact_id, assembly_of, logical_name, stack_name}

-- each element has a logical name
abbrev pub ElementsHaveLogicalNames : Type 0
ElementsHaveLogicalNames = (cs : List Placed) (n : ℕ) → name_findings cs ≡ [] → n < length cs → is_element (construct_at cs n).body ≡ true → IsSomeAnd (logical_name cs n) (λ name. IsTrue (is_logical name))

-- and none that an element before it in its stack has
abbrev pub LogicalNamesDiffer : Type 0
LogicalNamesDiffer = (cs : List Placed) (m n : ℕ) (stack : ℕ) (name : List ℕ) → name_findings cs ≡ [] → m < n → n < length cs
    → (construct_at cs m).stack ≡ Some stack → (construct_at cs n).stack ≡ Some stack → logical_name cs m ≡ Some name → logical_name cs n ≡ Some name → ⊥

-- each stack has a name
abbrev pub StacksHaveNames : Type 0
StacksHaveNames = (cs : List Placed) (n : ℕ) → name_findings cs ≡ [] → n < length cs → is_stack (construct_at cs n).body ≡ true → IsSomeAnd (stack_name cs n) (λ name. IsTrue (is_stack_name name))

-- and none that a stack before it has
abbrev pub StackNamesDiffer : Type 0
StackNamesDiffer = (cs : List Placed) (m n : ℕ) (name : List ℕ) → name_findings cs ≡ [] → m < n → n < length cs → stack_name cs m ≡ Some name → stack_name cs n ≡ Some name → ⊥

-- no two artifacts of an assembly have one id
abbrev pub ArtifactIdsDiffer : Type 0
ArtifactIdsDiffer = (cs : List Placed) (m n : ℕ) (id : List ℕ) → name_findings cs ≡ [] → m < n → n < length cs → assembly_of cs m ≡ assembly_of cs n → artifact_id cs m ≡ Some id → artifact_id cs n ≡ Some id → ⊥

-- and none in the root assembly has the tree file's
abbrev pub NoArtifactIsTree : Type 0
NoArtifactIsTree = (cs : List Placed) (n : ℕ) → name_findings cs ≡ [] → n < length cs → assembly_of cs n ≡ 0 → artifact_id cs n ≡ Some (codes "Tree") → ⊥
