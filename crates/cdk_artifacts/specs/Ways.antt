-- The search for a way from a stack to itself.
use Rattle.std.specs.Prelude.{◌≡◌, ◌⊎◌, ℕ, List, [], Bool, true, false, Option, Some, None, bytes_eq}
use Rattle.std.specs.Ordering.{nat_cmp}
use Rattle.std.specs.Cmp.Lexicographic.{slice_cmp}
use Rattle.std.specs.BTreeMap.{get_by}
use denote.Ref.{Bor}
use Rattle.cdk_eval.specs.Manifest.{StackArtifact, dependencies_of}
use Rattle.cdk_eval.specs.Reach.{IsIn}
use Rattle.cdk_artifacts.specs.declared.cycle.Index.{Index}
use Rattle.cdk_artifacts.specs.declared.stacks.Stack.{Stack}
use Rattle.cdk_artifacts.specs.Found.{texts_of}

abbrev pub dependencies_in : Option (Bor Stack) → List (List ℕ)
dependencies_in None = []
dependencies_in (Some s) = texts_of s.now.dependencies.items

-- what the stack of the id depends on
abbrev pub leads_in : Index → List ℕ → List (List ℕ)
leads_in index n = dependencies_in (get_by (λ k. slice_cmp nat_cmp n k.now) index.stacks)

abbrev pub IsIndex : List StackArtifact → Index → Type 0
IsIndex ss index = (n : List ℕ) → leads_in index n ≡ dependencies_of ss n

-- what is seen, and what is open, grows by some of the names; each that is seen anew is open
pub record Grows (names : List (List ℕ)) (s t : List ℕ → Bool) (o p : List (List ℕ)) : Type 0 where
  pub more : (n : List ℕ) → s n ≡ true → t n ≡ true
  pub opened : (n : List ℕ) → t n ≡ true → (s n ≡ true) ⊎ IsIn n p
  pub stays : (n : List ℕ) → IsIn n o → IsIn n p
  pub given : (n : List ℕ) → IsIn n p → IsIn n o ⊎ IsIn n names

-- each of the names is seen, and none is the goal
abbrev pub AreSeen : List ℕ → (List ℕ → Bool) → List (List ℕ) → Type 0
AreSeen goal t names = (n : List ℕ) → IsIn n names → (bytes_eq n goal ≡ false) × (t n ≡ true)

-- the goal is one of the names, or all are seen
abbrev pub Pushed : Bool → List ℕ → List (List ℕ) → (List ℕ → Bool) → (List ℕ → Bool) → List (List ℕ) → List (List ℕ) → Type 0
Pushed true goal names s t o p = IsIn goal names
Pushed false goal names s t o p = Grows names s t o p × AreSeen goal t names
