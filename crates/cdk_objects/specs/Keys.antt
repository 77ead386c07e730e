-- Where constructs stand in the objects of others.
use Rattle.std.specs.Prelude.{ℕ, ◌==◌, List, ◌∷◌, Bool, false, if◌then◌else◌, Option, Some, None}
use Rattle.serde_json.specs.Data.{Data, Members, put}
use Rattle.cdk_tree.specs.Placed.{Placed, construct_at}

abbrev pub is_in : ℕ → Option ℕ → Bool
is_in k None = false
is_in k (Some n) = n == k

-- what belongs to a construct is put into its scope's object, by its id
abbrev pub with_child : Placed → Data → (ℕ → Members) → ℕ → Members
with_child c d members k = if is_in k c.parent then put c.head.id d (members k) else members k

-- an element's key in its stack's metadata: its path after a slash
abbrev pub metadata_key : List Placed → ℕ → List ℕ
metadata_key cs n = 47 ∷ (construct_at cs n).path
