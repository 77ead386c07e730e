-- The pairs that dependency entries stand for (AWS CDK's dependencies between constructs): each entry of a construct makes the resources
-- in it, itself counted, depend on the resources in the entry's target.
use Rattle.std.specs.Prelude.{ℕ, zero, suc, ◌+◌, List, [], ◌∷◌, sum_by, nat_eq, Bool, false, if◌then◌else◌}
use Rattle.std.specs.List.{list_any}
use Rattle.std.specs.Option.{option_map_or}
use Rattle.cdk_tree.specs.Expected.{is_resource}
use Rattle.cdk_tree.specs.Placed.{Placed, construct_at, find_path}

-- the construct and the scopes above it, at most so many
abbrev pub scopes_up : ℕ → List Placed → ℕ → List ℕ
scopes_up zero cs n = []
scopes_up (suc k) cs n = n ∷ option_map_or (scopes_up k cs) (construct_at cs n).parent []

-- the construct, its parent, and so on up to the root
abbrev pub scopes_of : List Placed → ℕ → List ℕ
scopes_of cs n = scopes_up (suc n) cs n

-- the construct n is a resource in t, or t itself
abbrev pub is_resource_in : List Placed → ℕ → ℕ → Bool
is_resource_in cs t n = if is_resource (construct_at cs n).body then list_any (nat_eq t) (scopes_of cs n) else false

-- of the constructs from the number n on
abbrev pub resources_from : List Placed → ℕ → ℕ → List Placed → ℕ
resources_from cs t n [] = 0
resources_from cs t n (c ∷ rest) = (if is_resource_in cs t n then 1 else 0) + resources_from cs t (n + 1) rest

-- how many resources there are in a construct, itself counted
abbrev pub resources_in : List Placed → ℕ → ℕ
resources_in cs t = resources_from cs t 0 cs

-- how many there are in the construct at a path, where there is one
abbrev pub resources_at : List Placed → List ℕ → ℕ
resources_at cs t = option_map_or (resources_in cs) (find_path cs t) 0

-- how many pairs the entries of a construct make with one resource in it
abbrev pub entry_pairs : List Placed → ℕ → ℕ
entry_pairs cs n = sum_by (resources_at cs) (construct_at cs n).head.depends

-- how many pairs a resource is the first of: of its own entries, and of those of the scopes above it
abbrev pub pairs_of : List Placed → ℕ → ℕ
pairs_of cs n = sum_by (entry_pairs cs) (scopes_of cs n)
