-- Small applications: in walk order, how many pairs each construct is the first of.
use Rattle.std.proofs.Common.{◌≡◌, ℕ, List, [], ◌∷◌, codes, Option, Some, option_map, option_and_then, refl}
use Rattle.std.specs.Fmt.{digits}
use Rattle.serde_json.specs.Read.{read}
use Rattle.serde_json.proofs.OnLiterals.{serde_json_on_literals}
use Rattle.cdk_language.specs.Application.{application_of}
use Rattle.cdk_tree.specs.Placed.{constructs_of}
use Rattle.cdk_dependencies.specs.Counts.{pair_counts_of}

abbrev pairs : List ℕ → Option (List ℕ)
pairs document = option_map (λ a. pair_counts_of (constructs_of a)) (option_and_then application_of (read document))

-- a stack's entry names a group of two resources: the stack and what stands in it are the first of two pairs each
group_of_two : pairs (codes "{\"app\":\"2\",\"children\":[{\"kind\":\"stack\",\"id\":\"S\",\"dependsOn\":[\"T/G\"],\"children\":[{\"kind\":\"group\",\"id\":\"H\",\"children\":[{\"kind\":\"resource\",\"id\":\"R\",\"type\":\"Own::T\"}]}]},{\"kind\":\"stack\",\"id\":\"T\",\"children\":[{\"kind\":\"group\",\"id\":\"G\",\"children\":[{\"kind\":\"resource\",\"id\":\"A\",\"type\":\"Own::T\"},{\"kind\":\"resource\",\"id\":\"B\",\"type\":\"Own::T\"}]}]}]}")
    ≡ Some (0 ∷ 2 ∷ 2 ∷ 2 ∷ 0 ∷ 0 ∷ 0 ∷ 0 ∷ [])
unfolding serde_json_on_literals digits
group_of_two = refl

-- an entry that is given twice counts twice
given_twice : pairs (codes "{\"app\":\"2\",\"children\":[{\"kind\":\"stack\",\"id\":\"S\",\"dependsOn\":[\"T/G\",\"T/G\"],\"children\":[{\"kind\":\"resource\",\"id\":\"R\",\"type\":\"Own::T\"}]},{\"kind\":\"stack\",\"id\":\"T\",\"children\":[{\"kind\":\"group\",\"id\":\"G\",\"children\":[{\"kind\":\"resource\",\"id\":\"A\",\"type\":\"Own::T\"},{\"kind\":\"resource\",\"id\":\"B\",\"type\":\"Own::T\"}]}]}]}")
    ≡ Some (0 ∷ 4 ∷ 4 ∷ 0 ∷ 0 ∷ 0 ∷ 0 ∷ [])
unfolding serde_json_on_literals digits
given_twice = refl

-- a resource that stands in its own target is counted with the others there
own_target : pairs (codes "{\"app\":\"2\",\"children\":[{\"kind\":\"stack\",\"id\":\"S\",\"children\":[{\"kind\":\"resource\",\"id\":\"R\",\"type\":\"Own::T\",\"dependsOn\":[\"S\"]},{\"kind\":\"resource\",\"id\":\"Q\",\"type\":\"Own::T\"}]}]}")
    ≡ Some (0 ∷ 0 ∷ 2 ∷ 0 ∷ [])
unfolding serde_json_on_literals digits
own_target = refl

-- a target that is a resource counts itself and the resources below it
resource_below_resource : pairs (codes "{\"app\":\"2\",\"children\":[{\"kind\":\"stack\",\"id\":\"S\",\"children\":[{\"kind\":\"resource\",\"id\":\"R\",\"type\":\"Own::T\",\"dependsOn\":[\"S/Q\"]},{\"kind\":\"resource\",\"id\":\"Q\",\"type\":\"Own::T\",\"children\":[{\"kind\":\"resource\",\"id\":\"P\",\"type\":\"Own::T\"}]}]}]}")
    ≡ Some (0 ∷ 0 ∷ 2 ∷ 0 ∷ 0 ∷ [])
unfolding serde_json_on_literals digits
resource_below_resource = refl

-- entries of every scope count, and a path of no construct makes none
scopes_and_no_target : pairs (codes "{\"app\":\"2\",\"children\":[{\"kind\":\"stack\",\"id\":\"S\",\"dependsOn\":[\"T\"],\"children\":[{\"kind\":\"group\",\"id\":\"H\",\"dependsOn\":[\"T/A\",\"T/None\"],\"children\":[{\"kind\":\"resource\",\"id\":\"R\",\"type\":\"Own::T\",\"dependsOn\":[\"T/A\"]}]}]},{\"kind\":\"stack\",\"id\":\"T\",\"children\":[{\"kind\":\"resource\",\"id\":\"A\",\"type\":\"Own::T\"},{\"kind\":\"resource\",\"id\":\"B\",\"type\":\"Own::T\"}]}]}")
    ≡ Some (0 ∷ 2 ∷ 3 ∷ 4 ∷ 0 ∷ 0 ∷ 0 ∷ [])
unfolding serde_json_on_literals digits
scopes_and_no_target = refl
