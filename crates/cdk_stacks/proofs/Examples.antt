-- Small applications: their names, and what is wrong with them, computed by the definitions.
use Rattle.std.proofs.Common.{◌≡◌, ℕ, List, [], ◌∷◌, codes, Option, Some, None, option_map, option_and_then, refl}
use Rattle.std.specs.Fmt.{digits}
use Rattle.serde_json.specs.Read.{read}
use Rattle.serde_json.proofs.OnLiterals.{serde_json_on_literals}
use Rattle.md5.specs.Md5.{block_words, rounds, compress, hash_after, digest_bytes, md5}
use Rattle.cdk_base.specs.declared.code.Code.TheVariants.{BadName, SameName}
use Rattle.cdk_language.specs.Application.{application_of}
use Rattle.cdk_tree.specs.Placed.{Placed, constructs_of}
use Rattle.cdk_tree.specs.declared.role.Found.{Found}
use Rattle.cdk_stacks.specs.Claims.{found_at, name_findings}
use Rattle.cdk_stacks.specs.Names.{artifact_id, logical_name, stack_name}

abbrev tree : List ℕ → Option (List Placed)
tree s = option_map constructs_of (option_and_then application_of (read s))

abbrev wrong : List ℕ → Option (List Found)
wrong s = option_map name_findings (tree s)

-- both are `AB`
same_letters : wrong (codes "{\"app\":\"2\",\"children\":[{\"kind\":\"stack\",\"id\":\"S\",\"children\":[{\"kind\":\"resource\",\"id\":\"A-B\",\"type\":\"T\",\"properties\":{}},{\"kind\":\"resource\",\"id\":\"AB\",\"type\":\"T\",\"properties\":{}}]}]}")
    ≡ Some (found_at 3 SameName ∷ [])
unfolding serde_json_on_literals digits
same_letters = refl

-- a resource `Default` has no name, and `-` the empty one
no_name : wrong (codes "{\"app\":\"2\",\"children\":[{\"kind\":\"stack\",\"id\":\"S\",\"children\":[{\"kind\":\"resource\",\"id\":\"Default\",\"type\":\"T\",\"properties\":{}},{\"kind\":\"resource\",\"id\":\"-\",\"type\":\"T\",\"properties\":{}}]}]}")
    ≡ Some (found_at 2 BadName ∷ found_at 3 BadName ∷ [])
unfolding serde_json_on_literals digits
no_name = refl

-- `Tree` is the tree file's
tree_stack : wrong (codes "{\"app\":\"2\",\"children\":[{\"kind\":\"stack\",\"id\":\"Tree\",\"children\":[]}]}")
    ≡ Some (found_at 1 SameName ∷ [])
unfolding serde_json_on_literals digits
tree_stack = refl

-- an artifact id leaves `Default` out
tree_stack_in_default : wrong (codes "{\"app\":\"2\",\"children\":[{\"kind\":\"group\",\"id\":\"Default\",\"children\":[{\"kind\":\"stack\",\"id\":\"Tree\",\"children\":[]}]}]}")
    ≡ Some (found_at 2 SameName ∷ [])
unfolding serde_json_on_literals digits
tree_stack_in_default = refl

kept_misnamed : wrong (codes "{\"app\":\"2\",\"children\":[{\"kind\":\"stack\",\"id\":\"S\",\"children\":[{\"kind\":\"resource\",\"id\":\"R\",\"logicalId\":\"a-b\",\"type\":\"T\",\"properties\":{}}]}]}")
    ≡ Some (found_at 2 BadName ∷ [])
unfolding serde_json_on_literals digits
kept_misnamed = refl

kept_twice : wrong (codes "{\"app\":\"2\",\"children\":[{\"kind\":\"stack\",\"id\":\"S\",\"children\":[{\"kind\":\"resource\",\"id\":\"R\",\"logicalId\":\"K\",\"type\":\"T\",\"properties\":{}},{\"kind\":\"output\",\"id\":\"Q\",\"logicalId\":\"K\",\"value\":\"v\"}]}]}")
    ≡ Some (found_at 3 SameName ∷ [])
unfolding serde_json_on_literals digits
kept_twice = refl

-- a name may be taken in another stack
apart : wrong (codes "{\"app\":\"2\",\"children\":[{\"kind\":\"stack\",\"id\":\"S\",\"children\":[{\"kind\":\"resource\",\"id\":\"R\",\"type\":\"T\",\"properties\":{}}]},{\"kind\":\"stack\",\"id\":\"U\",\"children\":[{\"kind\":\"resource\",\"id\":\"R\",\"type\":\"T\",\"properties\":{}}]}]}")
    ≡ Some []
unfolding serde_json_on_literals digits
apart = refl

abbrev staged : List ℕ
staged = codes "{\"app\":\"2\",\"children\":[{\"kind\":\"stage\",\"id\":\"G\",\"children\":[{\"kind\":\"stack\",\"id\":\"X\",\"children\":[]}]}]}"

staged_clean : wrong staged ≡ Some []
unfolding serde_json_on_literals digits block_words rounds compress hash_after digest_bytes md5
staged_clean = refl

staged_stack : option_map (λ cs. stack_name cs 2) (tree staged) ≡ Some (Some (codes "G-X"))
unfolding serde_json_on_literals digits
staged_stack = refl

staged_assembly : option_map (λ cs. artifact_id cs 1) (tree staged) ≡ Some (Some (codes "assembly-G"))
unfolding serde_json_on_literals digits
staged_assembly = refl

-- stack names differ in the whole application
same_stack_name : wrong (codes "{\"app\":\"2\",\"children\":[{\"kind\":\"stage\",\"id\":\"Prod\",\"children\":[{\"kind\":\"stack\",\"id\":\"Api\",\"children\":[]}]},{\"kind\":\"stack\",\"id\":\"Prod-Api\",\"children\":[]}]}")
    ≡ Some (found_at 3 SameName ∷ [])
unfolding serde_json_on_literals digits block_words rounds compress hash_after digest_bytes md5
same_stack_name = refl

-- in the assembly of a stage `Tree` is free
tree_in_a_stage : wrong (codes "{\"app\":\"2\",\"children\":[{\"kind\":\"stage\",\"id\":\"Default\",\"children\":[{\"kind\":\"stack\",\"id\":\"Tree\",\"children\":[]}]}]}")
    ≡ Some []
unfolding serde_json_on_literals digits
tree_in_a_stage = refl

-- a name that may not be is taken as well
wrong_twice : wrong (codes "{\"app\":\"2\",\"children\":[{\"kind\":\"stack\",\"id\":\"S\",\"children\":[{\"kind\":\"resource\",\"id\":\"-\",\"type\":\"T\",\"properties\":{}},{\"kind\":\"resource\",\"id\":\"--\",\"type\":\"T\",\"properties\":{}}]}]}")
    ≡ Some (found_at 2 BadName ∷ found_at 3 BadName ∷ found_at 3 SameName ∷ [])
unfolding serde_json_on_literals digits
wrong_twice = refl

abbrev nested : List ℕ
nested = codes "{\"app\":\"2\",\"children\":[{\"kind\":\"stage\",\"id\":\"A\",\"children\":[{\"kind\":\"group\",\"id\":\"H\",\"children\":[{\"kind\":\"stage\",\"id\":\"1\",\"children\":[{\"kind\":\"stack\",\"id\":\"X\",\"children\":[{\"kind\":\"group\",\"id\":\"Default\",\"children\":[{\"kind\":\"resource\",\"id\":\"R\",\"type\":\"T\",\"properties\":{}}]}]}]}]}]}]}"

-- a stage's id has a stack name's form, though the stage's name would have it anyway
nested_stage : wrong nested ≡ Some (found_at 3 BadName ∷ [])
unfolding serde_json_on_literals digits block_words rounds compress hash_after digest_bytes md5
nested_stage = refl

-- groups give no part of a stack's name
nested_stack : option_map (λ cs. stack_name cs 4) (tree nested) ≡ Some (Some (codes "A-1-X"))
unfolding serde_json_on_literals digits
nested_stack = refl

nested_assembly : option_map (λ cs. artifact_id cs 3) (tree nested) ≡ Some (Some (codes "assembly-A-1"))
unfolding serde_json_on_literals digits
nested_assembly = refl

-- ids from below the stack alone
nested_resource : option_map (λ cs. logical_name cs 6) (tree nested) ≡ Some (Some (codes "R"))
unfolding serde_json_on_literals digits
nested_resource = refl

-- a construct of no such kind has none of these names
nameless_group : option_map (λ cs. logical_name cs 2) (tree nested) ≡ Some None
unfolding serde_json_on_literals digits
nameless_group = refl
