-- Small applications: their constructs, and what is wrong with them, computed by the definitions.
use Rattle.std.proofs.Common.{◌≡◌, ℕ, List, [], ◌∷◌, map, codes, replicate, Option, Some, None, true, false, option_map, option_and_then, refl}
use Rattle.std.specs.Fmt.{digits}
use Rattle.serde_json.specs.Data.{string}
use Rattle.serde_json.specs.Read.{read}
use Rattle.serde_json.proofs.OnLiterals.{serde_json_on_literals}
use Rattle.cdk_base.specs.declared.code.Code.TheVariants.{BadId, SameId, BadPlace, NoTarget, WrongTarget}
use Rattle.cdk_language.specs.Application.{application_of}
use Rattle.cdk_language.specs.declared.finding.Finding.{Finding}
use Rattle.cdk_tree.specs.Expected.{target_findings, target_at}
use Rattle.cdk_tree.specs.Lists.{list_lazies}
use Rattle.cdk_tree.specs.PlaceFindings.{place_findings, found_at, is_id}
use Rattle.cdk_tree.specs.Placed.{Placed, constructs_of, construct_at, find_path, look_up}
use Rattle.cdk_tree.specs.declared.role.Found.{Found}

abbrev tree : List ℕ → Option (List Placed)
tree s = option_map constructs_of (option_and_then application_of (read s))

abbrev misplaced : List ℕ → Option (List Finding)
misplaced s = option_map place_findings (tree s)

abbrev mistargeted : List ℕ → Option (List Found)
mistargeted s = option_map target_findings (tree s)

-- ids below the root with `/` between them, in walk order
paths : option_map (map (λ c. c.path)) (tree (codes "{\"app\":\"2\",\"children\":[{\"kind\":\"stage\",\"id\":\"A\",\"children\":[{\"kind\":\"stack\",\"id\":\"S\",\"children\":[{\"kind\":\"group\",\"id\":\"G\",\"children\":[{\"kind\":\"resource\",\"id\":\"R\",\"type\":\"T\",\"properties\":{}}]},{\"kind\":\"resource\",\"id\":\"Q\",\"type\":\"T\",\"properties\":{}}]}]},{\"kind\":\"group\",\"id\":\"H\",\"children\":[]}]}"))
    ≡ Some ([] ∷ codes "A" ∷ codes "A/S" ∷ codes "A/S/G" ∷ codes "A/S/G/R" ∷ codes "A/S/Q" ∷ codes "H" ∷ [])
unfolding serde_json_on_literals digits
paths = refl

-- each scope by its number
parents : option_map (map (λ c. c.parent)) (tree (codes "{\"app\":\"2\",\"children\":[{\"kind\":\"stage\",\"id\":\"A\",\"children\":[{\"kind\":\"stack\",\"id\":\"S\",\"children\":[{\"kind\":\"group\",\"id\":\"G\",\"children\":[{\"kind\":\"resource\",\"id\":\"R\",\"type\":\"T\",\"properties\":{}}]},{\"kind\":\"resource\",\"id\":\"Q\",\"type\":\"T\",\"properties\":{}}]}]},{\"kind\":\"group\",\"id\":\"H\",\"children\":[]}]}"))
    ≡ Some (None ∷ Some 0 ∷ Some 1 ∷ Some 2 ∷ Some 3 ∷ Some 2 ∷ Some 0 ∷ [])
unfolding serde_json_on_literals digits
parents = refl

-- a stack is its own; there is none outside
stacks : option_map (map (λ c. c.stack)) (tree (codes "{\"app\":\"2\",\"children\":[{\"kind\":\"stage\",\"id\":\"A\",\"children\":[{\"kind\":\"stack\",\"id\":\"S\",\"children\":[{\"kind\":\"group\",\"id\":\"G\",\"children\":[{\"kind\":\"resource\",\"id\":\"R\",\"type\":\"T\",\"properties\":{}}]},{\"kind\":\"resource\",\"id\":\"Q\",\"type\":\"T\",\"properties\":{}}]}]},{\"kind\":\"group\",\"id\":\"H\",\"children\":[]}]}"))
    ≡ Some (None ∷ None ∷ Some 2 ∷ Some 2 ∷ Some 2 ∷ Some 2 ∷ None ∷ [])
unfolding serde_json_on_literals digits
stacks = refl

-- the root is the stage where there is none
stages : option_map (map (λ c. c.stage)) (tree (codes "{\"app\":\"2\",\"children\":[{\"kind\":\"stage\",\"id\":\"A\",\"children\":[{\"kind\":\"stack\",\"id\":\"S\",\"children\":[{\"kind\":\"group\",\"id\":\"G\",\"children\":[{\"kind\":\"resource\",\"id\":\"R\",\"type\":\"T\",\"properties\":{}}]},{\"kind\":\"resource\",\"id\":\"Q\",\"type\":\"T\",\"properties\":{}}]}]},{\"kind\":\"group\",\"id\":\"H\",\"children\":[]}]}"))
    ≡ Some (0 ∷ 1 ∷ 1 ∷ 1 ∷ 1 ∷ 1 ∷ 0 ∷ [])
unfolding serde_json_on_literals digits
stages = refl

-- a path leads to its construct, the empty one to the root
found : option_map (λ cs. find_path cs (codes "A/S/Q") ∷ find_path cs [] ∷ find_path cs (codes "S") ∷ []) (tree (codes "{\"app\":\"2\",\"children\":[{\"kind\":\"stage\",\"id\":\"A\",\"children\":[{\"kind\":\"stack\",\"id\":\"S\",\"children\":[{\"kind\":\"group\",\"id\":\"G\",\"children\":[{\"kind\":\"resource\",\"id\":\"R\",\"type\":\"T\",\"properties\":{}}]},{\"kind\":\"resource\",\"id\":\"Q\",\"type\":\"T\",\"properties\":{}}]}]},{\"kind\":\"group\",\"id\":\"H\",\"children\":[]}]}"))
    ≡ Some (Some 5 ∷ Some 0 ∷ None ∷ [])
unfolding serde_json_on_literals digits
found = refl

clean : misplaced (codes "{\"app\":\"2\",\"children\":[{\"kind\":\"stage\",\"id\":\"A\",\"children\":[{\"kind\":\"stack\",\"id\":\"S\",\"children\":[{\"kind\":\"group\",\"id\":\"G\",\"children\":[{\"kind\":\"resource\",\"id\":\"R\",\"type\":\"T\",\"properties\":{}}]},{\"kind\":\"resource\",\"id\":\"Q\",\"type\":\"T\",\"properties\":{}}]}]},{\"kind\":\"group\",\"id\":\"H\",\"children\":[]}]}")
    ≡ Some []
unfolding serde_json_on_literals digits
clean = refl

-- the nearest scope that has the key counts
nearest_context : option_map (λ cs. map (λ k. look_up k (construct_at cs 3).contexts) (codes "a" ∷ codes "b" ∷ codes "c" ∷ codes "d" ∷ [])) (tree (codes "{\"app\":\"2\",\"context\":{\"a\":\"root\",\"b\":\"root\",\"c\":\"root\"},\"children\":[{\"kind\":\"stage\",\"id\":\"A\",\"context\":{\"a\":\"stage\",\"b\":\"stage\"},\"children\":[{\"kind\":\"stack\",\"id\":\"S\",\"context\":{\"a\":\"stack\"},\"children\":[{\"kind\":\"resource\",\"id\":\"R\",\"type\":\"T\",\"properties\":{}}]}]}]}"))
    ≡ Some (Some (string (codes "stack")) ∷ Some (string (codes "stage")) ∷ Some (string (codes "root")) ∷ None ∷ [])
unfolding serde_json_on_literals digits
nearest_context = refl

slash_in_id : misplaced (codes "{\"app\":\"2\",\"children\":[{\"kind\":\"group\",\"id\":\"A/B\",\"children\":[]}]}")
    ≡ Some (found_at (codes "A/B") BadId ∷ [])
unfolding serde_json_on_literals digits
slash_in_id = refl

-- the place of an empty id is its scope's path
empty_id : misplaced (codes "{\"app\":\"2\",\"children\":[{\"kind\":\"group\",\"id\":\"A\",\"children\":[{\"kind\":\"group\",\"id\":\"\",\"children\":[]}]}]}")
    ≡ Some (found_at (codes "A") BadId ∷ [])
unfolding serde_json_on_literals digits
empty_id = refl

-- beyond ASCII
foreign_id : misplaced (codes "{\"app\":\"2\",\"children\":[{\"kind\":\"group\",\"id\":\"é\",\"children\":[]}]}")
    ≡ Some (found_at (codes "é") BadId ∷ [])
unfolding serde_json_on_literals digits
foreign_id = refl

-- from 1 to 400 characters
longest_id : map is_id (replicate 400 65 ∷ replicate 401 65 ∷ codes " ~" ∷ [] ∷ []) ≡ true ∷ false ∷ true ∷ false ∷ []
longest_id = refl

-- told at the later of two siblings; one id in two scopes is none
same_id : misplaced (codes "{\"app\":\"2\",\"children\":[{\"kind\":\"group\",\"id\":\"A\",\"children\":[{\"kind\":\"group\",\"id\":\"B\",\"children\":[]}]},{\"kind\":\"group\",\"id\":\"B\",\"children\":[]},{\"kind\":\"group\",\"id\":\"A\",\"children\":[]}]}")
    ≡ Some (found_at (codes "A") SameId ∷ [])
unfolding serde_json_on_literals digits
same_id = refl

-- the lowest number comes first at one construct
bad_and_same : misplaced (codes "{\"app\":\"2\",\"children\":[{\"kind\":\"group\",\"id\":\"a/\",\"children\":[]},{\"kind\":\"resource\",\"id\":\"a/\",\"type\":\"T\",\"properties\":{}}]}")
    ≡ Some (found_at (codes "a/") BadId ∷ found_at (codes "a/") BadId ∷ found_at (codes "a/") SameId ∷ found_at (codes "a/") BadPlace ∷ [])
unfolding serde_json_on_literals digits
bad_and_same = refl

-- neither a stage nor a stack stands in a stack
inside_a_stack : misplaced (codes "{\"app\":\"2\",\"children\":[{\"kind\":\"stack\",\"id\":\"S\",\"children\":[{\"kind\":\"group\",\"id\":\"G\",\"children\":[{\"kind\":\"stage\",\"id\":\"A\",\"children\":[]},{\"kind\":\"stack\",\"id\":\"B\",\"children\":[]}]}]}]}")
    ≡ Some (found_at (codes "S/G/A") BadPlace ∷ found_at (codes "S/G/B") BadPlace ∷ [])
unfolding serde_json_on_literals digits
inside_a_stack = refl

-- elements stand in stacks; lazies and groups may stand anywhere
outside_stacks : misplaced (codes "{\"app\":\"2\",\"children\":[{\"kind\":\"group\",\"id\":\"G\",\"children\":[{\"kind\":\"resource\",\"id\":\"R\",\"type\":\"T\",\"properties\":{}},{\"kind\":\"lazy\",\"id\":\"L\",\"value\":1},{\"kind\":\"mapping\",\"id\":\"M\",\"mappings\":{}}]}]}")
    ≡ Some (found_at (codes "G/R") BadPlace ∷ found_at (codes "G/M") BadPlace ∷ [])
unfolding serde_json_on_literals digits
outside_stacks = refl

eleventh_level : misplaced (codes "{\"app\":\"2\",\"children\":[{\"kind\":\"group\",\"id\":\"a\",\"children\":[{\"kind\":\"group\",\"id\":\"b\",\"children\":[{\"kind\":\"group\",\"id\":\"c\",\"children\":[{\"kind\":\"group\",\"id\":\"d\",\"children\":[{\"kind\":\"group\",\"id\":\"e\",\"children\":[{\"kind\":\"group\",\"id\":\"f\",\"children\":[{\"kind\":\"group\",\"id\":\"g\",\"children\":[{\"kind\":\"group\",\"id\":\"h\",\"children\":[{\"kind\":\"group\",\"id\":\"i\",\"children\":[{\"kind\":\"group\",\"id\":\"j\",\"children\":[{\"kind\":\"group\",\"id\":\"k\",\"children\":[]}]}]}]}]}]}]}]}]}]}]}]}")
    ≡ Some (found_at (codes "a/b/c/d/e/f/g/h/i/j/k") BadPlace ∷ [])
unfolding serde_json_on_literals digits
eleventh_level = refl

-- a path that no construct has, at each construct that has it
no_target : mistargeted (codes "{\"app\":\"2\",\"children\":[{\"kind\":\"stack\",\"id\":\"S\",\"children\":[{\"kind\":\"resource\",\"id\":\"R\",\"type\":\"T\",\"properties\":{\"A\":{\"Ref\":\"S/Q\"}}},{\"kind\":\"resource\",\"id\":\"T\",\"type\":\"T\",\"properties\":{},\"condition\":\"S/C\"}]}]}")
    ≡ Some (target_at 2 NoTarget ∷ target_at 3 NoTarget ∷ [])
unfolding serde_json_on_literals digits
no_target = refl

-- both at one construct: the missing one first, wherever it stands
missing_before_wrong : mistargeted (codes "{\"app\":\"2\",\"children\":[{\"kind\":\"stack\",\"id\":\"S\",\"children\":[{\"kind\":\"resource\",\"id\":\"R\",\"type\":\"T\",\"properties\":{\"A\":{\"Ref\":\"S\"},\"B\":{\"Ref\":\"X\"}}}]}]}")
    ≡ Some (target_at 2 NoTarget ∷ target_at 2 WrongTarget ∷ [])
unfolding serde_json_on_literals digits
missing_before_wrong = refl

-- a list parameter is no text, and a text parameter no list
list_in_a_text : mistargeted (codes "{\"app\":\"2\",\"children\":[{\"kind\":\"stack\",\"id\":\"S\",\"children\":[{\"kind\":\"parameter\",\"id\":\"L\",\"type\":\"CommaDelimitedList\"},{\"kind\":\"parameter\",\"id\":\"P\",\"type\":\"String\"},{\"kind\":\"resource\",\"id\":\"A\",\"type\":\"T\",\"properties\":{\"P\":{\"CDK::Concat\":[{\"Ref\":\"S/L\"}]}}},{\"kind\":\"resource\",\"id\":\"B\",\"type\":\"T\",\"properties\":{\"P\":{\"Fn::Join\":[\",\",{\"Ref\":\"S/L\"}]}}},{\"kind\":\"resource\",\"id\":\"C\",\"type\":\"T\",\"properties\":{\"P\":{\"Fn::Join\":[\",\",{\"Ref\":\"S/P\"}]}}}]}]}")
    ≡ Some (target_at 4 WrongTarget ∷ target_at 6 WrongTarget ∷ [])
unfolding serde_json_on_literals digits
list_in_a_text = refl

-- a chain of lazies is a list where it ends at one; one that comes back to itself, or leads to such a one, is none
chains : option_map list_lazies (tree (codes "{\"app\":\"2\",\"children\":[{\"kind\":\"stack\",\"id\":\"S\",\"children\":[{\"kind\":\"lazy\",\"id\":\"A\",\"value\":{\"CDK::Lazy\":\"S/B\"}},{\"kind\":\"lazy\",\"id\":\"B\",\"value\":{\"CDK::Lazy\":\"S/A\"}},{\"kind\":\"lazy\",\"id\":\"C\",\"value\":{\"CDK::Lazy\":\"S/D\"}},{\"kind\":\"lazy\",\"id\":\"D\",\"value\":{\"Fn::Split\":[\",\",\"a\"]}},{\"kind\":\"lazy\",\"id\":\"E\",\"value\":{\"CDK::Lazy\":\"S/A\"}},{\"kind\":\"resource\",\"id\":\"R\",\"type\":\"T\",\"properties\":{\"P\":{\"Fn::Join\":[\"\",{\"CDK::Lazy\":\"S/A\"}]}}}]}]}"))
    ≡ Some (false ∷ false ∷ false ∷ false ∷ true ∷ true ∷ false ∷ false ∷ [])
unfolding serde_json_on_literals digits
chains = refl

cycle_in_a_list_place : mistargeted (codes "{\"app\":\"2\",\"children\":[{\"kind\":\"stack\",\"id\":\"S\",\"children\":[{\"kind\":\"lazy\",\"id\":\"A\",\"value\":{\"CDK::Lazy\":\"S/B\"}},{\"kind\":\"lazy\",\"id\":\"B\",\"value\":{\"CDK::Lazy\":\"S/A\"}},{\"kind\":\"lazy\",\"id\":\"C\",\"value\":{\"CDK::Lazy\":\"S/D\"}},{\"kind\":\"lazy\",\"id\":\"D\",\"value\":{\"Fn::Split\":[\",\",\"a\"]}},{\"kind\":\"lazy\",\"id\":\"E\",\"value\":{\"CDK::Lazy\":\"S/A\"}},{\"kind\":\"resource\",\"id\":\"R\",\"type\":\"T\",\"properties\":{\"P\":{\"Fn::Join\":[\"\",{\"CDK::Lazy\":\"S/A\"}]}}}]}]}")
    ≡ Some (target_at 7 WrongTarget ∷ [])
unfolding serde_json_on_literals digits
cycle_in_a_list_place = refl

-- an If is a list where both of its values are
choices : mistargeted (codes "{\"app\":\"2\",\"children\":[{\"kind\":\"stack\",\"id\":\"S\",\"children\":[{\"kind\":\"condition\",\"id\":\"C\",\"expression\":{\"Fn::Equals\":[\"a\",\"b\"]}},{\"kind\":\"parameter\",\"id\":\"L\",\"type\":\"CommaDelimitedList\"},{\"kind\":\"resource\",\"id\":\"A\",\"type\":\"T\",\"properties\":{\"P\":{\"Fn::Join\":[\",\",{\"Fn::If\":[\"S/C\",[1],{\"Ref\":\"S/L\"}]}]}}},{\"kind\":\"resource\",\"id\":\"B\",\"type\":\"T\",\"properties\":{\"P\":{\"Fn::Join\":[\",\",{\"Fn::If\":[\"S/C\",[1],\"a\"]}]}}}]}]}")
    ≡ Some (target_at 5 WrongTarget ∷ [])
unfolding serde_json_on_literals digits
choices = refl

-- what a Context finds, its default included; one that finds nothing passes, in both places
context_in_places : mistargeted (codes "{\"app\":\"2\",\"context\":{\"l\":[1],\"t\":2},\"children\":[{\"kind\":\"stack\",\"id\":\"S\",\"children\":[{\"kind\":\"resource\",\"id\":\"A\",\"type\":\"T\",\"properties\":{\"P\":{\"Fn::Join\":[\",\",{\"CDK::Context\":[\"l\"]}]}}},{\"kind\":\"resource\",\"id\":\"B\",\"type\":\"T\",\"properties\":{\"P\":{\"CDK::Concat\":[{\"CDK::Context\":[\"l\"]}]}}},{\"kind\":\"resource\",\"id\":\"D\",\"type\":\"T\",\"properties\":{\"P\":{\"Fn::Join\":[\",\",{\"CDK::Context\":[\"t\"]}]}}},{\"kind\":\"resource\",\"id\":\"E\",\"type\":\"T\",\"properties\":{\"P\":{\"Fn::Join\":[\",\",{\"CDK::Context\":[\"none\"]}]}}},{\"kind\":\"resource\",\"id\":\"F\",\"type\":\"T\",\"properties\":{\"P\":{\"CDK::Concat\":[{\"CDK::Context\":[\"none\"]}]}}},{\"kind\":\"resource\",\"id\":\"G\",\"type\":\"T\",\"properties\":{\"P\":{\"Fn::Join\":[\",\",{\"CDK::Context\":[\"none\",[]]}]}}}]}]}")
    ≡ Some (target_at 3 WrongTarget ∷ target_at 4 WrongTarget ∷ [])
unfolding serde_json_on_literals digits
context_in_places = refl

-- an If with such a Context is no list
choice_of_no_context : mistargeted (codes "{\"app\":\"2\",\"children\":[{\"kind\":\"stack\",\"id\":\"S\",\"children\":[{\"kind\":\"condition\",\"id\":\"C\",\"expression\":{\"Fn::Equals\":[\"a\",\"b\"]}},{\"kind\":\"resource\",\"id\":\"A\",\"type\":\"T\",\"properties\":{\"P\":{\"Fn::Join\":[\",\",{\"Fn::If\":[\"S/C\",[1],{\"CDK::Context\":[\"none\"]}]}]}}}]}]}")
    ≡ Some (target_at 3 WrongTarget ∷ [])
unfolding serde_json_on_literals digits
choice_of_no_context = refl

-- a condition may mention a parameter, and no resource
resource_in_a_condition : mistargeted (codes "{\"app\":\"2\",\"children\":[{\"kind\":\"stack\",\"id\":\"S\",\"children\":[{\"kind\":\"parameter\",\"id\":\"P\",\"type\":\"String\"},{\"kind\":\"resource\",\"id\":\"R\",\"type\":\"T\",\"properties\":{}},{\"kind\":\"condition\",\"id\":\"C\",\"expression\":{\"Fn::Equals\":[{\"Ref\":\"S/P\"},\"a\"]}},{\"kind\":\"condition\",\"id\":\"D\",\"expression\":{\"Fn::Not\":[{\"Fn::Equals\":[{\"Fn::Join\":[\"\",[{\"Ref\":\"S/R\"}]]},\"a\"]}]}}]}]}")
    ≡ Some (target_at 5 WrongTarget ∷ [])
unfolding serde_json_on_literals digits
resource_in_a_condition = refl

-- on resources, groups and stacks; not on the root, which the empty path names
depends : mistargeted (codes "{\"app\":\"2\",\"children\":[{\"kind\":\"stack\",\"id\":\"S\",\"children\":[{\"kind\":\"group\",\"id\":\"G\",\"children\":[{\"kind\":\"resource\",\"id\":\"R\",\"type\":\"T\",\"properties\":{}}]},{\"kind\":\"resource\",\"id\":\"A\",\"type\":\"T\",\"properties\":{},\"dependsOn\":[\"S\",\"S/G\",\"S/G/R\"]},{\"kind\":\"resource\",\"id\":\"B\",\"type\":\"T\",\"properties\":{},\"dependsOn\":[\"\"]},{\"kind\":\"parameter\",\"id\":\"P\",\"type\":\"String\"},{\"kind\":\"resource\",\"id\":\"D\",\"type\":\"T\",\"properties\":{},\"dependsOn\":[\"S/P\"]}]}]}")
    ≡ Some (target_at 5 WrongTarget ∷ target_at 7 WrongTarget ∷ [])
unfolding serde_json_on_literals digits
depends = refl

-- a lazy that nothing uses is looked at too
unused_lazy : mistargeted (codes "{\"app\":\"2\",\"children\":[{\"kind\":\"stack\",\"id\":\"S\",\"children\":[{\"kind\":\"lazy\",\"id\":\"L\",\"value\":{\"Ref\":\"S/X\"}}]}]}")
    ≡ Some (target_at 2 NoTarget ∷ [])
unfolding serde_json_on_literals digits
unused_lazy = refl
