-- Small applications: what their lazies and conditions mention, which reach themselves, and which lazies are picked, computed by the
-- definitions.
use Rattle.std.proofs.Common.{◌≡◌, ℕ, List, [], ◌∷◌, codes, Option, Some, option_map, option_and_then, refl}
use Rattle.std.specs.Fmt.{digits}
use Rattle.serde_json.specs.Read.{read}
use Rattle.serde_json.proofs.OnLiterals.{serde_json_on_literals}
use Rattle.cdk_base.specs.declared.code.Code.TheVariants.{ConditionCycle, LazyCycle}
use Rattle.cdk_graphs.specs.Graph.{Graph}
use Rattle.cdk_language.specs.Application.{application_of}
use Rattle.cdk_tokens.specs.Whole.{marking, tokens_of}
use Rattle.cdk_tree.specs.Expected.{target_at}
use Rattle.cdk_tree.specs.Placed.{Placed, constructs_of}
use Rattle.cdk_tree.specs.declared.role.Found.{Found}
use Rattle.cdk_lazies.specs.CycleFindings.{cycle_findings}
use Rattle.cdk_lazies.specs.MentionGraph.{mention_graph}
use Rattle.cdk_lazies.specs.Picked.{lazies_of}

abbrev tree : List ℕ → Option (List Placed)
tree s = option_map constructs_of (option_and_then application_of (read s))

abbrev graph : List ℕ → Option Graph
graph s = option_map (λ cs. mention_graph cs (tokens_of cs) (marking cs)) (tree s)

abbrev found : List ℕ → Option (List Found)
found s = option_map (λ cs. cycle_findings cs (tokens_of cs) (marking cs)) (tree s)

-- ---- lazies that hold each other, the first one inside a Join

-- the tokens are Lazy.0 of the second lazy, Join.1 and Lazy.2 of the first, and the lazies are 5 and 6
two_lazies : graph (codes "{\"app\":\"2\",\"children\":[{\"children\":[{\"id\":\"A\",\"kind\":\"lazy\",\"value\":{\"Fn::Join\":[\"\",[{\"CDK::Lazy\":\"S/B\"}]]}},{\"id\":\"B\",\"kind\":\"lazy\",\"value\":{\"CDK::Lazy\":\"S/A\"}}],\"id\":\"S\",\"kind\":\"stack\"}]}")
    ≡ Some ((6 ∷ []) ∷ (0 ∷ []) ∷ (5 ∷ []) ∷ [] ∷ [] ∷ (1 ∷ []) ∷ (2 ∷ []) ∷ [])
unfolding serde_json_on_literals digits
two_lazies = refl

two_lazies_found : found (codes "{\"app\":\"2\",\"children\":[{\"children\":[{\"id\":\"A\",\"kind\":\"lazy\",\"value\":{\"Fn::Join\":[\"\",[{\"CDK::Lazy\":\"S/B\"}]]}},{\"id\":\"B\",\"kind\":\"lazy\",\"value\":{\"CDK::Lazy\":\"S/A\"}}],\"id\":\"S\",\"kind\":\"stack\"}]}")
    ≡ Some (target_at 2 LazyCycle ∷ target_at 3 LazyCycle ∷ [])
unfolding serde_json_on_literals digits
two_lazies_found = refl

-- ---- conditions

-- A is not B, and B is A; C, before them, only names A, and the lazy and the resource mention no condition
conditions : graph (codes "{\"app\":\"2\",\"children\":[{\"children\":[{\"expression\":{\"Condition\":\"S/A\"},\"id\":\"C\",\"kind\":\"condition\"},{\"expression\":{\"Fn::Not\":[{\"Condition\":\"S/B\"}]},\"id\":\"A\",\"kind\":\"condition\"},{\"expression\":{\"Condition\":\"S/A\"},\"id\":\"B\",\"kind\":\"condition\"},{\"condition\":\"S/A\",\"id\":\"R\",\"kind\":\"resource\",\"properties\":{},\"type\":\"T\"}],\"id\":\"S\",\"kind\":\"stack\"}]}")
    ≡ Some ([] ∷ [] ∷ (3 ∷ []) ∷ (4 ∷ []) ∷ (3 ∷ []) ∷ [] ∷ [])
unfolding serde_json_on_literals digits
conditions = refl

conditions_found : found (codes "{\"app\":\"2\",\"children\":[{\"children\":[{\"expression\":{\"Condition\":\"S/A\"},\"id\":\"C\",\"kind\":\"condition\"},{\"expression\":{\"Fn::Not\":[{\"Condition\":\"S/B\"}]},\"id\":\"A\",\"kind\":\"condition\"},{\"expression\":{\"Condition\":\"S/A\"},\"id\":\"B\",\"kind\":\"condition\"},{\"condition\":\"S/A\",\"id\":\"R\",\"kind\":\"resource\",\"properties\":{},\"type\":\"T\"}],\"id\":\"S\",\"kind\":\"stack\"}]}")
    ≡ Some (target_at 3 ConditionCycle ∷ target_at 4 ConditionCycle ∷ [])
unfolding serde_json_on_literals digits
conditions_found = refl

-- a condition may name itself
own_name : found (codes "{\"app\":\"2\",\"children\":[{\"children\":[{\"expression\":{\"Fn::Or\":[{\"Condition\":\"S/A\"},{\"Fn::Equals\":[\"x\",\"y\"]}]},\"id\":\"A\",\"kind\":\"condition\"}],\"id\":\"S\",\"kind\":\"stack\"}]}")
    ≡ Some (target_at 2 ConditionCycle ∷ [])
unfolding serde_json_on_literals digits
own_name = refl

-- ---- lazies in order

-- A has B in a choice, and C has nothing: nothing reaches itself, and of the numbers in order the lazies are B, A and C
a_choice : graph (codes "{\"app\":\"2\",\"children\":[{\"children\":[{\"id\":\"A\",\"kind\":\"lazy\",\"value\":{\"Fn::If\":[\"S/D\",\"x\",{\"CDK::Lazy\":\"S/B\"}]}},{\"id\":\"B\",\"kind\":\"lazy\",\"value\":7},{\"id\":\"C\",\"kind\":\"lazy\",\"value\":8},{\"expression\":{\"Fn::Equals\":[\"x\",\"y\"]},\"id\":\"D\",\"kind\":\"condition\"}],\"id\":\"S\",\"kind\":\"stack\"}]}")
    ≡ Some ((5 ∷ []) ∷ (0 ∷ []) ∷ [] ∷ [] ∷ (1 ∷ []) ∷ [] ∷ [] ∷ [] ∷ [])
unfolding serde_json_on_literals digits
a_choice = refl

none_found : found (codes "{\"app\":\"2\",\"children\":[{\"children\":[{\"id\":\"A\",\"kind\":\"lazy\",\"value\":{\"Fn::If\":[\"S/D\",\"x\",{\"CDK::Lazy\":\"S/B\"}]}},{\"id\":\"B\",\"kind\":\"lazy\",\"value\":7},{\"id\":\"C\",\"kind\":\"lazy\",\"value\":8},{\"expression\":{\"Fn::Equals\":[\"x\",\"y\"]},\"id\":\"D\",\"kind\":\"condition\"}],\"id\":\"S\",\"kind\":\"stack\"}]}")
    ≡ Some []
unfolding serde_json_on_literals digits
none_found = refl

picked : option_map (λ cs. lazies_of cs (tokens_of cs) (2 ∷ 3 ∷ 5 ∷ 0 ∷ 1 ∷ 4 ∷ 6 ∷ 7 ∷ [])) (tree (codes "{\"app\":\"2\",\"children\":[{\"children\":[{\"id\":\"A\",\"kind\":\"lazy\",\"value\":{\"Fn::If\":[\"S/D\",\"x\",{\"CDK::Lazy\":\"S/B\"}]}},{\"id\":\"B\",\"kind\":\"lazy\",\"value\":7},{\"id\":\"C\",\"kind\":\"lazy\",\"value\":8},{\"expression\":{\"Fn::Equals\":[\"x\",\"y\"]},\"id\":\"D\",\"kind\":\"condition\"}],\"id\":\"S\",\"kind\":\"stack\"}]}"))
    ≡ Some (3 ∷ 2 ∷ 4 ∷ [])
unfolding serde_json_on_literals digits
picked = refl
