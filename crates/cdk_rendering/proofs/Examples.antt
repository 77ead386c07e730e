-- Small applications: the JSON of a resource's properties, and the lazies that are missing there, computed by the definitions.
use Rattle.std.proofs.Common.{◌≡◌, ◌==◌, ℕ, List, [], ◌∷◌, codes, if◌then◌else◌, Option, Some, None, option_map, option_and_then, unwrap_or, refl}
use Rattle.std.specs.Fmt.{digits}
use Rattle.serde_json.specs.Data.{Data, null, string}
use Rattle.serde_json.specs.Read.{read}
use Rattle.serde_json.proofs.OnLiterals.{serde_json_on_literals}
use Rattle.cdk_language.specs.Application.{application_of}
use Rattle.cdk_leaves.specs.Lazies.{shown, Results}
use Rattle.cdk_plain.specs.Rendered.{Homes, Local, Import}
use Rattle.cdk_rendering.specs.Folding.{known_in}
use Rattle.cdk_rendering.specs.Missing.{form_missing, value_missing}
use Rattle.cdk_rendering.specs.TokenJson.{form_json, value_json}
use Rattle.cdk_tokens.specs.Whole.{marking, tokens_of, value_at}
use Rattle.cdk_tree.specs.Placed.{Placed, constructs_of}

-- construct 3 is spelled by an export, the others by names
abbrev homes : Homes
homes = record {
  target = λ n. if n == 3 then Import (codes "E") else Local (codes "L");
  attribute = λ n a. Local (codes "L");
  condition = λ n. codes "C";
  mapping = λ n. codes "M";
}

-- of the lazy 4 its JSON is kept
abbrev kept : Results
kept n = if n == 4 then Some (string (codes "k")) else None

abbrev tree : List ℕ → Option (List Placed)
tree s = option_map constructs_of (option_and_then application_of (read s))

-- of the value of the first construct in the stack
abbrev json : List ℕ → Option Data
json s = option_map (λ cs. value_json (known_in (form_json homes (shown kept)) (tokens_of cs)) (unwrap_or (value_at (marking cs) 2) null)) (tree s)

abbrev missing : List ℕ → Option (List ℕ)
missing s = option_map (λ cs. value_missing (known_in (form_missing kept) (tokens_of cs)) (unwrap_or (value_at (marking cs) 2) null)) (tree s)

-- ---- markers

-- a marker in a text makes a join
text_marker_json : json (codes "{\"app\":\"2\",\"children\":[{\"children\":[{\"id\":\"R\",\"kind\":\"resource\",\"properties\":{\"P\":{\"CDK::Concat\":[\"b-\",{\"Ref\":\"S/R\"}]}},\"type\":\"T\"}],\"id\":\"S\",\"kind\":\"stack\"}]}")
    ≡ read (codes "{\"P\":{\"Fn::Join\":[\"\",[\"b-\",{\"Ref\":\"L\"}]]}}")
unfolding serde_json_on_literals digits
text_marker_json = refl

-- one that is the whole text stands for itself
whole_text_json : json (codes "{\"app\":\"2\",\"children\":[{\"children\":[{\"id\":\"R\",\"kind\":\"resource\",\"properties\":{\"P\":{\"Fn::GetAtt\":[\"S/R\",\"A\"]}},\"type\":\"T\"}],\"id\":\"S\",\"kind\":\"stack\"}]}")
    ≡ read (codes "{\"P\":{\"Fn::GetAtt\":[\"L\",\"A\"]}}")
unfolding serde_json_on_literals digits
whole_text_json = refl

list_marker_json : json (codes "{\"app\":\"2\",\"children\":[{\"children\":[{\"id\":\"R\",\"kind\":\"resource\",\"properties\":{\"P\":{\"Fn::Split\":[\",\",\"a,b\"]}},\"type\":\"T\"}],\"id\":\"S\",\"kind\":\"stack\"}]}")
    ≡ read (codes "{\"P\":{\"Fn::Split\":[\",\",\"a,b\"]}}")
unfolding serde_json_on_literals digits
list_marker_json = refl

-- ---- nested arguments

-- a list token in a Select, inside a Join, and a target that is imported
nested_json : json (codes "{\"app\":\"2\",\"children\":[{\"children\":[{\"id\":\"R\",\"kind\":\"resource\",\"properties\":{\"P\":{\"Fn::Join\":[\"-\",[{\"Fn::Select\":[1,{\"Fn::Split\":[\",\",{\"Ref\":\"S/R\"}]}]},{\"Ref\":\"S/Q\"}]]}},\"type\":\"T\"},{\"id\":\"Q\",\"kind\":\"resource\",\"properties\":{},\"type\":\"T\"}],\"id\":\"S\",\"kind\":\"stack\"}]}")
    ≡ read (codes "{\"P\":{\"Fn::Join\":[\"-\",[{\"Fn::Select\":[1,{\"Fn::Split\":[\",\",{\"Ref\":\"L\"}]}]},{\"Fn::ImportValue\":\"E\"}]]}}")
unfolding serde_json_on_literals digits
nested_json = refl

-- a join of the empty delimiter gives way to its items in a text
merged_json : json (codes "{\"app\":\"2\",\"children\":[{\"children\":[{\"id\":\"R\",\"kind\":\"resource\",\"properties\":{\"P\":{\"CDK::Concat\":[\"a\",{\"Fn::Join\":[\"\",[\"b\",{\"Ref\":\"S/R\"}]]}]}},\"type\":\"T\"}],\"id\":\"S\",\"kind\":\"stack\"}]}")
    ≡ read (codes "{\"P\":{\"Fn::Join\":[\"\",[\"ab\",{\"Ref\":\"L\"}]]}}")
unfolding serde_json_on_literals digits
merged_json = refl

-- ---- lazies: 3 isn't kept, and 4 is

-- an empty text stands for what isn't kept, and drops out of a text
missing_lazy_json : json (codes "{\"app\":\"2\",\"children\":[{\"children\":[{\"id\":\"R\",\"kind\":\"resource\",\"properties\":{\"P\":{\"CDK::Lazy\":\"S/A\"},\"Q\":{\"CDK::Concat\":[{\"CDK::Lazy\":\"S/A\"},{\"CDK::Lazy\":\"S/B\"}]}},\"type\":\"T\"},{\"id\":\"A\",\"kind\":\"lazy\",\"value\":\"x\"},{\"id\":\"B\",\"kind\":\"lazy\",\"value\":\"y\"}],\"id\":\"S\",\"kind\":\"stack\"}]}")
    ≡ read (codes "{\"P\":\"\",\"Q\":\"k\"}")
unfolding serde_json_on_literals digits
missing_lazy_json = refl

-- it is missing wherever it is met
missing_lazies : missing (codes "{\"app\":\"2\",\"children\":[{\"children\":[{\"id\":\"R\",\"kind\":\"resource\",\"properties\":{\"P\":{\"CDK::Lazy\":\"S/A\"},\"Q\":{\"CDK::Concat\":[{\"CDK::Lazy\":\"S/A\"},{\"CDK::Lazy\":\"S/B\"}]}},\"type\":\"T\"},{\"id\":\"A\",\"kind\":\"lazy\",\"value\":\"x\"},{\"id\":\"B\",\"kind\":\"lazy\",\"value\":\"y\"}],\"id\":\"S\",\"kind\":\"stack\"}]}")
    ≡ Some (3 ∷ 3 ∷ [])
unfolding serde_json_on_literals digits
missing_lazies = refl

-- in the argument of a token too
missing_in_argument : missing (codes "{\"app\":\"2\",\"children\":[{\"children\":[{\"id\":\"R\",\"kind\":\"resource\",\"properties\":{\"P\":{\"Fn::Join\":[\"-\",[{\"CDK::Lazy\":\"S/B\"},{\"CDK::Lazy\":\"S/A\"}]]}},\"type\":\"T\"},{\"id\":\"A\",\"kind\":\"lazy\",\"value\":\"x\"},{\"id\":\"B\",\"kind\":\"lazy\",\"value\":\"y\"}],\"id\":\"S\",\"kind\":\"stack\"}]}")
    ≡ Some (3 ∷ [])
unfolding serde_json_on_literals digits
missing_in_argument = refl
