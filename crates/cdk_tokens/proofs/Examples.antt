-- Small applications: their marked values and tokens, computed by the definitions.
use Rattle.std.proofs.Common.{◌≡◌, ℕ, List, [], ◌∷◌, map, codes, Option, Some, option_map, option_and_then, refl}
use Rattle.std.specs.Fmt.{digits}
use Rattle.serde_json.specs.Read.{read}
use Rattle.serde_json.specs.Written.{compact_text}
use Rattle.serde_json.proofs.OnLiterals.{serde_json_on_literals}
use Rattle.cdk_language.specs.Application.{application_of}
use Rattle.cdk_tree.specs.Placed.{Placed, constructs_of}
use Rattle.cdk_tokens.specs.Whole.{MarkedBody, nothing, value, operands, marking, tokens_of}

abbrev tree : List ℕ → Option (List Placed)
tree s = option_map constructs_of (option_and_then application_of (read s))

-- what is marked, each value in its compact text
abbrev texts_in : MarkedBody → List (List ℕ)
texts_in nothing = []
texts_in (value d) = compact_text d ∷ []
texts_in (operands ds) = map compact_text ds

abbrev marks : List ℕ → Option (List (List (List ℕ)))
marks s = option_map (λ cs. map texts_in (marking cs)) (tree s)

abbrev token_keys : List ℕ → Option (List (List ℕ × ℕ))
token_keys s = option_map (λ cs. map (λ t. (t.key, t.owner)) (tokens_of cs)) (tree s)

-- an argument's token comes before the token that it is an argument of
nested_keys : token_keys (codes "{\"app\":\"2\",\"children\":[{\"children\":[{\"id\":\"R\",\"kind\":\"resource\",\"properties\":{\"P\":{\"Fn::Join\":[\"\",[\"a\",{\"CDK::Concat\":[\"b\",{\"Ref\":\"S/Q\"}]},5]]}},\"type\":\"T\"},{\"id\":\"Q\",\"kind\":\"resource\",\"properties\":{},\"type\":\"T\"}],\"id\":\"S\",\"kind\":\"stack\"}]}")
    ≡ Some ((codes "Ref.0", 2) ∷ (codes "Join.1", 2) ∷ [])
unfolding serde_json_on_literals digits
nested_keys = refl

-- and only the outermost stands in the value
nested_marks : marks (codes "{\"app\":\"2\",\"children\":[{\"children\":[{\"id\":\"R\",\"kind\":\"resource\",\"properties\":{\"P\":{\"Fn::Join\":[\"\",[\"a\",{\"CDK::Concat\":[\"b\",{\"Ref\":\"S/Q\"}]},5]]}},\"type\":\"T\"},{\"id\":\"Q\",\"kind\":\"resource\",\"properties\":{},\"type\":\"T\"}],\"id\":\"S\",\"kind\":\"stack\"}]}")
    ≡ Some ([] ∷ [] ∷ (codes "{\"P\":\"${Token[Join.1]}\"}" ∷ []) ∷ (codes "{}" ∷ []) ∷ [])
unfolding serde_json_on_literals digits
nested_marks = refl

-- fields by key bytes, arguments before their expression, all constructs in one numbering
many_keys : token_keys (codes "{\"app\":\"2\",\"children\":[{\"children\":[{\"id\":\"R\",\"kind\":\"resource\",\"properties\":{\"A\":{\"Fn::If\":[\"S/C\",{\"Ref\":\"AWS::Region\"},\"x\"]},\"B\":{\"Ref\":\"S/Q\"},\"C\":[\"t\",{\"CDK::Lazy\":\"S/L\"}],\"D\":{\"Fn::Split\":[\",\",\"a,b\"]}},\"type\":\"T\"},{\"id\":\"Q\",\"kind\":\"resource\",\"properties\":{},\"type\":\"T\"},{\"expression\":{\"Fn::Not\":[{\"Fn::Equals\":[{\"Ref\":\"AWS::Region\"},\"x\"]}]},\"id\":\"C\",\"kind\":\"condition\"},{\"id\":\"L\",\"kind\":\"lazy\",\"value\":7}],\"id\":\"S\",\"kind\":\"stack\"}]}")
    ≡ Some ((codes "Ref.0", 2) ∷ (codes "If.1", 2) ∷ (codes "Ref.2", 2) ∷ (codes "Lazy.3", 2) ∷ (codes "Split.4", 2) ∷ (codes "Ref.5", 4) ∷ [])
unfolding serde_json_on_literals digits
many_keys = refl

-- lists are one-element arrays; operands of a condition stand alone
many_marks : marks (codes "{\"app\":\"2\",\"children\":[{\"children\":[{\"id\":\"R\",\"kind\":\"resource\",\"properties\":{\"A\":{\"Fn::If\":[\"S/C\",{\"Ref\":\"AWS::Region\"},\"x\"]},\"B\":{\"Ref\":\"S/Q\"},\"C\":[\"t\",{\"CDK::Lazy\":\"S/L\"}],\"D\":{\"Fn::Split\":[\",\",\"a,b\"]}},\"type\":\"T\"},{\"id\":\"Q\",\"kind\":\"resource\",\"properties\":{},\"type\":\"T\"},{\"expression\":{\"Fn::Not\":[{\"Fn::Equals\":[{\"Ref\":\"AWS::Region\"},\"x\"]}]},\"id\":\"C\",\"kind\":\"condition\"},{\"id\":\"L\",\"kind\":\"lazy\",\"value\":7}],\"id\":\"S\",\"kind\":\"stack\"}]}")
    ≡ Some ([] ∷ [] ∷ (codes "{\"A\":\"${Token[If.1]}\",\"B\":\"${Token[Ref.2]}\",\"C\":[\"t\",\"${Token[Lazy.3]}\"],\"D\":[\"#{Token[Split.4]}\"]}" ∷ []) ∷ (codes "{}" ∷ []) ∷ (codes "\"${Token[Ref.5]}\"" ∷ codes "\"x\"" ∷ []) ∷ (codes "7" ∷ []) ∷ [])
unfolding serde_json_on_literals digits
many_marks = refl

-- a context's value is put in as the literal that it is, or its default
contexts : marks (codes "{\"app\":\"2\",\"children\":[{\"children\":[{\"id\":\"R\",\"kind\":\"resource\",\"properties\":{\"P\":{\"CDK::Concat\":[\"orders-\",{\"CDK::Context\":[\"size\"]},true,{\"CDK::Context\":[\"none\",\"d\"]}]},\"Q\":{\"Fn::Join\":[\"\",{\"CDK::Context\":[\"list\"]}]}},\"type\":\"T\"}],\"id\":\"S\",\"kind\":\"stack\"}],\"context\":{\"list\":[\"a\",\"b\"],\"size\":3}}")
    ≡ Some ([] ∷ [] ∷ (codes "{\"P\":\"orders-3trued\",\"Q\":\"${Token[Join.0]}\"}" ∷ []) ∷ [])
unfolding serde_json_on_literals digits
contexts = refl
