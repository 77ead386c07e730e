-- Marked values, with two tokens: what is wrong with them, computed by the definitions.
use Rattle.std.proofs.Common.{◌≡◌, ℕ, List, [], ◌∷◌, codes, Option, Some, option_map, option_and_then, true, false, refl}
use Rattle.std.specs.Fmt.{digits}
use Rattle.serde_json.specs.Data.{null}
use Rattle.serde_json.specs.Read.{read}
use Rattle.serde_json.proofs.OnLiterals.{serde_json_on_literals}
use Rattle.cdk_base.specs.declared.code.Code.{Code}
use Rattle.cdk_base.specs.declared.code.Code.TheVariants.{UnknownToken, ListMix, BadValue}
use Rattle.cdk_language.specs.Application.{application_of}
use Rattle.cdk_tree.specs.Expected.{target_at}
use Rattle.cdk_tree.specs.Placed.{constructs_of}
use Rattle.cdk_tree.specs.declared.role.Found.{Found}
use Rattle.cdk_tokens.specs.Token.{Token, ref, split}
use Rattle.cdk_tokens.specs.Whole.{MarkedBody, nothing, value}
use Rattle.cdk_values.specs.Findings.{value_findings, wrong_in}

-- a text's token and a list's
abbrev tokens : List Token
tokens =
    record { key = codes "Ref.0"; owner = 2; is_list = false; form = ref 3 }
    ∷ record { key = codes "Split.1"; owner = 2; is_list = true; form = split [] null }
    ∷ []

abbrev wrong : List ℕ → Option (List Code)
wrong s = option_map (wrong_in tokens) (read s)

-- a marker of each token where it may stand
right : wrong (codes "{\"A\":\"a-${Token[Ref.0]}-b\",\"B\":[\"#{Token[Split.1]}\"],\"C\":[-1,true,{\"D\":\"x\"}]}") ≡ Some []
unfolding serde_json_on_literals digits
right = refl

-- `x` has not the form of a key, so that the array is no list marker
no_key : wrong (codes "[\"#{Token[x]}\"]") ≡ Some (ListMix ∷ [])
unfolding serde_json_on_literals digits
no_key = refl

no_list_token : wrong (codes "[\"#{Token[Ref.9]}\"]") ≡ Some (UnknownToken ∷ [])
unfolding serde_json_on_literals digits
no_list_token = refl

-- a text's token isn't a list's
text_as_a_list : wrong (codes "[\"#{Token[Ref.0]}\"]") ≡ Some (UnknownToken ∷ [])
unfolding serde_json_on_literals digits
text_as_a_list = refl

longer_array : wrong (codes "[\"#{Token[Split.1]}\",\"a\"]") ≡ Some (ListMix ∷ [])
unfolding serde_json_on_literals digits
longer_array = refl

-- the marker alone, in no array
list_in_no_array : wrong (codes "{\"A\":\"#{Token[Split.1]}\"}") ≡ Some (ListMix ∷ [])
unfolding serde_json_on_literals digits
list_in_no_array = refl

list_in_a_text : wrong (codes "\"${Token[Split.1]}\"") ≡ Some (UnknownToken ∷ [])
unfolding serde_json_on_literals digits
list_in_a_text = refl

no_text_token : wrong (codes "[\"${Token[Ref.7]}\"]") ≡ Some (UnknownToken ∷ [])
unfolding serde_json_on_literals digits
no_text_token = refl

-- it begins and never ends
unclosed : wrong (codes "\"${Token[Ref.0\"") ≡ Some (UnknownToken ∷ [])
unfolding serde_json_on_literals digits
unclosed = refl

form_key : wrong (codes "{\"Ref\":\"X\"}") ≡ Some (BadValue ∷ [])
unfolding serde_json_on_literals digits
form_key = refl

form_key_below : wrong (codes "{\"A\":[{\"Fn::Join\":[]}]}") ≡ Some (BadValue ∷ [])
unfolding serde_json_on_literals digits
form_key_below = refl

marked_key : wrong (codes "{\"${Token[Ref.0]}\":1}") ≡ Some (BadValue ∷ [])
unfolding serde_json_on_literals digits
marked_key = refl

null_is_bad : wrong (codes "null") ≡ Some (BadValue ∷ [])
unfolding serde_json_on_literals digits
null_is_bad = refl

fraction : wrong (codes "{\"A\":1.5}") ≡ Some (BadValue ∷ [])
unfolding serde_json_on_literals digits
fraction = refl

-- all three, the lowest number first
all_wrong : wrong (codes "[null,\"#{Token[Split.1]}\",\"${Token[Ref.7]}\"]") ≡ Some (UnknownToken ∷ ListMix ∷ BadValue ∷ [])
unfolding serde_json_on_literals digits
all_wrong = refl

-- ---- of an application

-- a stack, a resource, a lazy and two resources, all with the value null but the last, which has none
abbrev nulls : List MarkedBody
nulls = nothing ∷ nothing ∷ value null ∷ value null ∷ value null ∷ []

abbrev found : List ℕ → Option (List Found)
found s = option_map (λ a. value_findings tokens nulls (constructs_of a)) (option_and_then application_of (read s))

-- only resources with a value are looked at, in walk order
resources_alone : found (codes "{\"app\":\"2\",\"children\":[{\"children\":[{\"id\":\"P\",\"kind\":\"resource\",\"properties\":{},\"type\":\"T\"},{\"id\":\"L\",\"kind\":\"lazy\",\"value\":7},{\"id\":\"Q\",\"kind\":\"resource\",\"properties\":{},\"type\":\"T\"},{\"id\":\"R\",\"kind\":\"resource\",\"properties\":{},\"type\":\"T\"}],\"id\":\"S\",\"kind\":\"stack\"}]}")
    ≡ Some (target_at 2 BadValue ∷ target_at 4 BadValue ∷ [])
unfolding serde_json_on_literals digits
resources_alone = refl
