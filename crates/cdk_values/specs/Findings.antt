-- What is wrong with the marked values of resources (own): an unknown token, a mixed list or a bad value.
use Rattle.std.specs.Prelude.{ℕ, ◌+◌, List, [], ◌∷◌, ◌++◌, map, Option, if◌then◌else◌}
use Rattle.std.specs.Option.{option_map_or}
use Rattle.serde_json.specs.Data.{Data}
use Rattle.cdk_base.specs.declared.code.Code.{Code}
use Rattle.cdk_base.specs.declared.code.Code.TheVariants.{UnknownToken, ListMix, BadValue}
use Rattle.cdk_language.specs.Construct.{Body}
use Rattle.cdk_tree.specs.Expected.{is_resource, target_at}
use Rattle.cdk_tree.specs.PlaceFindings.{when}
use Rattle.cdk_tree.specs.Placed.{Placed}
use Rattle.cdk_tree.specs.declared.role.Found.{Found}
use Rattle.cdk_tokens.specs.Token.{Token}
use Rattle.cdk_tokens.specs.Values.{has_unknown_token, has_list_mix}
use Rattle.cdk_tokens.specs.Whole.{MarkedBody, value_at}
use Rattle.cdk_values.specs.BadValue.{has_bad_value}

abbrev pub wrong_in : List Token → Data → List Code
wrong_in ts d = when (has_unknown_token ts d) UnknownToken ++ (when (has_list_mix d) ListMix ++ when (has_bad_value d) BadValue)

-- of a construct with the marked value, where it has one; only resources are looked at
abbrev pub wrong_values_at : List Token → Option Data → Body → List Code
wrong_values_at ts o b = if is_resource b then option_map_or (wrong_in ts) o [] else []

-- of the constructs from the number n on
abbrev pub value_findings_from : List Token → List MarkedBody → ℕ → List Placed → List Found
value_findings_from ts ms n [] = []
value_findings_from ts ms n (c ∷ rest) = map (target_at n) (wrong_values_at ts (value_at ms n) c.body) ++ value_findings_from ts ms (n + 1) rest

-- in walk order, at each resource the lowest number first
abbrev pub value_findings : List Token → List MarkedBody → List Placed → List Found
value_findings ts ms cs = value_findings_from ts ms 0 cs
