-- How many resources, parameters, mappings and outputs a template may have (CloudFormation's quotas).
use Rattle.std.specs.Prelude.{ℕ, ◌||◌, ◌&&◌, List, [], ◌∷◌, ◌++◌, map, length, nat_lt, Bool}
use Rattle.std.specs.List.{range_with_len}
use Rattle.cdk_base.specs.declared.code.Code.{Code}
use Rattle.cdk_base.specs.declared.code.Code.TheVariants.{TooMany}
use Rattle.cdk_elements.specs.Kinds.{is_output, of_kind}
use Rattle.cdk_language.specs.Construct.{Body}
use Rattle.cdk_tree.specs.Expected.{is_resource, is_parameter, is_mapping}
use Rattle.cdk_tree.specs.PlaceFindings.{when}
use Rattle.cdk_tree.specs.Placed.{Placed, construct_at, is_stack}
use Rattle.cdk_tree.specs.declared.role.Found.{Found}

abbrev pub count_of : List Placed → ℕ → (Body → Bool) → ℕ
count_of cs stack kind = length (of_kind cs stack kind)

-- over 500 resources, or over 200 parameters, mappings or outputs
abbrev pub is_too_large : List Placed → ℕ → Bool
is_too_large cs stack =
    nat_lt 500 (count_of cs stack is_resource)
    || (nat_lt 200 (count_of cs stack is_parameter) || (nat_lt 200 (count_of cs stack is_mapping) || nat_lt 200 (count_of cs stack is_output)))

abbrev pub wrong_count : List Placed → ℕ → List Code
wrong_count cs n = when (is_stack (construct_at cs n).body && is_too_large cs n) TooMany

abbrev pub count_at : ℕ → Code → Found
count_at n code = record { code = code; at = n }

abbrev pub count_findings_of : List Placed → List ℕ → List Found
count_findings_of cs [] = []
count_findings_of cs (n ∷ ns) = map (count_at n) (wrong_count cs n) ++ count_findings_of cs ns

-- in walk order
abbrev pub count_findings : List Placed → List Found
count_findings cs = count_findings_of cs (range_with_len 0 (length cs))
