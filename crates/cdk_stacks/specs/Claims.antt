-- Which names must be one construct's alone, and what is wrong with the names of an application (AWS CDK's check of logical ids; that
-- stack names differ in the whole application, and that the tree file's artifact takes `Tree`, are own).
use Rattle.std.specs.Prelude.{ℕ, ◌||◌, List, [], ◌∷◌, ◌++◌, Bool, Option, Some, option_map, option_and_then, codes, length, map}
use Rattle.std.specs.List.{list_any, range_with_len}
use Rattle.cdk_base.specs.declared.code.Code.{Code}
use Rattle.cdk_base.specs.declared.code.Code.TheVariants.{BadName, SameName}
use Rattle.cdk_claims.specs.Claims.{Claim, is_same}
use Rattle.cdk_tree.specs.Placed.{Placed, construct_at}
use Rattle.cdk_tree.specs.PlaceFindings.{when}
use Rattle.cdk_tree.specs.declared.role.Found.{Found}
use Rattle.cdk_stacks.specs.Names.{artifact_id, assembly_of, is_misnamed, logical_name, stack_name}

-- an element claims its logical name in its stack
abbrev pub logical_claim : List Placed → ℕ → Option Claim
logical_claim cs n = option_and_then (λ stack. option_map (λ name. (stack, name)) (logical_name cs n)) (construct_at cs n).stack

-- a stack claims its name in the application
abbrev pub stack_claim : List Placed → ℕ → Option Claim
stack_claim cs n = option_map (λ name. (0, name)) (stack_name cs n)

-- a stack or stage claims its artifact id in the assembly that it stands in
abbrev pub artifact_claim : List Placed → ℕ → Option Claim
artifact_claim cs n = option_map (λ name. (assembly_of cs n, name)) (artifact_id cs n)

-- the tree file is an artifact of the root assembly
abbrev pub tree_claim : Option Claim
tree_claim = Some (0, codes "Tree")

-- two constructs claim one name
abbrev pub clash : List Placed → ℕ → ℕ → Bool
clash cs m n =
    is_same (logical_claim cs m) (logical_claim cs n)
    || (is_same (stack_claim cs m) (stack_claim cs n)
    || is_same (artifact_claim cs m) (artifact_claim cs n))

-- a construct before it, or the tree file, has a name that it claims
abbrev pub has_taken_name : List Placed → ℕ → Bool
has_taken_name cs n = list_any (λ m. clash cs m n) (range_with_len 0 n) || is_same tree_claim (artifact_claim cs n)

-- the lowest number first
abbrev pub wrong_names : List Placed → ℕ → List Code
wrong_names cs n = when (is_misnamed cs n) BadName ++ when (has_taken_name cs n) SameName

abbrev pub found_at : ℕ → Code → Found
found_at n code = record { code = code; at = n }

abbrev pub name_findings_of : List Placed → List ℕ → List Found
name_findings_of cs [] = []
name_findings_of cs (n ∷ ns) = map (found_at n) (wrong_names cs n) ++ name_findings_of cs ns

-- in walk order
abbrev pub name_findings : List Placed → List Found
name_findings cs = name_findings_of cs (range_with_len 0 (length cs))
