-- What must hold of lazies for an expression to be a list (own).
use Rattle.std.specs.Prelude.{ℕ, List, [], ◌∷◌, ◌++◌, map, Bool, false, if◌then◌else◌, Option, Some, None, option_map}
use Rattle.std.specs.Option.{option_map_or}
use Rattle.serde_json.specs.Data.{Data, Members}
use Rattle.cdk_language.specs.Construct as language
use Rattle.cdk_language.specs.Construct.{Body}
use Rattle.cdk_language.specs.Expression as expression
use Rattle.cdk_language.specs.Expression.{Expression}
use Rattle.cdk_tree.specs.Lists.{is_array, is_list_parameter}
use Rattle.cdk_needs.specs.Needs.{Needs}
use Rattle.cdk_tree.specs.Placed.{Placed, construct_at, find_path, found_value}

-- `Ref` of the path is a list
abbrev pub names_list : List Placed → List ℕ → Bool
names_list cs t = option_map_or (λ n. is_list_parameter (construct_at cs n).body) (find_path cs t) false

-- a Context finds an array
abbrev pub finds_array : List Members → List ℕ → Option Data → Bool
finds_array scopes k d = option_map_or is_array (found_value scopes k d) false

-- nothing more is needed, or it never is met
abbrev pub met_where : Bool → Option (List ℕ)
met_where b = if b then Some [] else None

-- both are needed
abbrev pub both_needed : Option (List ℕ) → Option (List ℕ) → Option (List ℕ)
both_needed None o = None
both_needed (Some ls) None = None
both_needed (Some ls) (Some ks) = Some (ls ++ ks)

-- the lazies that must be lists, by number, for the expression to be one; None where it is none whatever they are
abbrev pub needed : List Placed → List Members → Expression → Option (List ℕ)
needed cs scopes (expression.list es) = Some []
needed cs scopes (expression.split d x) = Some []
needed cs scopes (expression.ref t) = met_where (names_list cs t)
needed cs scopes (expression.choice c x y) = both_needed (needed cs scopes x) (needed cs scopes y)
needed cs scopes (expression.lazy t) = option_map (λ n. n ∷ []) (find_path cs t)
needed cs scopes (expression.context k d) = met_where (finds_array scopes k d)
needed cs scopes e = None

abbrev pub needed_body : List Placed → List Members → Body → Option (List ℕ)
needed_body cs scopes (language.lazy e) = needed cs scopes e
needed_body cs scopes b = None

abbrev pub all_needed : List Placed → Needs
all_needed cs = map (λ c. needed_body cs c.contexts c.body) cs
