-- Which expressions are lists (own, after CloudFormation's list type of parameters and its functions that give lists).
use Rattle.std.specs.Prelude.{ℕ, zero, suc, ◌&&◌, List, map, length, slice_index_or, Bool, true, false}
use Rattle.std.specs.Option.{option_map_or}
use Rattle.serde_json.specs.Data.{Data, Members, array}
use Rattle.cdk_language.specs.Construct as language
use Rattle.cdk_language.specs.Construct.{Body, ParameterBody}
use Rattle.cdk_language.specs.Expression as expression
use Rattle.cdk_language.specs.Expression.{Expression}
use Rattle.cdk_language.specs.declared.construct.ParameterForm.{ParameterForm}
use Rattle.cdk_language.specs.declared.construct.ParameterForm.TheVariants as parameter_forms
use Rattle.cdk_tree.specs.Placed.{Placed, construct_at, find_path, found_value}

abbrev pub is_list_form : ParameterForm → Bool
is_list_form parameter_forms.List = true
is_list_form f = false

abbrev pub is_list_parameter : Body → Bool
is_list_parameter (language.parameter p) = is_list_form p.form
is_list_parameter b = false

abbrev pub is_array : Data → Bool
is_array (array ds) = true
is_array d = false

-- Whether an expression is a list, its owner seeing these contexts, where `lazies` tells of each construct whether it is
-- a lazy whose value is a list.
abbrev pub is_list_where : List Placed → List Bool → List Members → Expression → Bool
is_list_where cs lazies scopes (expression.list es) = true
is_list_where cs lazies scopes (expression.split d x) = true
is_list_where cs lazies scopes (expression.ref t) = option_map_or (λ n. is_list_parameter (construct_at cs n).body) (find_path cs t) false
is_list_where cs lazies scopes (expression.choice c x y) = is_list_where cs lazies scopes x && is_list_where cs lazies scopes y
is_list_where cs lazies scopes (expression.lazy t) = option_map_or (λ n. slice_index_or lazies n false) (find_path cs t) false
is_list_where cs lazies scopes (expression.context k d) = option_map_or is_array (found_value scopes k d) false
is_list_where cs lazies scopes e = false

-- whether a construct is a lazy whose value is a list; its contexts are those that the lazy sees
abbrev pub is_list_body : List Placed → List Bool → List Members → Body → Bool
is_list_body cs lazies scopes (language.lazy e) = is_list_where cs lazies scopes e
is_list_body cs lazies scopes b = false

-- The lazies that are seen to be lists when lazies are opened n times, one inside another.
abbrev pub lists_after : ℕ → List Placed → List Bool
lists_after zero cs = map (λ c. false) cs
lists_after (suc n) cs = map (λ c. is_list_body cs (lists_after n cs) c.contexts c.body) cs

-- The lazies whose values are lists. Opening more often than there are constructs shows no more of them: what isn't a
-- list by then comes back to itself, or ends at no list.
abbrev pub list_lazies : List Placed → List Bool
list_lazies cs = lists_after (length cs) cs

-- whether an expression of the construct is a list
abbrev pub is_list : List Placed → ℕ → Expression → Bool
is_list cs at e = is_list_where cs (list_lazies cs) (construct_at cs at).contexts e
