-- What the expressions of constructs ask of their targets and of what stands in them, and what is wrong with it (CloudFormation's
-- intrinsic functions; own for paths, Context and Lazy).
use Rattle.std.specs.Prelude.{ℕ, ◌+◌, ◌&&◌, ◌||◌, List, [], ◌∷◌, ◌++◌, map, not, Bool, true, false, Option, Some, None, is_none}
use Rattle.std.specs.List.{list_any}
use Rattle.std.specs.Option.{option_map_or}
use Rattle.serde_json.specs.Data.{Data, Members, array, object}
use Rattle.cdk_base.specs.declared.code.Code.{Code}
use Rattle.cdk_base.specs.declared.code.Code.TheVariants.{NoTarget, WrongTarget}
use Rattle.cdk_language.specs.Condition as condition
use Rattle.cdk_language.specs.Condition.{Condition, Conditions}
use Rattle.cdk_language.specs.Construct as language
use Rattle.cdk_language.specs.Construct.{Body, Head}
use Rattle.cdk_language.specs.Expression as expression
use Rattle.cdk_language.specs.Expression.{Expression, Expressions, Fields}
use Rattle.cdk_tree.specs.Lists.{is_list_where, list_lazies}
use Rattle.cdk_tree.specs.PlaceFindings.{when}
use Rattle.cdk_tree.specs.Placed.{Placed, construct_at, find_path, found_value, is_stack}
use Rattle.cdk_tree.specs.declared.role.TargetRole.{TargetRole}
use Rattle.cdk_tree.specs.declared.role.TargetRole.TheVariants as roles
use Rattle.cdk_tree.specs.declared.role.Found.{Found}

-- What is asked: a target of some role, that an expression may stand where a text must be, or where a list must be.
pub data Expected : Type 0 where
  target : TargetRole → List ℕ → Expected
  text_place : Expression → Expected
  list_place : Expression → Expected

-- ---- what is asked by an expression, in written order

abbrev mutual
  pub expected : Expression → List Expected
  expected (expression.text s) = []
  expected (expression.whole n) = []
  expected (expression.truth b) = []
  expected (expression.list es) = expected_all es
  expected (expression.object fs) = expected_fields fs
  expected (expression.pseudo p) = []
  expected (expression.ref t) = target roles.Referable t ∷ []
  expected (expression.get_att t a) = target roles.Resource t ∷ []
  expected (expression.concat es) = expected_pieces es
  expected (expression.join d l) = list_place l ∷ expected l
  expected (expression.select n l) = list_place l ∷ expected l
  expected (expression.split d x) = text_place x ∷ expected x
  expected (expression.choice c x y) = target roles.Condition c ∷ (expected x ++ expected y)
  expected (expression.find_in_map m x y) = target roles.Mapping m ∷ ((text_place x ∷ expected x) ++ (text_place y ∷ expected y))
  expected (expression.import_value t) = []
  expected (expression.context k d) = []
  expected (expression.lazy t) = target roles.Lazy t ∷ []

  pub expected_all : Expressions → List Expected
  expected_all expression.no_expressions = []
  expected_all (expression.expression e es) = expected e ++ expected_all es

  pub expected_fields : Fields → List Expected
  expected_fields expression.no_fields = []
  expected_fields (expression.field k e fs) = expected e ++ expected_fields fs

  -- the pieces of a Concat are texts
  pub expected_pieces : Expressions → List Expected
  expected_pieces expression.no_expressions = []
  expected_pieces (expression.expression e es) = (text_place e ∷ expected e) ++ expected_pieces es

abbrev mutual
  pub expected_condition : Condition → List Expected
  expected_condition (condition.equals x y) = (text_place x ∷ expected x) ++ (text_place y ∷ expected y)
  expected_condition (condition.all_of cs) = expected_conditions cs
  expected_condition (condition.any_of cs) = expected_conditions cs
  expected_condition (condition.negated c) = expected_condition c
  expected_condition (condition.named t) = target roles.Condition t ∷ []

  pub expected_conditions : Conditions → List Expected
  expected_conditions condition.no_conditions = []
  expected_conditions (condition.condition c cs) = expected_condition c ++ expected_conditions cs

-- the condition under which something is made
abbrev pub expected_when : Option (List ℕ) → List Expected
expected_when None = []
expected_when (Some t) = target roles.Condition t ∷ []

abbrev pub expected_body : Body → List Expected
expected_body (language.resource r) = expected r.properties ++ expected_when r.condition
expected_body (language.condition_body c) = expected_condition c
expected_body (language.output o) = expected o.value ++ expected_when o.condition
expected_body (language.lazy e) = expected e
expected_body b = []

abbrev pub expected_of : Head → Body → List Expected
expected_of h b = map (target roles.Dependable) h.depends ++ expected_body b

-- ---- whether it is there

abbrev pub is_resource : Body → Bool
is_resource (language.resource r) = true
is_resource b = false

abbrev pub is_parameter : Body → Bool
is_parameter (language.parameter p) = true
is_parameter b = false

abbrev pub is_condition : Body → Bool
is_condition (language.condition_body c) = true
is_condition b = false

abbrev pub is_mapping : Body → Bool
is_mapping (language.mapping m) = true
is_mapping b = false

abbrev pub is_lazy : Body → Bool
is_lazy (language.lazy e) = true
is_lazy b = false

abbrev pub is_group : Body → Bool
is_group language.group = true
is_group b = false

-- the kinds that a target of the role may have
abbrev pub serves : TargetRole → Body → Bool
serves roles.Referable b = is_resource b || is_parameter b
serves roles.Resource b = is_resource b
serves roles.Condition b = is_condition b
serves roles.Mapping b = is_mapping b
serves roles.Lazy b = is_lazy b
serves roles.Dependable b = is_resource b || (is_group b || is_stack b)

-- no construct has the target's path
abbrev pub is_missing : List Placed → Expected → Bool
is_missing cs (target r t) = is_none (find_path cs t)
is_missing cs (text_place e) = false
is_missing cs (list_place e) = false

abbrev pub is_array_or_object : Data → Bool
is_array_or_object (array ds) = true
is_array_or_object (object ms) = true
is_array_or_object d = false

-- a Context that finds an array or object
abbrev pub finds_no_text : List Members → Expression → Bool
finds_no_text scopes (expression.context k d) = option_map_or is_array_or_object (found_value scopes k d) false
finds_no_text scopes e = false

-- a Context that finds nothing
abbrev pub finds_nothing : List Members → Expression → Bool
finds_nothing scopes (expression.context k d) = is_none (found_value scopes k d)
finds_nothing scopes e = false

-- A target of the wrong kind (in a condition a resource is one, whoever mentions it), a list or a Context's array or object in a
-- text place, or what is no list in a list place. A Context that finds nothing may stand in either.
abbrev pub is_wrong : List Placed → List Bool → Bool → List Members → Expected → Bool
is_wrong cs lazies in_condition scopes (target r t) =
    option_map_or (λ n. not (serves r (construct_at cs n).body) || (in_condition && is_resource (construct_at cs n).body)) (find_path cs t) false
is_wrong cs lazies in_condition scopes (text_place e) = is_list_where cs lazies scopes e || finds_no_text scopes e
is_wrong cs lazies in_condition scopes (list_place e) = not (is_list_where cs lazies scopes e || finds_nothing scopes e)

-- ---- the findings

abbrev pub wrong_targets_at : List Placed → List Bool → Placed → List Code
wrong_targets_at cs lazies c =
    when (list_any (is_missing cs) (expected_of c.head c.body)) NoTarget
    ++ when (list_any (is_wrong cs lazies (is_condition c.body) c.contexts) (expected_of c.head c.body)) WrongTarget

abbrev pub target_at : ℕ → Code → Found
target_at n c = record { code = c; at = n }

-- of the constructs from the number n on
abbrev pub target_findings_from : List Placed → List Bool → ℕ → List Placed → List Found
target_findings_from cs lazies n [] = []
target_findings_from cs lazies n (c ∷ rest) = map (target_at n) (wrong_targets_at cs lazies c) ++ target_findings_from cs lazies (n + 1) rest

-- in walk order, at each construct the lowest number first
abbrev pub target_findings : List Placed → List Found
target_findings cs = target_findings_from cs (list_lazies cs) 0 cs
