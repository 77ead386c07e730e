-- What lazies and conditions mention, as a graph of tokens and constructs (after AWS CDK's lazies and CloudFormation's conditions): a lazy
-- mentions the tokens in its value, a token those in its arguments, a lazy's token that lazy, and a condition the conditions
-- that it names.
use Rattle.std.specs.Prelude.{ℕ, ◌+◌, List, [], ◌∷◌, ◌++◌, map, length, Bool, true, false, if◌then◌else◌, Option, Some, None}
use Rattle.std.specs.Option.{option_map_or}
use Rattle.serde_json.specs.Data.{Data}
use Rattle.cdk_expansion.specs.Mentions.{arguments, keys_in, lazy_value}
use Rattle.cdk_graphs.specs.Graph.{Graph}
use Rattle.cdk_language.specs.Condition as condition
use Rattle.cdk_language.specs.Condition.{Condition, Conditions}
use Rattle.cdk_language.specs.Construct as construct
use Rattle.cdk_language.specs.Construct.{Body}
use Rattle.cdk_tokens.specs.Token as token
use Rattle.cdk_tokens.specs.Token.{Token, Form, find_token}
use Rattle.cdk_tokens.specs.Whole.{MarkedBody}
use Rattle.cdk_tree.specs.Expected.{is_condition, is_lazy}
use Rattle.cdk_tree.specs.Placed.{Placed, construct_at, find_path}

-- ---- numbers: the tokens come first, then the constructs

abbrev pub construct_node : List Token → ℕ → ℕ
construct_node ts n = length ts + n

abbrev pub onto : Option ℕ → List ℕ → List ℕ
onto None ns = ns
onto (Some n) ns = n ∷ ns

-- the numbers of the tokens that have the keys
abbrev pub tokens_by : List Token → List (List ℕ) → List ℕ
tokens_by ts [] = []
tokens_by ts (k ∷ ks) = onto (find_token ts k) (tokens_by ts ks)

abbrev pub tokens_in_all : List Token → List Data → List ℕ
tokens_in_all ts [] = []
tokens_in_all ts (d ∷ ds) = tokens_by ts (keys_in d) ++ tokens_in_all ts ds

-- ---- what each mentions

-- the construct, where it is a lazy
abbrev pub lazy_node : List Placed → List Token → ℕ → List ℕ
lazy_node cs ts n = if is_lazy (construct_at cs n).body then construct_node ts n ∷ [] else []

abbrev pub form_mentions : List Placed → List Token → Form → List ℕ
form_mentions cs ts (token.lazy n) = lazy_node cs ts n
form_mentions cs ts f = tokens_in_all ts (arguments f)

-- the paths of the conditions that a condition names
abbrev mutual
  pub names_in : Condition → List (List ℕ)
  names_in (condition.equals x y) = []
  names_in (condition.all_of cs) = names_in_all cs
  names_in (condition.any_of cs) = names_in_all cs
  names_in (condition.negated c) = names_in c
  names_in (condition.named t) = t ∷ []

  pub names_in_all : Conditions → List (List ℕ)
  names_in_all condition.no_conditions = []
  names_in_all (condition.condition c cs) = names_in c ++ names_in_all cs

-- the construct, where it is a condition
abbrev pub condition_node : List Placed → List Token → Option ℕ → List ℕ
condition_node cs ts None = []
condition_node cs ts (Some n) = if is_condition (construct_at cs n).body then construct_node ts n ∷ [] else []

abbrev pub conditions_by : List Placed → List Token → List (List ℕ) → List ℕ
conditions_by cs ts [] = []
conditions_by cs ts (t ∷ rest) = condition_node cs ts (find_path cs t) ++ conditions_by cs ts rest

-- of the construct n, with its body
abbrev pub body_mentions : List Placed → List Token → List MarkedBody → ℕ → Body → List ℕ
body_mentions cs ts ms n (construct.lazy e) = tokens_by ts (keys_in (lazy_value ms n))
body_mentions cs ts ms n (construct.condition_body c) = conditions_by cs ts (names_in c)
body_mentions cs ts ms n b = []

abbrev pub token_rows : List Placed → List Token → List Token → Graph
token_rows cs ts [] = []
token_rows cs ts (t ∷ rest) = form_mentions cs ts t.form ∷ token_rows cs ts rest

-- of the constructs from the number n on
abbrev pub construct_rows : List Placed → List Token → List MarkedBody → ℕ → List Placed → Graph
construct_rows cs ts ms n [] = []
construct_rows cs ts ms n (c ∷ rest) = body_mentions cs ts ms n c.body ∷ construct_rows cs ts ms (n + 1) rest

abbrev pub mention_graph : List Placed → List Token → List MarkedBody → Graph
mention_graph cs ts ms = token_rows cs ts ts ++ construct_rows cs ts ms 0 cs
