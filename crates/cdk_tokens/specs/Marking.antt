-- The marked value of an expression and its tokens: a marker stands in place of each token's expression (AWS CDK's encoded tokens;
-- the numbers are our own). An expression's arguments are numbered in written order, and then the expression itself. An object's
-- fields are taken as they are listed, which is by key bytes where the application was read.
use Rattle.std.specs.Prelude.{ℕ, ◌+◌, List, [], ◌∷◌, ◌++◌, codes, Option}
use Rattle.std.specs.Option.{unwrap_or}
use Rattle.serde_json.specs.Data.{Data, null, boolean, number, string, array, object, Items, no_items, item, Members, no_members, put}
use Rattle.serde_json.specs.Find.{of_integer}
use Rattle.cdk_base.specs.Json.{text_of}
use Rattle.cdk_language.specs.Expression as expression
use Rattle.cdk_language.specs.Expression.{Expression, Expressions, Fields}
use Rattle.cdk_tree.specs.Lists.{is_list}
use Rattle.cdk_tree.specs.Placed.{Placed, construct_at, find_path, found_value}
use Rattle.cdk_tokens.specs.Token.{Token, Form, pseudo, ref, get_att, join, select, split, choice, find_in_map, import_value, lazy, key_of, marker}

-- the construct at a path; what no construct has is refused before, and stands for the root here
abbrev pub target : List Placed → List ℕ → ℕ
target cs t = unwrap_or (find_path cs t) 0

-- what a Context of the construct stands for; one that isn't found is refused, and stands for null here
abbrev pub context_value : List Placed → ℕ → List ℕ → Option Data → Data
context_value cs at k d = unwrap_or (found_value (construct_at cs at).contexts k d) null

-- the hint in the key of an expression that is a token
abbrev pub hint : Expression → List ℕ
hint (expression.pseudo p) = codes "Ref"
hint (expression.ref t) = codes "Ref"
hint (expression.get_att t a) = codes "GetAtt"
hint (expression.join d e) = codes "Join"
hint (expression.select i e) = codes "Select"
hint (expression.split d e) = codes "Split"
hint (expression.choice c x y) = codes "If"
hint (expression.find_in_map m x y) = codes "FindInMap"
hint (expression.import_value t) = codes "ImportValue"
hint (expression.lazy t) = codes "Lazy"
hint e = []

-- how many tokens an expression has in it, itself counted
abbrev mutual
  pub count : Expression → ℕ
  count (expression.text s) = 0
  count (expression.whole z) = 0
  count (expression.truth b) = 0
  count (expression.list es) = count_all es
  count (expression.object fs) = count_fields fs
  count (expression.pseudo p) = 1
  count (expression.ref t) = 1
  count (expression.get_att t a) = 1
  count (expression.concat es) = count_all es
  count (expression.join d e) = count e + 1
  count (expression.select i e) = count e + 1
  count (expression.split d e) = count e + 1
  count (expression.choice c x y) = count x + count y + 1
  count (expression.find_in_map m x y) = count x + count y + 1
  count (expression.import_value t) = 1
  count (expression.context k d) = 0
  count (expression.lazy t) = 1

  pub count_all : Expressions → ℕ
  count_all expression.no_expressions = 0
  count_all (expression.expression e es) = count e + count_all es

  pub count_fields : Fields → ℕ
  count_fields expression.no_fields = 0
  count_fields (expression.field k e fs) = count e + count_fields fs

-- how the token of the number is written in the construct's value
abbrev pub spelled : List Placed → ℕ → ℕ → Expression → Data
spelled cs at n e = marker (is_list cs at e) (key_of (hint e) n)

-- Of an expression of the construct `at`, whose tokens are numbered from n on.
abbrev mutual
  pub marked : List Placed → ℕ → ℕ → Expression → Data
  marked cs at n (expression.text s) = string s
  marked cs at n (expression.whole z) = number (of_integer z)
  marked cs at n (expression.truth b) = boolean b
  marked cs at n (expression.list es) = array (marked_items cs at n es)
  marked cs at n (expression.object fs) = object (marked_members cs at n fs no_members)
  marked cs at n (expression.pseudo p) = spelled cs at n (expression.pseudo p)
  marked cs at n (expression.ref t) = spelled cs at n (expression.ref t)
  marked cs at n (expression.get_att t a) = spelled cs at n (expression.get_att t a)
  marked cs at n (expression.concat es) = string (marked_text cs at n es)
  marked cs at n (expression.join d e) = spelled cs at (n + count e) (expression.join d e)
  marked cs at n (expression.select i e) = spelled cs at (n + count e) (expression.select i e)
  marked cs at n (expression.split d e) = spelled cs at (n + count e) (expression.split d e)
  marked cs at n (expression.choice c x y) = spelled cs at (n + (count x + count y)) (expression.choice c x y)
  marked cs at n (expression.find_in_map m x y) = spelled cs at (n + (count x + count y)) (expression.find_in_map m x y)
  marked cs at n (expression.import_value t) = spelled cs at n (expression.import_value t)
  marked cs at n (expression.context k d) = context_value cs at k d
  marked cs at n (expression.lazy t) = spelled cs at n (expression.lazy t)

  pub marked_items : List Placed → ℕ → ℕ → Expressions → Items
  marked_items cs at n expression.no_expressions = no_items
  marked_items cs at n (expression.expression e es) = item (marked cs at n e) (marked_items cs at (n + count e) es)

  -- fields put in, one after another
  pub marked_members : List Placed → ℕ → ℕ → Fields → Members → Members
  marked_members cs at n expression.no_fields done = done
  marked_members cs at n (expression.field k e fs) done = marked_members cs at (n + count e) fs (put k (marked cs at n e) done)

  -- the pieces of a Concat in one text; what has no text is refused before, and adds nothing here
  pub marked_text : List Placed → ℕ → ℕ → Expressions → List ℕ
  marked_text cs at n expression.no_expressions = []
  marked_text cs at n (expression.expression e es) = unwrap_or (text_of (marked cs at n e)) [] ++ marked_text cs at (n + count e) es

abbrev pub token_of : List Placed → ℕ → ℕ → Expression → Form → Token
token_of cs at n e f = record { key = key_of (hint e) n; owner = at; is_list = is_list cs at e; form = f }

-- the tokens in the order of their numbers
abbrev mutual
  pub tokens : List Placed → ℕ → ℕ → Expression → List Token
  tokens cs at n (expression.text s) = []
  tokens cs at n (expression.whole z) = []
  tokens cs at n (expression.truth b) = []
  tokens cs at n (expression.list es) = all_tokens cs at n es
  tokens cs at n (expression.object fs) = fields_tokens cs at n fs
  tokens cs at n (expression.pseudo p) = token_of cs at n (expression.pseudo p) (pseudo p) ∷ []
  tokens cs at n (expression.ref t) = token_of cs at n (expression.ref t) (ref (target cs t)) ∷ []
  tokens cs at n (expression.get_att t a) = token_of cs at n (expression.get_att t a) (get_att (target cs t) a) ∷ []
  tokens cs at n (expression.concat es) = all_tokens cs at n es
  tokens cs at n (expression.join d e) =
      tokens cs at n e ++ token_of cs at (n + count e) (expression.join d e) (join d (marked cs at n e)) ∷ []
  tokens cs at n (expression.select i e) =
      tokens cs at n e ++ token_of cs at (n + count e) (expression.select i e) (select i (marked cs at n e)) ∷ []
  tokens cs at n (expression.split d e) =
      tokens cs at n e ++ token_of cs at (n + count e) (expression.split d e) (split d (marked cs at n e)) ∷ []
  tokens cs at n (expression.choice c x y) =
      tokens cs at n x ++ (tokens cs at (n + count x) y
      ++ token_of cs at (n + (count x + count y)) (expression.choice c x y) (choice (target cs c) (marked cs at n x) (marked cs at (n + count x) y)) ∷ [])
  tokens cs at n (expression.find_in_map m x y) =
      tokens cs at n x ++ (tokens cs at (n + count x) y
      ++ token_of cs at (n + (count x + count y)) (expression.find_in_map m x y) (find_in_map (target cs m) (marked cs at n x) (marked cs at (n + count x) y)) ∷ [])
  tokens cs at n (expression.import_value t) = token_of cs at n (expression.import_value t) (import_value t) ∷ []
  tokens cs at n (expression.context k d) = []
  tokens cs at n (expression.lazy t) = token_of cs at n (expression.lazy t) (lazy (target cs t)) ∷ []

  pub all_tokens : List Placed → ℕ → ℕ → Expressions → List Token
  all_tokens cs at n expression.no_expressions = []
  all_tokens cs at n (expression.expression e es) = tokens cs at n e ++ all_tokens cs at (n + count e) es

  pub fields_tokens : List Placed → ℕ → ℕ → Fields → List Token
  fields_tokens cs at n expression.no_fields = []
  fields_tokens cs at n (expression.field k e fs) = tokens cs at n e ++ fields_tokens cs at (n + count e) fs
