-- The plain form of an expression of the tree, told without markers: contexts by what they find, lazies by their values, Concats inline
-- with their literals joined (own wording of AWS CDK's resolution).
use Rattle.std.specs.Prelude.{ℕ, zero, suc, List, [], ◌∷◌, ◌++◌, Bool, if◌then◌else◌, Option, Some, None}
use Rattle.std.specs.Option.{option_map_or, unwrap_or}
use Rattle.std.specs.Ordering.{nat_cmp, match_ordering}
use Rattle.std.specs.Cmp.Lexicographic.{slice_cmp}
use Rattle.serde_json.specs.Data.{Data, null, boolean, number, string, array, object, Items, no_items, item, Members, no_members, member}
use Rattle.serde_json.specs.Find.{as_integer, of_integer}
use Rattle.cdk_base.specs.Json.{text_of}
use Rattle.cdk_language.specs.Construct as construct
use Rattle.cdk_language.specs.Construct.{Body}
use Rattle.cdk_language.specs.Expression as expression
use Rattle.cdk_language.specs.Expression.{Expression, Expressions}
use Rattle.cdk_plain.specs.Plain as plain
use Rattle.cdk_plain.specs.Plain.{Plain, text, whole, truth, list_of, object_of, Plains, no_plains, Fields, no_fields, field}
use Rattle.cdk_tree.specs.Lists.{is_list}
use Rattle.cdk_tree.specs.Placed.{Placed, construct_at}
use Rattle.cdk_tokens.specs.Marking.{context_value, target}
use Rattle.cdk_contexts.specs.Expressions.{operands_of}
use Rattle.cdk_expansion.specs.Expanded.{number_plain, pseudo_of}

-- a part of a Concat
pub data Part : Type 0 where
  literal : List ℕ → Part
  other : Plain → Part

abbrev pub part_plain : Part → Plain
part_plain (literal s) = text s
part_plain (other p) = p

abbrev pub parts_plain : List Part → Plains
parts_plain [] = no_plains
parts_plain (p ∷ ps) = plain.plain (part_plain p) (parts_plain ps)

-- a literal before the others: an empty one is dropped, and one before another is joined with it
abbrev pub merge_literal : List ℕ → List Part → List Part
merge_literal [] ps = ps
merge_literal (x ∷ s) (literal t ∷ ps) = literal ((x ∷ s) ++ t) ∷ ps
merge_literal (x ∷ s) ps = literal (x ∷ s) ∷ ps

-- neighbours joined, and empty literals dropped
abbrev pub merged : List Part → List Part
merged [] = []
merged (literal s ∷ ps) = merge_literal s (merged ps)
merged (other p ∷ ps) = other p ∷ merged ps

-- no part is an empty text, a single part is its own plain form, and else they are a Concat
abbrev pub assembled : List Part → Plain
assembled [] = text []
assembled (p ∷ []) = part_plain p
assembled (p ∷ q ∷ ps) = plain.concat (parts_plain (p ∷ q ∷ ps))

-- a literal of a context
abbrev mutual
  pub literal_plain : Data → Plain
  literal_plain null = text []
  literal_plain (boolean b) = truth b
  literal_plain (number n) = number_plain (as_integer n)
  literal_plain (string s) = text s
  literal_plain (array ds) = list_of (literal_plains ds)
  literal_plain (object ms) = object_of (literal_fields ms)

  pub literal_plains : Items → Plains
  literal_plains no_items = no_plains
  literal_plains (item d ds) = plain.plain (literal_plain d) (literal_plains ds)

  pub literal_fields : Members → Fields
  literal_fields no_members = no_fields
  literal_fields (member k d ms) = field k (literal_plain d) (literal_fields ms)

-- the fields, with p at k
abbrev pub put_field : List ℕ → Plain → Fields → Fields
put_field k p no_fields = field k p no_fields
put_field k p (field l q fs) = match_ordering (slice_cmp nat_cmp k l) (field k p (field l q fs)) (field l p fs) (field l q (put_field k p fs))

abbrev pub other_part : Bool → Plain → List Part
other_part is_list p = if is_list then [] else other p ∷ []

abbrev pub text_part : Option (List ℕ) → List Part
text_part t = literal (unwrap_or t []) ∷ []

-- Of an expression of the construct `at`; `lazies` tells the plain form of each lazy.
abbrev mutual
  pub own : (ℕ → Plain) → List Placed → ℕ → Expression → Plain
  own lazies cs at (expression.text s) = text s
  own lazies cs at (expression.whole z) = whole z
  own lazies cs at (expression.truth b) = truth b
  own lazies cs at (expression.list es) = list_of (own_all lazies cs at es)
  own lazies cs at (expression.object fs) = object_of (own_fields lazies cs at fs no_fields)
  own lazies cs at (expression.pseudo p) = plain.pseudo (pseudo_of p)
  own lazies cs at (expression.ref t) = plain.ref (target cs t)
  own lazies cs at (expression.get_att t a) = plain.get_att (target cs t) a
  own lazies cs at (expression.concat es) = assembled (merged (all_parts lazies cs at es))
  own lazies cs at (expression.join d e) = plain.join d (own lazies cs at e)
  own lazies cs at (expression.select i e) = plain.select i (own lazies cs at e)
  own lazies cs at (expression.split d e) = plain.split d (own lazies cs at e)
  own lazies cs at (expression.choice c x y) = plain.choice (target cs c) (own lazies cs at x) (own lazies cs at y)
  own lazies cs at (expression.find_in_map m x y) = plain.find_in_map (target cs m) (own lazies cs at x) (own lazies cs at y)
  own lazies cs at (expression.import_value t) = plain.import_value t
  own lazies cs at (expression.context k d) = literal_plain (context_value cs at k d)
  own lazies cs at (expression.lazy t) = lazies (target cs t)

  pub own_all : (ℕ → Plain) → List Placed → ℕ → Expressions → Plains
  own_all lazies cs at expression.no_expressions = no_plains
  own_all lazies cs at (expression.expression e es) = plain.plain (own lazies cs at e) (own_all lazies cs at es)

  -- fields put in, one after another
  pub own_fields : (ℕ → Plain) → List Placed → ℕ → expression.Fields → Fields → Fields
  own_fields lazies cs at expression.no_fields done = done
  own_fields lazies cs at (expression.field k e fs) done = own_fields lazies cs at fs (put_field k (own lazies cs at e) done)

  -- An expression, whose plain form is p, as parts of a Concat: a literal by its text, another Concat inline. What is a
  -- list, array or object has no text: it is refused before, and adds nothing here.
  pub parts : (ℕ → Plain) → List Placed → ℕ → Expression → Plain → List Part
  parts lazies cs at (expression.text s) p = text_part (Some s)
  parts lazies cs at (expression.whole z) p = text_part (text_of (number (of_integer z)))
  parts lazies cs at (expression.truth b) p = text_part (text_of (boolean b))
  parts lazies cs at (expression.list es) p = []
  parts lazies cs at (expression.object fs) p = []
  parts lazies cs at (expression.concat es) p = all_parts lazies cs at es
  parts lazies cs at (expression.context k d) p = text_part (text_of (context_value cs at k d))
  parts lazies cs at e p = other_part (is_list cs at e) p

  pub all_parts : (ℕ → Plain) → List Placed → ℕ → Expressions → List Part
  all_parts lazies cs at expression.no_expressions = []
  all_parts lazies cs at (expression.expression e es) = parts lazies cs at e (own lazies cs at e) ++ all_parts lazies cs at es

-- the expression whose marked value a construct has
abbrev pub value_in : Body → Option Expression
value_in (construct.resource r) = Some r.properties
value_in (construct.output o) = Some o.value
value_in (construct.lazy e) = Some e
value_in b = None

-- the operands of a condition
abbrev pub operands_in : Body → List Expression
operands_in (construct.condition_body c) = operands_of c
operands_in b = []

-- The plain form of the value of the construct n, where lazies are opened k times, one inside another.
abbrev pub own_opened : ℕ → List Placed → ℕ → Plain
own_opened zero cs n = text []
own_opened (suc k) cs n = option_map_or (own (own_opened k cs) cs n) (value_in (construct_at cs n).body) (text [])

-- the plain form of an expression of the construct `at`
abbrev pub own_of : ℕ → List Placed → ℕ → Expression → Plain
own_of k cs at e = own (own_opened k cs) cs at e
