-- The marking of a whole application: the constructs in walk order, with one numbering of all tokens from 0 (own).
use Rattle.std.specs.Prelude.{ℕ, ◌+◌, List, [], ◌∷◌, ◌++◌, sum_by, slice_get, Option, Some, None, option_and_then}
use Rattle.serde_json.specs.Data.{Data}
use Rattle.cdk_language.specs.Construct as construct
use Rattle.cdk_language.specs.Construct.{Body}
use Rattle.cdk_language.specs.Expression.{Expression}
use Rattle.cdk_tree.specs.Placed.{Placed}
use Rattle.cdk_contexts.specs.Expressions.{expressions_in, operands_of}
use Rattle.cdk_tokens.specs.Marking.{count, marked, tokens}
use Rattle.cdk_tokens.specs.Token.{Token}

-- what is marked of a construct: the properties of a resource or the value of an output or lazy, or the operands of a condition
pub data MarkedBody : Type 0 where
  nothing : MarkedBody
  value : Data → MarkedBody
  operands : List Data → MarkedBody

abbrev pub count_in : Body → ℕ
count_in b = sum_by count (expressions_in b)

-- of expressions one after another
abbrev pub marked_list : List Placed → ℕ → ℕ → List Expression → List Data
marked_list cs at n [] = []
marked_list cs at n (e ∷ es) = marked cs at n e ∷ marked_list cs at (n + count e) es

abbrev pub tokens_of_list : List Placed → ℕ → ℕ → List Expression → List Token
tokens_of_list cs at n [] = []
tokens_of_list cs at n (e ∷ es) = tokens cs at n e ++ tokens_of_list cs at (n + count e) es

abbrev pub marked_body : List Placed → ℕ → ℕ → Body → MarkedBody
marked_body cs at n (construct.resource r) = value (marked cs at n r.properties)
marked_body cs at n (construct.output o) = value (marked cs at n o.value)
marked_body cs at n (construct.lazy e) = value (marked cs at n e)
marked_body cs at n (construct.condition_body c) = operands (marked_list cs at n (operands_of c))
marked_body cs at n b = nothing

-- of the constructs from the number `at` on
abbrev pub marked_from : List Placed → ℕ → ℕ → List Placed → List MarkedBody
marked_from cs at n [] = []
marked_from cs at n (c ∷ rest) = marked_body cs at n c.body ∷ marked_from cs (at + 1) (n + count_in c.body) rest

abbrev pub tokens_from : List Placed → ℕ → ℕ → List Placed → List Token
tokens_from cs at n [] = []
tokens_from cs at n (c ∷ rest) = tokens_of_list cs at n (expressions_in c.body) ++ tokens_from cs (at + 1) (n + count_in c.body) rest

abbrev pub marking : List Placed → List MarkedBody
marking cs = marked_from cs 0 0 cs

abbrev pub tokens_of : List Placed → List Token
tokens_of cs = tokens_from cs 0 0 cs

-- ---- one marked value

abbrev pub value_in : MarkedBody → Option Data
value_in nothing = None
value_in (value d) = Some d
value_in (operands ds) = None

abbrev pub operand_in : ℕ → MarkedBody → Option Data
operand_in n nothing = None
operand_in n (value d) = None
operand_in n (operands ds) = slice_get ds n

-- the value of a resource's properties, an output or a lazy
abbrev pub value_at : List MarkedBody → ℕ → Option Data
value_at ms at = option_and_then value_in (slice_get ms at)

-- the operand of a condition, counted from 0
abbrev pub operand_at : List MarkedBody → ℕ → ℕ → Option Data
operand_at ms at n = option_and_then (operand_in n) (slice_get ms at)
