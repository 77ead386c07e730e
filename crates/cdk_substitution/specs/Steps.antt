-- Parts of what is read, put before the rest of it, and the variables of a text (own).
use Rattle.std.specs.Prelude.{◌≡◌, ℕ, List, [], ◌∷◌, Option, option_map}
use Rattle.std.specs.Option.{unwrap_or}
use Rattle.std.specs.Ordering.{nat_cmp}
use Rattle.std.specs.Cmp.Lexicographic.{slice_cmp}
use Rattle.std.specs.BTreeMap.{get_by}
use Rattle.cdk_language.specs.Application.{ref_of, find_field}
use Rattle.cdk_language.specs.Expression as expression
use Rattle.cdk_language.specs.Expression.{Expression, Expressions, Fields}
use Rattle.cdk_language.specs.Sub.{Piece, literal, name, attribute}
use Rattle.cdk_language.specs.declared.expression.Expr.{Expr}
use Rattle.cdk_substitution.specs.declared.variables.Variables.{Variables}

-- the expressions of es, before the rest
abbrev pub before : List Expr → Expressions → Expressions
before [] rest = rest
before (e ∷ es) rest = expression.expression (expression.view e) (before es rest)

-- a literal piece, before the rest; an empty one is none
abbrev pub literal_then : List ℕ → Expressions → Expressions
literal_then [] rest = rest
literal_then (x ∷ xs) rest = expression.expression (expression.text (x ∷ xs)) rest

abbrev pub variable_in : Variables → List ℕ → Option Expression
variable_in vs n = option_map (λ e. expression.view e.now) (get_by (λ k. slice_cmp nat_cmp n k.now) vs.expressions)

-- the variables are the fields
abbrev pub Have : Variables → Fields → Type 0
Have vs fs = (n : List ℕ) → variable_in vs n ≡ find_field n fs

-- what a piece of a text is, by the text's variables
abbrev pub piece_expression : Variables → Piece → Expression
piece_expression vs (literal s) = expression.text s
piece_expression vs (name x) = unwrap_or (variable_in vs x) (ref_of x)
piece_expression vs (attribute x a) = expression.get_att x a

-- a piece and the literal before it, before the rest
abbrev pub piece_then : Variables → List ℕ → Piece → Expressions → Expressions
piece_then vs s p rest = literal_then s (expression.expression (piece_expression vs p) rest)
