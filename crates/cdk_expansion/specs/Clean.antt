-- What the reader has found of expressions and contexts: in no text does a marker begin, whole numbers have 64 bits, no context is
-- null, and no array or object is a piece of a Concat.
use Rattle.std.specs.Prelude.{◌≡◌, ◌<◌, ◌&&◌, ℕ, List, [], ◌∷◌, length, Bool, true, false, not, ⊤}
use Rattle.std.specs.Option.{option_map_or}
use Rattle.serde_json.specs.Data.{Data, null, boolean, number, string, array, object}
use Rattle.serde_json.specs.Find.{of_integer}
use Rattle.cdk_base.specs.Json.{is_whole}
use Rattle.cdk_base.specs.Marker.{has_marker, holds_marker}
use Rattle.cdk_language.specs.Expression as expression
use Rattle.cdk_language.specs.Expression.{Expression, Expressions, Fields}
use Rattle.cdk_tree.specs.Placed.{Placed, construct_at, found_value}
use Rattle.cdk_contexts.specs.Expressions.{expressions_in}

-- no array or object as it is written
abbrev pub IsNoCollection : Expression → Type 0
IsNoCollection (expression.list es) = ⊥
IsNoCollection (expression.object fs) = ⊥
IsNoCollection e = ⊤

-- no null, no number that isn't whole of 64 bits; what stands in arrays and objects isn't looked at
abbrev pub is_literal : Data → Bool
is_literal null = false
is_literal (boolean b) = true
is_literal (number n) = is_whole n
is_literal (string s) = true
is_literal (array ds) = true
is_literal (object ms) = true

-- what a context may be
abbrev pub is_clean_value : Data → Bool
is_clean_value d = is_literal d && not (holds_marker d)

abbrev mutual
  pub IsClean : List Placed → ℕ → Expression → Type 0
  IsClean cs at (expression.text s) = has_marker s ≡ false
  IsClean cs at (expression.whole z) = is_whole (of_integer z) ≡ true
  IsClean cs at (expression.list es) = AreClean cs at es
  IsClean cs at (expression.object fs) = FieldsAreClean cs at fs
  IsClean cs at (expression.concat es) = PiecesAreClean cs at es
  IsClean cs at (expression.join d e) = IsClean cs at e
  IsClean cs at (expression.select i e) = IsClean cs at e
  IsClean cs at (expression.split d e) = IsClean cs at e
  IsClean cs at (expression.choice c x y) = IsClean cs at x × IsClean cs at y
  IsClean cs at (expression.find_in_map m x y) = IsClean cs at x × IsClean cs at y
  IsClean cs at (expression.context k d) = option_map_or is_clean_value (found_value (construct_at cs at).contexts k d) true ≡ true
  IsClean cs at e = ⊤

  pub AreClean : List Placed → ℕ → Expressions → Type 0
  AreClean cs at expression.no_expressions = ⊤
  AreClean cs at (expression.expression e es) = IsClean cs at e × AreClean cs at es

  pub FieldsAreClean : List Placed → ℕ → Fields → Type 0
  FieldsAreClean cs at expression.no_fields = ⊤
  FieldsAreClean cs at (expression.field k e fs) = IsClean cs at e × FieldsAreClean cs at fs

  pub PiecesAreClean : List Placed → ℕ → Expressions → Type 0
  PiecesAreClean cs at expression.no_expressions = ⊤
  PiecesAreClean cs at (expression.expression e es) = IsNoCollection e × IsClean cs at e × PiecesAreClean cs at es

abbrev pub ListIsClean : List Placed → ℕ → List Expression → Type 0
ListIsClean cs at [] = ⊤
ListIsClean cs at (e ∷ es) = IsClean cs at e × ListIsClean cs at es

-- of all constructs
abbrev pub TreeIsClean : List Placed → Type 0
TreeIsClean cs = (n : ℕ) → n < length cs → ListIsClean cs n (expressions_in (construct_at cs n).body)
