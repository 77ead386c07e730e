-- What an expression is, without where it lies in memory (CloudFormation's intrinsic functions; Concat, Context and Lazy are our own).
use Rattle.std.specs.Prelude.{ℕ, ℤ, List, [], ◌∷◌, map, Bool, Option, option_map}
use Rattle.serde_json.specs.Data.{Data}
use Rattle.serde_json.specs.View as json
use Rattle.cdk_language.specs.declared.expression.Expr.{Expr, fold-Expr}
use Rattle.cdk_language.specs.declared.expression.Expr.TheOpen.{Expr-F, Field-F}
use Rattle.cdk_language.specs.declared.expression.Field.{Field, fold-Field}
use Rattle.cdk_language.specs.declared.expression.Pseudo.{Pseudo}

mutual
  -- each form with its arguments in written order; texts are their bytes in UTF-8
  pub data Expression : Type 0 where
    text : List ℕ → Expression
    whole : ℤ → Expression
    truth : Bool → Expression
    list : Expressions → Expression
    object : Fields → Expression
    pseudo : Pseudo → Expression
    ref : List ℕ → Expression
    get_att : List ℕ → List ℕ → Expression
    concat : Expressions → Expression
    join : List ℕ → Expression → Expression
    select : ℕ → Expression → Expression
    split : List ℕ → Expression → Expression
    choice : List ℕ → Expression → Expression → Expression
    find_in_map : List ℕ → Expression → Expression → Expression
    import_value : List ℕ → Expression
    context : List ℕ → Option Data → Expression
    lazy : List ℕ → Expression

  pub data Expressions : Type 0 where
    no_expressions : Expressions
    expression : Expression → Expressions → Expressions

  pub data Fields : Type 0 where
    no_fields : Fields
    field : List ℕ → Expression → Fields → Fields

-- ---- the expression that an `Expr` stands for

abbrev pub expressions_of : List Expression → Expressions
expressions_of [] = no_expressions
expressions_of (e ∷ es) = expression e (expressions_of es)

abbrev pub fields_of : List (List ℕ × Expression) → Fields
fields_of [] = no_fields
fields_of (f ∷ fs) = field f.0 f.1 (fields_of fs)

-- one level, with each expression inside already seen
abbrev pub expression_step : Expr-F Expression (List ℕ × Expression) → Expression
expression_step (Expr-F.Text t) = text t
expression_step (Expr-F.Whole n) = whole n
expression_step (Expr-F.Truth b) = truth b
expression_step (Expr-F.List xs) = list (expressions_of xs)
expression_step (Expr-F.Object fs) = object (fields_of fs)
expression_step (Expr-F.Pseudo p) = pseudo p
expression_step (Expr-F.Ref t) = ref t
expression_step (Expr-F.GetAtt t a) = get_att t a
expression_step (Expr-F.Concat xs) = concat (expressions_of xs)
expression_step (Expr-F.Join d l) = join d l.value
expression_step (Expr-F.Select n l) = select n l.value
expression_step (Expr-F.Split d x) = split d x.value
expression_step (Expr-F.If c x y) = choice c x.value y.value
expression_step (Expr-F.FindInMap m x y) = find_in_map m x.value y.value
expression_step (Expr-F.ImportValue t) = import_value t
expression_step (Expr-F.Context k d) = context k (option_map json.view d)
expression_step (Expr-F.Lazy t) = lazy t

abbrev pub field_step : Field-F Expression (List ℕ × Expression) → List ℕ × Expression
field_step f = (f.key, f.value)

abbrev pub view : Expr → Expression
view = fold-Expr Expression (List ℕ × Expression) expression_step field_step

abbrev pub field_view : Field → List ℕ × Expression
field_view = fold-Field Expression (List ℕ × Expression) expression_step field_step

abbrev pub expressions_view : List Expr → Expressions
expressions_view es = expressions_of (map view es)

abbrev pub fields_view : List Field → Fields
fields_view fs = fields_of (map field_view fs)
