-- The forms that may stand in an operand of a condition (CloudFormation's condition functions): no attribute, no If, no import, no
-- Lazy, and no `AWS::NoValue`. Which targets a `Ref` may have in it, the check of targets tells.
use Rattle.std.specs.Prelude.{List, ⊤}
use Rattle.cdk_expansion.specs.Own.{operands_in}
use Rattle.cdk_language.specs.Construct.{Body}
use Rattle.cdk_language.specs.Expression as expression
use Rattle.cdk_language.specs.Expression.{Expression, Expressions, Fields}
use Rattle.cdk_language.specs.declared.expression.Pseudo.{Pseudo}
use Rattle.cdk_language.specs.declared.expression.Pseudo.TheVariants as pseudos
use Rattle.cdk_meaning.specs.Names.{Each}
use Rattle.cdk_tree.specs.Placed.{Placed}

-- it has a value
abbrev pub IsValued : Pseudo → Type 0
IsValued pseudos.NoValue = ⊥
IsValued p = ⊤

abbrev mutual
  pub IsPlainOperand : Expression → Type 0
  IsPlainOperand (expression.text s) = ⊤
  IsPlainOperand (expression.whole z) = ⊤
  IsPlainOperand (expression.truth b) = ⊤
  IsPlainOperand (expression.list es) = ArePlainOperands es
  IsPlainOperand (expression.object fs) = FieldsArePlainOperands fs
  IsPlainOperand (expression.pseudo p) = IsValued p
  IsPlainOperand (expression.ref t) = ⊤
  IsPlainOperand (expression.get_att t a) = ⊥
  IsPlainOperand (expression.concat es) = ArePlainOperands es
  IsPlainOperand (expression.join d e) = IsPlainOperand e
  IsPlainOperand (expression.select i e) = IsPlainOperand e
  IsPlainOperand (expression.split d e) = IsPlainOperand e
  IsPlainOperand (expression.choice c x y) = ⊥
  IsPlainOperand (expression.find_in_map m x y) = IsPlainOperand x × IsPlainOperand y
  IsPlainOperand (expression.import_value t) = ⊥
  IsPlainOperand (expression.context k d) = ⊤
  IsPlainOperand (expression.lazy t) = ⊥

  pub ArePlainOperands : Expressions → Type 0
  ArePlainOperands expression.no_expressions = ⊤
  ArePlainOperands (expression.expression e es) = IsPlainOperand e × ArePlainOperands es

  pub FieldsArePlainOperands : Fields → Type 0
  FieldsArePlainOperands expression.no_fields = ⊤
  FieldsArePlainOperands (expression.field k e fs) = IsPlainOperand e × FieldsArePlainOperands fs

abbrev pub HasPlainOperands : Body → Type 0
HasPlainOperands b = Each IsPlainOperand (operands_in b)

-- of all constructs
abbrev pub OperandsArePlain : List Placed → Type 0
OperandsArePlain cs = Each (λ c. HasPlainOperands c.body) cs
