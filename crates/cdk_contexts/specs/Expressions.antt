-- The expressions of a construct: the properties of a resource, the value of an output or lazy, or the operands of a condition.
use Rattle.std.specs.Prelude.{List, [], ◌∷◌, ◌++◌}
use Rattle.cdk_language.specs.Condition as condition
use Rattle.cdk_language.specs.Condition.{Condition, Conditions}
use Rattle.cdk_language.specs.Construct as construct
use Rattle.cdk_language.specs.Construct.{Body}
use Rattle.cdk_language.specs.Expression.{Expression}

-- the operands of a condition in written order
abbrev mutual
  pub operands_of : Condition → List Expression
  operands_of (condition.equals x y) = x ∷ y ∷ []
  operands_of (condition.all_of cs) = operands_of_all cs
  operands_of (condition.any_of cs) = operands_of_all cs
  operands_of (condition.negated c) = operands_of c
  operands_of (condition.named t) = []

  pub operands_of_all : Conditions → List Expression
  operands_of_all condition.no_conditions = []
  operands_of_all (condition.condition c cs) = operands_of c ++ operands_of_all cs

-- the expressions of a construct in written order
abbrev pub expressions_in : Body → List Expression
expressions_in (construct.resource r) = r.properties ∷ []
expressions_in (construct.output o) = o.value ∷ []
expressions_in (construct.lazy e) = e ∷ []
expressions_in (construct.condition_body c) = operands_of c
expressions_in b = []
