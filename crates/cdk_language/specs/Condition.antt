-- What the expression of a condition is, without where it lies in memory (CloudFormation's condition functions).
use Rattle.std.specs.Prelude.{ℕ, List, [], ◌∷◌, map}
use Rattle.cdk_language.specs.Expression as expression
use Rattle.cdk_language.specs.Expression.{Expression}
use Rattle.cdk_language.specs.declared.condition.Cond.{Cond, fold-Cond}
use Rattle.cdk_language.specs.declared.condition.Cond.TheOpen.{Cond-F}

mutual
  pub data Condition : Type 0 where
    equals : Expression → Expression → Condition
    all_of : Conditions → Condition
    any_of : Conditions → Condition
    negated : Condition → Condition
    named : List ℕ → Condition

  pub data Conditions : Type 0 where
    no_conditions : Conditions
    condition : Condition → Conditions → Conditions

-- ---- the condition that a `Cond` stands for

abbrev pub conditions_of : List Condition → Conditions
conditions_of [] = no_conditions
conditions_of (c ∷ cs) = condition c (conditions_of cs)

abbrev pub condition_step : Cond-F Condition → Condition
condition_step (Cond-F.Equals x y) = equals (expression.view x) (expression.view y)
condition_step (Cond-F.And cs) = all_of (conditions_of cs)
condition_step (Cond-F.Or cs) = any_of (conditions_of cs)
condition_step (Cond-F.Not c) = negated c.value
condition_step (Cond-F.Named t) = named t

abbrev pub view : Cond → Condition
view = fold-Cond Condition condition_step

abbrev pub conditions_view : List Cond → Conditions
conditions_view cs = conditions_of (map view cs)
