-- The template JSON of conditions.
use Rattle.std.specs.Prelude.{◌≡◌, ◌≤◌, ℕ, List, length, codes}
use Rattle.serde_json.specs.Data.{Data, Items}
use Rattle.cdk_expansion.specs.Conditions.{condition_of, condition_plain, conditions_plain, operand_plain}
use Rattle.cdk_language.specs.Condition.{Condition, Conditions}
use Rattle.cdk_language.specs.Construct as construct
use Rattle.cdk_language.specs.Construct.{Body}
use Rattle.cdk_leaves.specs.Ready.{Scope}
use Rattle.cdk_plain.specs.Rendered.{one, rendered, rendered_condition, rendered_conditions, two}
use Rattle.cdk_tree.specs.Placed.{Placed}

-- that of the operand n of the condition `at`
abbrev pub IsOperandRendering : Scope → ℕ → ℕ → Data → Type 0
IsOperandRendering s at n r = (k : ℕ) → length s.order ≤ k → r ≡ rendered s.homes (operand_plain k s.tokens s.bodies at n)

abbrev pub equals_in : Data → Data → Data
equals_in x y = one (codes "Fn::Equals") (two x y)

-- that of a part of the condition `at`, whose operands are numbered from n on
abbrev pub IsPartRendering : Scope → List Placed → ℕ → ℕ → Condition → Data → Type 0
IsPartRendering s cs at n c r = (k : ℕ) → length s.order ≤ k → r ≡ rendered_condition s.homes (condition_plain cs (operand_plain k s.tokens s.bodies at) n c)

abbrev pub ArePartRenderings : Scope → List Placed → ℕ → ℕ → Conditions → Items → Type 0
ArePartRenderings s cs at n ds rs = (k : ℕ) → length s.order ≤ k → rs ≡ rendered_conditions s.homes (conditions_plain cs (operand_plain k s.tokens s.bodies at) n ds)

-- that of the condition `at`
abbrev pub IsConditionRendering : Scope → List Placed → ℕ → Condition → Data → Type 0
IsConditionRendering s cs at c r = (k : ℕ) → length s.order ≤ k → r ≡ rendered_condition s.homes (condition_of k cs s.tokens s.bodies at c)

abbrev pub IsBodyRendering : Scope → List Placed → ℕ → Body → Data → Type 0
IsBodyRendering s cs at (construct.condition_body c) r = IsConditionRendering s cs at c r
IsBodyRendering s cs at b r = Unit {0}
