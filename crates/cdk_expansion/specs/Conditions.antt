-- The plain form of a condition, of its operands' plain forms (CloudFormation's condition functions).
use Rattle.std.specs.Prelude.{ℕ, ◌+◌, List, [], length}
use Rattle.std.specs.Option.{option_map_or}
use Rattle.cdk_language.specs.Condition as condition
use Rattle.cdk_language.specs.Condition.{Condition, Conditions}
use Rattle.cdk_language.specs.Construct.{Body}
use Rattle.cdk_plain.specs.Plain as plain
use Rattle.cdk_plain.specs.Plain.{Plain}
use Rattle.cdk_tokens.specs.Marking.{target}
use Rattle.cdk_tokens.specs.Token.{Token}
use Rattle.cdk_contexts.specs.Expressions.{operands_of}
use Rattle.cdk_tokens.specs.Whole.{MarkedBody, operand_at}
use Rattle.cdk_tree.specs.Placed.{Placed}
use Rattle.cdk_expansion.specs.Expanded.{plain_of}

-- `operand` tells each operand's plain form; those of the condition are numbered from n on, in written order
abbrev mutual
  pub condition_plain : List Placed → (ℕ → Plain) → ℕ → Condition → plain.Condition
  condition_plain cs operand n (condition.equals x y) = plain.equals (operand n) (operand (n + 1))
  condition_plain cs operand n (condition.all_of ds) = plain.all_of (conditions_plain cs operand n ds)
  condition_plain cs operand n (condition.any_of ds) = plain.any_of (conditions_plain cs operand n ds)
  condition_plain cs operand n (condition.negated d) = plain.negation (condition_plain cs operand n d)
  condition_plain cs operand n (condition.named t) = plain.named (target cs t)

  pub conditions_plain : List Placed → (ℕ → Plain) → ℕ → Conditions → plain.Conditions
  conditions_plain cs operand n condition.no_conditions = plain.no_conditions
  conditions_plain cs operand n (condition.condition d ds) =
      plain.condition (condition_plain cs operand n d) (conditions_plain cs operand (n + length (operands_of d)) ds)

-- that of the operand n of the condition `at`, where lazies are opened k times; one that isn't there is an empty text
abbrev pub operand_plain : ℕ → List Token → List MarkedBody → ℕ → ℕ → Plain
operand_plain k ts ms at n = option_map_or (plain_of k ts ms) (operand_at ms at n) (plain.text [])

-- that of the condition `at`
abbrev pub condition_of : ℕ → List Placed → List Token → List MarkedBody → ℕ → Condition → plain.Condition
condition_of k cs ts ms at c = condition_plain cs (operand_plain k ts ms at) 0 c
