-- The operands of a condition by their own expressions.
use Rattle.std.specs.Prelude.{ℕ, [], List, slice_get}
use Rattle.std.specs.Option.{option_map_or}
use Rattle.cdk_expansion.specs.Own.{own_of}
use Rattle.cdk_language.specs.Condition.{Condition}
use Rattle.cdk_plain.specs.Plain.{Plain, text}
use Rattle.cdk_contexts.specs.Expressions.{operands_of}
use Rattle.cdk_tree.specs.Placed.{Placed}

-- the plain form of the operand n of the condition `at`, where lazies are opened k times; one that isn't there is an empty text
abbrev pub operand_of : ℕ → List Placed → ℕ → Condition → ℕ → Plain
operand_of k cs at c n = option_map_or (own_of k cs at) (slice_get (operands_of c) n) (text [])
