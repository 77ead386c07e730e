-- The conditions of a stack's template have the truth that they mean (own).
use Rattle.std.specs.Prelude.{◌≡◌, ◌≤◌, ℕ, List, length, map, false, Option}
use Rattle.serde_json.specs.Data.{Members}
use Rattle.cdk_eval.specs.Template.{Scope, outcome}
use Rattle.cdk_eval.specs.Conditions.{named_truth}
use Rattle.cdk_plain.specs.Plain.{Plain, Condition, IsWellCondition}
use Rattle.cdk_meaning.specs.Mentions.{operand_mentions, names_in}
use Rattle.cdk_meaning.specs.Source.{Source}
use Rattle.cdk_meaning.specs.Meaning.{text_in, meaning}
use Rattle.cdk_meaning.specs.Truth.{condition_meaning, truth_within, reaches}
use Rattle.cdk_meaning.specs.Agreement.{seen_truth}
use Rattle.cdk_plain.specs.Rendered.{Homes, rendered_condition}
use Rattle.cdk_meaning.specs.Kept.{Keeps, PseudosKept}
use Rattle.cdk_meaning.specs.Names.{AreDistinct, IsIn, Each}
use Rattle.cdk_meaning.specs.Sections.{IsSection}

-- The section has these conditions by their names.
abbrev pub IsConditionSection : Homes → (ℕ → Condition) → List ℕ → Members → Type 0
IsConditionSection h conditions ns ms = IsSection (λ c. h.condition c) (λ c. rendered_condition h (conditions c)) ns ms

-- The text of an operand at the condition that holds it.
abbrev pub operand_text : (ℕ → Source) → ℕ → Plain → Option (List ℕ)
operand_text src c e = text_in (meaning (src c) e)

-- The conditions have names of their own and name no others, they are well formed and what their operands mention stands in the
-- template, and none reaches itself.
pub record AreStackConditions (src : ℕ → Source) (h : Homes) (t : Scope) (conditions : ℕ → Condition) (ns : List ℕ) : Type 0 where
  pub distinct : AreDistinct (map (λ c. h.condition c) ns)
  pub closed : Each (λ c. Each (λ d. IsIn d ns) (names_in (conditions c))) ns
  pub well : Each (λ c. IsWellCondition (conditions c)) ns
  pub pseudos : Each (λ c. PseudosKept (src c) t) ns
  pub kept : Each (λ c. Keeps (src c) h t (operand_mentions (conditions c))) ns
  pub free : Each (λ c. reaches conditions (length ns) c c ≡ false) ns

abbrev pub ConditionsKeepTruth : Type 0
ConditionsKeepTruth =
    (src : ℕ → Source) (h : Homes) (t : Scope) (conditions : ℕ → Condition) (ns : List ℕ) → AreStackConditions src h t conditions ns
    → (ms : Members) → IsConditionSection h conditions ns ms
    → (n c : ℕ) → length ns ≤ n → IsIn c ns
    → seen_truth (named_truth (outcome t) ms (h.condition c)) ≡ truth_within (operand_text src) conditions n c

-- And the truth of each is what its condition means by the truths of those that it names: the bound is no part of the meaning.
abbrev pub TruthIsFixed : Type 0
TruthIsFixed =
    (src : ℕ → Source) (h : Homes) (t : Scope) (conditions : ℕ → Condition) (ns : List ℕ) → AreStackConditions src h t conditions ns
    → (n m c : ℕ) → length ns ≤ n → length ns ≤ m → IsIn c ns
    → truth_within (operand_text src) conditions n c ≡ condition_meaning (operand_text src c) (truth_within (operand_text src) conditions m) (conditions c)
