-- The laws that join marked values with the expressions that they were marked from.
use Rattle.std.specs.Prelude.{◌≡◌, ◌<◌, ◌^◌, ℕ, List, [], length, slice_get, Some}
use Rattle.serde_json.specs.Data.{Data}
use Rattle.cdk_language.specs.Expression.{Expression}
use Rattle.cdk_plain.specs.Plain.{Plain}
use Rattle.cdk_tree.specs.Expected.{target_findings}
use Rattle.cdk_tree.specs.Placed.{Placed, construct_at}
use Rattle.cdk_contexts.specs.Contexts.{context_findings}
use Rattle.cdk_tokens.specs.Marking.{marked}
use Rattle.cdk_contexts.specs.Expressions.{expressions_in}
use Rattle.cdk_tokens.specs.Whole.{marking, operand_at, tokens_of, value_at}
use Rattle.cdk_expansion.specs.Clean.{TreeIsClean}
use Rattle.cdk_expansion.specs.Expanded.{Known, plain_of, value_plain}
use Rattle.cdk_expansion.specs.Knows.{Knows}
use Rattle.cdk_expansion.specs.Own.{operands_in, own, own_of, value_in}
use Rattle.cdk_expansion.specs.Right.{IsRight, ListIsRight}

-- an application that was read without a finding, with right targets and contexts, and with fewer than 2^64 tokens
pub record IsSound (cs : List Placed) : Type 0 where
  pub clean : TreeIsClean cs
  pub targets : target_findings cs ≡ []
  pub contexts : context_findings cs ≡ []
  pub few : length (tokens_of cs) < 2 ^ 64

-- each of its expressions is right
abbrev pub SoundIsRight : Type 0
SoundIsRight = (cs : List Placed) → IsSound cs → (at : ℕ) → at < length cs → ListIsRight cs at (expressions_in (construct_at cs at).body)

-- A marked value has the plain form of its expression, where its tokens are known.
abbrev pub MarkedIsOwn : Type 0
MarkedIsOwn = (known : Known) (lazies : ℕ → Plain) (cs : List Placed) (at n : ℕ) (e : Expression)
    → IsRight cs at e → Knows known lazies cs at n e → value_plain known (marked cs at n e) ≡ own lazies cs at e

-- The marked value of a construct has the plain form of the expression that it was marked from, however often lazies are opened.
abbrev pub MarkingKeepsForms : Type 0
MarkingKeepsForms = (cs : List Placed) → IsSound cs → (k at : ℕ) (e : Expression) (d : Data)
    → value_in (construct_at cs at).body ≡ Some e → value_at (marking cs) at ≡ Some d → plain_of k (tokens_of cs) (marking cs) d ≡ own_of k cs at e

-- and so has each operand of a condition
abbrev pub MarkingKeepsOperands : Type 0
MarkingKeepsOperands = (cs : List Placed) → IsSound cs → (k at n : ℕ) (e : Expression) (d : Data)
    → slice_get (operands_in (construct_at cs at).body) n ≡ Some e → operand_at (marking cs) at n ≡ Some d → plain_of k (tokens_of cs) (marking cs) d ≡ own_of k cs at e
