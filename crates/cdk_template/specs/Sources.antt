-- What templates are made of, and what it has to be for the one stack's template.
use Rattle.std.specs.Prelude.{◌≡◌, ℕ, List, Some}
use Rattle.serde_json.specs.Data.{Data}
use Rattle.cdk_elements.specs.Elements.{own_condition, own_homes, own_value}
use Rattle.cdk_expansion.specs.Own.{value_in}
use Rattle.cdk_homes.specs.Kept.{entries_in}
use Rattle.cdk_keeping.specs.Keeping.{IsRendering}
use Rattle.cdk_language.specs.Condition.{Condition}
use Rattle.cdk_language.specs.Construct.{condition_body}
use Rattle.cdk_language.specs.Expression.{Expression}
use Rattle.cdk_leaves.specs.Ready.{IsReady, Scope, scope_of}
use Rattle.cdk_plain.specs.Rendered.{rendered, rendered_condition}
use Rattle.cdk_resolve.specs.Conditions.{IsBodyRendering}
use Rattle.cdk_resolve.specs.KeptView.{IsRight, kept_scope}
use Rattle.cdk_resolve.specs.declared.kept.Kept.{Kept}
use Rattle.cdk_spelling.specs.Spelled.{homes_for}
use Rattle.cdk_stacks.specs.Made.{AreNamesOf}
use Rattle.cdk_tokens.specs.TableView.{marked_in, tokens_in}
use Rattle.cdk_tokens.specs.Whole.{marking, tokens_of, value_at}
use Rattle.cdk_tree.specs.Placed.{Placed, construct_at}
use Rattle.cdk_tree.specs.TreeView.{constructs}
use Rattle.cdk_template.specs.declared.sources.Sources.{Sources}

abbrev pub constructs_in : Sources → List Placed
constructs_in s = constructs s.tree.now

-- that which a stack's values are rendered in
abbrev pub scope_in : Sources → ℕ → Scope
scope_in s stack = scope_of (tokens_in s.table.now) (marked_in s.marked.now) (homes_for (entries_in s.homes.now) stack) s.order.now

-- the names, the marked values and the tokens are the tree's own, and the lazies are ready for rendering
pub record AreSources (s : Sources) : Type 0 where
  pub named : AreNamesOf s.names.now (constructs_in s)
  pub marks : marked_in s.marked.now ≡ marking (constructs_in s)
  pub tokens : tokens_in s.table.now ≡ tokens_of (constructs_in s)
  pub ready : IsReady (tokens_in s.table.now) (marked_in s.marked.now) s.order.now

-- In the scope each marked value and each condition is rendered as the one stack spells it itself.
pub record SpellsOwn (cs : List Placed) (s : Scope) : Type 0 where
  pub values : (n : ℕ) (e : Expression) (d r : Data) → value_in (construct_at cs n).body ≡ Some e → value_at (marking cs) n ≡ Some d → IsRendering s d r → r ≡ rendered (own_homes cs) (own_value cs n e)
  pub conditions : (n : ℕ) (c : Condition) (r : Data) → (construct_at cs n).body ≡ condition_body c → IsBodyRendering s cs n (construct_at cs n).body r → r ≡ rendered_condition (own_homes cs) (own_condition cs n c)

-- so it is in that of the `Kept`, which is right
pub record RendersOwn (cs : List Placed) (k : Kept) : Type 0 where
  pub right : IsRight k
  pub own : SpellsOwn cs (kept_scope k)
