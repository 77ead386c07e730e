-- What is rendered in any scope of the application is the template JSON of its own expressions and conditions.
use Rattle.std.proofs.Common.{◌≤◌, ℕ, List, length, max, ap, ap₂, ◌∙◌, arith}
use Rattle.cdk_expansion.specs.Conditions.{condition_of}
use Rattle.cdk_expansion.specs.Expanded.{plain_of}
use Rattle.cdk_graphs.specs.Loops.{LoopsAreFound}
use Rattle.cdk_plain.specs.Rendered.{rendered, rendered_condition}
use Rattle.cdk_premises.proofs.LazyNumbers.{lazy_count-low}
use Rattle.cdk_premises.proofs.OwnForms.{condition_is_own, value_is_own}
use Rattle.cdk_premises.specs.RenderedLaws.{ConditionRenderingsAreOwn, RenderingsAreOwn}
use Rattle.cdk_value_measures.specs.Constructs.{lazy_count}
use Rattle.cdk_tree.specs.Placed.{Placed}

-- often enough for the order and for the lazies
most : (order : List ℕ) (cs : List Placed) → lazy_count cs ≤ max (length order) (length cs)
most order cs = let low = lazy_count-low cs in omega (arith, low)

pub renderings_are_own : LoopsAreFound → RenderingsAreOwn
renderings_are_own found cs sound none s of n e d r is shown rendering =
    let k : ℕ = max (length s.order) (length cs) in
    rendering k (omega arith)
    ∙ ap₂ (λ ts ms. rendered s.homes (plain_of k ts ms d)) of.tokens of.bodies
    ∙ ap (rendered s.homes) (value_is_own found cs sound none k n e d (most s.order cs) is shown)

pub condition_renderings_are_own : LoopsAreFound → ConditionRenderingsAreOwn
condition_renderings_are_own found cs sound none s of n c r is rendering =
    let k : ℕ = max (length s.order) (length cs) in
    rendering k (omega arith)
    ∙ ap₂ (λ ts ms. rendered_condition s.homes (condition_of k cs ts ms n c)) of.tokens of.bodies
    ∙ ap (rendered_condition s.homes) (condition_is_own found cs sound none k n c (most s.order cs) is)
