-- With the homes of the one stack everything is rendered as the stack's own spellings give it.
use Rattle.std.proofs.Common.{◌≡◌, ℕ, List, [], length, Some, ap, sym, ◌∙◌, subst}
use Rattle.serde_json.specs.Data.{Data}
use Rattle.cdk_elements.specs.Elements.{own_condition, own_homes, own_value}
use Rattle.cdk_expansion.proofs.Joined.{marking_keeps_forms}
use Rattle.cdk_expansion.specs.Laws.{IsSound}
use Rattle.cdk_expansion.specs.Own.{value_in}
use Rattle.cdk_homes.specs.Homes.{Entry}
use Rattle.cdk_language.specs.Condition.{Condition}
use Rattle.cdk_language.specs.Construct.{Body, condition_body}
use Rattle.cdk_language.specs.Expression.{Expression}
use Rattle.cdk_lazies.specs.CycleFindings.{cycle_findings}
use Rattle.cdk_leaves.specs.Ready.{Scope, scope_of}
use Rattle.cdk_local_homes.proofs.LocalRenders.{local_homes_render, local_homes_render_conditions}
use Rattle.cdk_local_homes.specs.Local.{AreLocal}
use Rattle.cdk_plain.specs.Rendered.{rendered, rendered_condition}
use Rattle.cdk_premises.proofs.OwnForms.{condition_forms_are_own}
use Rattle.cdk_premises.specs.RenderedLaws.{ConditionRenderingsAreOwn, IsScopeOf, RenderingsAreOwn}
use Rattle.cdk_resolve.specs.Conditions.{IsBodyRendering}
use Rattle.cdk_spelling.specs.Spelled.{homes_for}
use Rattle.cdk_template.specs.Sources.{SpellsOwn}
use Rattle.cdk_tokens.specs.Token.{Token}
use Rattle.cdk_tokens.specs.Whole.{MarkedBody, marking, tokens_of, value_at}
use Rattle.cdk_tree.specs.Placed.{Placed, construct_at}
use Rattle.cdk_synthesis.specs.Checks.{AreMarksOf}

module _ (cs : List Placed) (sound : IsSound cs) (es : List Entry) (ts : List Token) (stack : ℕ) (tokens : ts ≡ tokens_of cs) (local_homes : AreLocal es cs ts stack) where
  are_local : AreLocal es cs (tokens_of cs) stack
  are_local = let P : List Token → Type 0 = λ us. AreLocal es cs us stack in subst P tokens local_homes

  value_spelled : (n : ℕ) (e : Expression) (d : Data) → value_in (construct_at cs n).body ≡ Some e → value_at (marking cs) n ≡ Some d
      → rendered (homes_for es stack) (own_value cs n e) ≡ rendered (own_homes cs) (own_value cs n e)
  value_spelled n e d is shown =
      let form = marking_keeps_forms cs sound (length cs) n e d is shown in
      ap (rendered (homes_for es stack)) (sym form) ∙ local_homes_render es cs (tokens_of cs) (marking cs) stack are_local (length cs) d ∙ ap (rendered (own_homes cs)) form

  condition_spelled : (n : ℕ) (c : Condition) → (construct_at cs n).body ≡ condition_body c
      → rendered_condition (homes_for es stack) (own_condition cs n c) ≡ rendered_condition (own_homes cs) (own_condition cs n c)
  condition_spelled n c is =
      let form = condition_forms_are_own cs sound (length cs) n c is in
      ap (rendered_condition (homes_for es stack)) (sym form) ∙ local_homes_render_conditions es cs (tokens_of cs) (marking cs) stack are_local (length cs) n c
      ∙ ap (rendered_condition (own_homes cs)) form

pub spells_own : RenderingsAreOwn → ConditionRenderingsAreOwn → (cs : List Placed) → IsSound cs → cycle_findings cs (tokens_of cs) (marking cs) ≡ []
    → (es : List Entry) (ms : List MarkedBody) (ts : List Token) (stack : ℕ) (order : List ℕ) → AreMarksOf cs ms ts → AreLocal es cs ts stack → SpellsOwn cs (scope_of ts ms (homes_for es stack) order)
spells_own of_values of_conditions cs sound none es ms ts stack order marks own =
    let s : Scope = scope_of ts ms (homes_for es stack) order in
    let of_tree : IsScopeOf s cs = record { tokens = marks.tokens; bodies = marks.marks } in
    record {
      values = λ n e d r is shown rendering. of_values cs sound none s of_tree n e d r is shown rendering ∙ value_spelled cs sound es ts stack marks.tokens own n e d is shown;
      conditions = λ n c r is rendering.
          let P : Body → Type 0 = λ b. IsBodyRendering s cs n b r in
          of_conditions cs sound none s of_tree n c r is (subst P is rendering) ∙ condition_spelled cs sound es ts stack marks.tokens own n c is;
    }
