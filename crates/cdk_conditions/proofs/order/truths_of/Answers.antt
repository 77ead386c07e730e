use Rattle.std.proofs.Common.{◌≡◌, List, ℕ, true, ap, ◌∙◌, subst, inl, inr, string_bytes}
use Rattle.std.specs.Prelude.{◌⊎◌, is_some}
use Rattle.serde_json.specs.Find.{get_member}
use Rattle.serde_json.specs.View.{view, members_view}
use Rattle.cdk_eval.specs.Conditions.{named_truth}
use Rattle.cdk_eval.specs.Sections.{operand_scope}
use Rattle.cdk_eval.specs.Template.{outcome}
use Rattle.cdk_eval.specs.Views.{values_view}
use Rattle.cdk_conditions.specs.Kept.{is_kept, IsSettled}
use Rattle.cdk_conditions.proofs.Settled.{next_key, all_settled, kept_alike, kept_there}
use Rattle.cdk_conditions.proofs.order.truths_of.Goals as goal

pub loop-name-preserved : goal.loop-name-preserved
loop-name-preserved c =
    let l = c.loop-name in
    let cs = members_view c.in-Some.conditions.now.entries in
    let was = c.in_ok-settle.ensures in
    let key = string_bytes c.in-Some-2.name.now in
    let rest = members_view c.next.new.self in
    let new = c.settle.new.truths in
    let settled : IsSettled cs new key = subst (IsSettled cs new) c.as_str.ensures.value was.settled in
    let here = λ (n : List ℕ) (there : is_some (get_member n cs) ≡ true) (k : (key ≡ n) ⊎ (is_some (get_member n rest) ≡ true)).
    let P : (is_kept new n ≡ true) ⊎ (is_some (get_member n rest) ≡ true) = elim k [ inl e ↦ inl (kept_there cs new n there (subst (IsSettled cs new) e settled)) | inr m ↦ inr m ] in P in
    let old = λ (n : List ℕ) (there : is_some (get_member n cs) ≡ true) (k : (is_kept l.truths n ≡ true) ⊎ (is_some (get_member n (members_view l.name-iterator)) ≡ true)).
    let P : (is_kept new n ≡ true) ⊎ (is_some (get_member n rest) ≡ true) = elim k [
      | inl e ↦ inl (was.kept n e)
      | inr m ↦ here n there (next_key n key (view c.in-Some-2._condition.now) rest (subst (λ es. is_some (get_member n (members_view es)) ≡ true) c.in-Some-2.ensures.steps m))
    ] in P in
    (was.right, was.closed, λ n h. old n h (l.invariant.2 n h))

pub returns : goal.returns
returns c n =
    let l = c.loop-name in
    let op = outcome (operand_scope (values_view c.args.values.now) c.args.stack.now (view c.args.template.now)) in
    let cs = members_view c.in-Some.conditions.now.entries in
    kept_alike op cs l.truths l.invariant.0 n (all_settled cs l.truths n (λ h. subst (λ es. (is_kept l.truths n ≡ true) ⊎ (is_some (get_member n (members_view es)) ≡ true)) c.in-None.ensures.steps.0 (l.invariant.2 n h)))
    ∙ ap (λ ms. named_truth op ms n) c.in-Some.ensures
