use Rattle.std.proofs.Common.{◌≡◌, ℕ, List, [], ◌∷◌, true, sym, subst, ap, ◌∙◌, inl, inr}
use Rattle.std.proofs.lemmas.Result.{IfOk-weaker}
use Rattle.serde_json.specs.View.{view, members_view}
use Rattle.cdk_eval.specs.Reach.{IsIn}
use Rattle.cdk_eval.specs.Template.{outcome}
use Rattle.cdk_scopes.specs.Scopes.{scope_view}
use Rattle.cdk_conditions.specs.Kept.{texts_of, is_kept}
use Rattle.cdk_conditions.specs.Walks.{members_of, IsWalk}
use Rattle.cdk_conditions.specs.Closing.{KeepsLoops, KeepsTruth}
use Rattle.cdk_conditions.proofs.Loops.{first_in, first_none}
use Rattle.cdk_conditions.proofs.Walking.{closed, closed_loops, closed_one, closed_none}
use Rattle.cdk_conditions.proofs.order.close.Goals as goal

pub returns-then-group-clause-walk : goal.returns-then-group-clause-walk
returns-then-group-clause-walk c =
    let op = outcome (scope_view c.args.scope.now) in
    let cs = members_view c.args.conditions.now.entries in
    let ts = c.args.truths.now in
    let us = c.keep_loops.new.truths in
    let w = c.args.walk.now in
    let g = c.args.group.now in
    let walk = c.requires.walk in
    let done = c.requires.done in
    let P = KeepsLoops (texts_of c.as_slice-members.result.now) ts us in
    let keeps = λ (k : P). closed_loops op cs ts us w g walk done c.if-group.true (subst (λ ns. KeepsLoops ns ts us) (ap texts_of c.as_slice-members.ensures) k) in
    IfOk-weaker c.keep_loops.result (λ _. P) (λ _. IsWalk op cs us w) (λ _ k. closed op cs ts us w g walk done (members_of g) (λ n i. i) (λ n i. i) (keeps k)) c.keep_loops.ensures

pub returns-then-group-clause-kept : goal.returns-then-group-clause-kept
returns-then-group-clause-kept c =
    let op = outcome (scope_view c.args.scope.now) in
    let cs = members_view c.args.conditions.now.entries in
    let ts = c.args.truths.now in
    let us = c.keep_loops.new.truths in
    let w = c.args.walk.now in
    let g = c.args.group.now in
    let walk = c.requires.walk in
    let done = c.requires.done in
    let P = KeepsLoops (texts_of c.as_slice-members.result.now) ts us in
    let keeps = λ (k : P). closed_loops op cs ts us w g walk done c.if-group.true (subst (λ ns. KeepsLoops ns ts us) (ap texts_of c.as_slice-members.ensures) k) in
    IfOk-weaker c.keep_loops.result (λ _. P) (λ _. (n : List ℕ) → is_kept ts n ≡ true → is_kept us n ≡ true) (λ _ k. (keeps k).kept) c.keep_loops.ensures

pub returns-in_default-clause-walk : goal.returns-in_default-clause-walk
returns-in_default-clause-walk c =
    let none = sym c.as_slice-members.ensures ∙ first_none c.as_slice-members.result.now c.in_default.ensures.value in
    closed_none (outcome (scope_view c.args.scope.now)) (members_view c.args.conditions.now.entries) c.args.truths.now c.args.truths.now c.args.walk.now c.args.group.now c.requires.walk c.requires.done none

pub returns-in_default-condition_at-clause-walk : goal.returns-in_default-condition_at-clause-walk
returns-in_default-condition_at-clause-walk c =
    let name = c.in-Some.name.now.now in
    let here : IsIn name (members_of c.args.group.now) = subst (λ ns. IsIn name (texts_of ns)) c.as_slice-members.ensures (first_in c.as_slice-members.result.now c.in-Some.name.now c.in-Some.ensures.value) in
    absurd (c.requires.walk.stacked.0.part.unsettled name here (inr (sym c.in_default-condition_at.ensures)))

pub returns-clause-walk : goal.returns-clause-walk
returns-clause-walk c =
    let op = outcome (scope_view c.args.scope.now) in
    let cs = members_view c.args.conditions.now.entries in
    let ts = c.args.truths.now in
    let us = c.keep_truth.new.truths in
    let w = c.args.walk.now in
    let g = c.args.group.now in
    let walk = c.requires.walk in
    let done = c.requires.done in
    let name = c.in-Some.name.now.now in
    let condition = view c.in-Some-condition_at.condition.now in
    let P = KeepsTruth op name condition ts us in
    let here : IsIn name (members_of g) = subst (λ ns. IsIn name (texts_of ns)) c.as_slice-members.ensures (first_in c.as_slice-members.result.now c.in-Some.name.now c.in-Some.ensures.value) in
    let keeps = λ (k : P). closed_one op cs ts us w g walk done c.if-group.false name condition here (sym c.in-Some-condition_at.ensures) k in
    let inside = λ (n : List ℕ) (i : IsIn n (name ∷ [])). let Q : IsIn n (members_of g) = elim i [ inl e ↦ subst (λ (m : List ℕ). IsIn m (members_of g)) e here | inr j ↦ absurd j ] in Q in
    let outside = λ (n : List ℕ) (i : IsIn n (members_of g)). inl (walk.stacked.0.single c.if-group.false name n here i) in
    IfOk-weaker c.keep_truth.result (λ _. P) (λ _. IsWalk op cs us w) (λ _ k. closed op cs ts us w g walk done (name ∷ []) inside outside (keeps k)) c.keep_truth.ensures

pub returns-clause-kept : goal.returns-clause-kept
returns-clause-kept c =
    let op = outcome (scope_view c.args.scope.now) in
    let cs = members_view c.args.conditions.now.entries in
    let ts = c.args.truths.now in
    let us = c.keep_truth.new.truths in
    let w = c.args.walk.now in
    let g = c.args.group.now in
    let walk = c.requires.walk in
    let done = c.requires.done in
    let name = c.in-Some.name.now.now in
    let condition = view c.in-Some-condition_at.condition.now in
    let P = KeepsTruth op name condition ts us in
    let here : IsIn name (members_of g) = subst (λ ns. IsIn name (texts_of ns)) c.as_slice-members.ensures (first_in c.as_slice-members.result.now c.in-Some.name.now c.in-Some.ensures.value) in
    let keeps = λ (k : P). closed_one op cs ts us w g walk done c.if-group.false name condition here (sym c.in-Some-condition_at.ensures) k in
    IfOk-weaker c.keep_truth.result (λ _. P) (λ _. (n : List ℕ) → is_kept ts n ≡ true → is_kept us n ≡ true) (λ _ k. (keeps k).kept) c.keep_truth.ensures
