use Rattle.std.proofs.Common.{◌≡◌, [], ◌++◌, map, ap, ◌∙◌, append-nil, subst, string_bytes}
use Rattle.serde_json.specs.View.{view, members_view}
use Rattle.cdk_eval.specs.Manifest.{AreApart}
use Rattle.cdk_artifacts.specs.Found.{has_name, is_stack, stack_view, stack_by, stack_onto, stacks_by}
use Rattle.cdk_artifacts.proofs.Apart.{stacks_apart}
use Rattle.cdk_artifacts.proofs.Onward.{moved, one_split}
use Rattle.cdk_artifacts.proofs.stacks.stacks_by.Goals as goal

pub loop-id-preserved : goal.loop-id-preserved
loop-id-preserved c =
    let l = c.loop-id in
    let known = has_name c.args.ids.now in
    let a = view c.in-Some.artifact.now in
    let key = string_bytes c.in-Some.id.now in
    let rest = stacks_by known (members_view c.next.new.self) in
    let split = ap (λ es. stacks_by known (members_view es)) c.in-Some.ensures.steps ∙ one_split (is_stack a) (stack_by known key a) rest in
    (tt, tt, moved _ _ _ _ _ rest l.invariant.2 split (c.in_ok-push_stack.ensures ∙ ap (λ k. map stack_view l.stacks.items ++ stack_onto known k a []) c.as_str.ensures.value))

pub returns-clause-apart : goal.returns-clause-apart
returns-clause-apart c =
    let l = c.loop-id in
    let known = has_name c.args.ids.now in
    let all : stacks_by known (members_view c.args.artifacts.now.entries) ≡ map stack_view l.stacks.items =
    l.invariant.2 ∙ ap (λ es. map stack_view l.stacks.items ++ stacks_by known (members_view es)) c.in-None.ensures.steps.0 ∙ append-nil (map stack_view l.stacks.items) in
    subst AreApart all (stacks_apart known c.args.artifacts.now.entries c.iter-id-items.ensures.ordered)
