use Rattle.std.proofs.Common.{[], ◌∷◌, ap, ◌∙◌, string_bytes}
use Rattle.std.specs.Prelude.{◌||◌, if◌then◌else◌}
use Rattle.serde_json.specs.View.{view, members_view}
use Rattle.cdk_eval.specs.Manifest.{stack_ids}
use Rattle.cdk_eval.specs.Reach.{is_among}
use Rattle.cdk_artifacts.specs.Found.{has_name, is_stack}
use Rattle.cdk_artifacts.proofs.Onward.{among_moved}
use Rattle.cdk_artifacts.proofs.stacks.stack_ids.Goals as goal

pub loop-id-preserved : goal.loop-id-preserved
loop-id-preserved c =
    let l = c.loop-id in
    let b = is_stack (view c.in-Some.artifact.now) in
    let key = string_bytes c.in-Some.id.now in
    let rest = stack_ids (members_view c.next.new.self) in (
      tt,
      tt,
      λ n. among_moved n key rest _ (has_name l.ids n) _ b
          (l.invariant.2 n ∙ ap (λ es. has_name l.ids n || is_among n (stack_ids (members_view es))) c.in-Some.ensures.steps)
          (c.in_ok-put_stack.ensures n ∙ ap (λ k. has_name l.ids n || is_among n (if b then k ∷ [] else [])) c.as_str.ensures.value),
    )
