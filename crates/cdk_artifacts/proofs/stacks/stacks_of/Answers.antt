use Rattle.std.proofs.Common.{◌≡◌, List, map, ap, ◌∙◌, subst}
use Rattle.std.specs.Prelude.{IfOk}
use Rattle.serde_json.specs.View.{view, members_view}
use Rattle.cdk_eval.specs.Manifest.{StackArtifact, artifacts, stack_ids, stack_artifacts}
use Rattle.cdk_artifacts.specs.Found.{stack_view}
use Rattle.cdk_artifacts.proofs.Apart.{stacks_by_ids}
use Rattle.cdk_artifacts.proofs.stacks.stacks_of.Goals as goal

pub returns-in-Some-clause-stacks : goal.returns-in-Some-clause-stacks
returns-in-Some-clause-stacks c =
    let ms = members_view c.in-Some.artifacts.now.entries in
    let named : ms ≡ artifacts (view c.args.manifest.now) = c.in-Some.ensures in
    let all = stacks_by_ids (stack_ids ms) ms ∙ ap (λ xs. stack_artifacts (stack_ids xs) xs) named in
    subst (λ (xs : List StackArtifact). IfOk c.stacks_in.result (λ ss. map stack_view ss.items ≡ xs)) all c.stacks_in.ensures.stacks
