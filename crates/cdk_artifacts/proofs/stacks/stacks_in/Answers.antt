use Rattle.std.proofs.Common.{◌≡◌, ℕ, List, map, ap, ◌∙◌}
use Rattle.std.proofs.lemmas.Result.{IfOk-weaker}
use mathlib.Core.Path.{fun_ext}
use Rattle.serde_json.specs.View.{members_view}
use Rattle.cdk_eval.specs.Manifest.{stack_ids}
use Rattle.cdk_eval.specs.Reach.{is_among}
use Rattle.cdk_artifacts.specs.Found.{has_name, stack_view, stacks_by}
use Rattle.cdk_artifacts.proofs.stacks.stacks_in.Goals as goal

pub returns-clause-stacks : goal.returns-clause-stacks
returns-clause-stacks c =
    let ms = members_view c.args.artifacts.now.entries in
    let known = has_name c.in_ok-ids.ids in
    let same : known ≡ (λ (n : List ℕ). is_among n (stack_ids ms)) = fun_ext c.in_ok-ids.ensures in
    IfOk-weaker c.stacks_by.result (λ ss. map stack_view ss.items ≡ stacks_by known ms) (λ ss. map stack_view ss.items ≡ stacks_by (λ n. is_among n (stack_ids ms)) ms) (λ ss h. h ∙ ap (λ f. stacks_by f ms) same) c.stacks_by.ensures.stacks
