use Rattle.std.proofs.Common.{string_bytes, sym, ap, ◌∙◌}
use Rattle.serde_json.specs.Data.{put}
use Rattle.serde_json.specs.View.{view, members_view}
use Rattle.serde_json.proofs.Views.{members_view-insert_entry}
use Rattle.cdk_eval.specs.Views.{outcome_view}
use Rattle.cdk_intrinsics.specs.Found.{fault_in, put_outcome}
use Rattle.cdk_intrinsics.proofs.found.put_outcome.Goals as goal

pub returns : goal.returns
returns c =
    let k = string_bytes c.args.key.now in
    let ms = members_view c.args.found.now.entries in (
      sym (ap (λ o. fault_in (outcome_view o)) c.in-Value.is),
      ap members_view c.in_ok-insert.ensures.entries ∙ members_view-insert_entry c.args.found.now.entries c.in_ok-key.key c.in-Value.value
          ∙ ap (λ n. put n (view c.in-Value.value) ms) c.in_ok-key.ensures.cases ∙ sym (ap (λ o. put_outcome k (outcome_view o) ms) c.in-Value.is),
    )
