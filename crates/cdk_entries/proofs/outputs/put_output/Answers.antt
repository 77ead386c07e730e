use Rattle.std.proofs.Common.{codes, ap, ◌∙◌}
use Rattle.std.proofs.lemmas.Result.{on_ok_weaker}
use Rattle.serde_json.specs.Data.{put}
use Rattle.serde_json.specs.View.{view}
use Rattle.cdk_entries.proofs.MemberLemmas.{output_put}
use Rattle.cdk_entries.proofs.outputs.put_output.Goals as goal

pub returns : goal.returns
returns c =
    let value = c.in_ok-put.ensures.ok ∙ ap (put (codes "Value") (view c.args.value)) c.requires.empty in
    on_ok_weaker c.put_condition.result (λ condition. output_put _ _ _ _ value c.in_ok-put_export.ensures c.in_ok-put_text_given.ensures condition) c.put_condition.ensures
