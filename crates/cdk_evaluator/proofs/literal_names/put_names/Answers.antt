use Rattle.std.proofs.Common.{sym, ap, ◌∙◌}
use Rattle.std.specs.Prelude.{◌||◌, filter_map}
use Rattle.serde_json.specs.View.{view, members_view}
use Rattle.cdk_eval.specs.Assembly.{entries, literal_name}
use Rattle.cdk_eval.specs.Reach.{is_among}
use Rattle.cdk_scopes.specs.Scopes.{has_name}
use Rattle.cdk_evaluator.proofs.Lookups.{put_more}
use Rattle.cdk_evaluator.proofs.literal_names.put_names.Goals as goal

pub loop-output-preserved : goal.loop-output-preserved
loop-output-preserved c e =
    let old = has_name c.loop-output.names e in
    let rest = filter_map literal_name (entries (members_view c.next.new.self)) in
    c.loop-output.invariant e ∙ ap (λ es. old || is_among e (filter_map literal_name (entries (members_view es)))) c.in-Some.ensures.steps
    ∙ put_more old e (literal_name (view c.in-Some.output.now)) rest ∙ ap (λ b. b || is_among e rest) (sym (c.in_ok-put_name.ensures e))
