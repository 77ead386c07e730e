use Rattle.std.proofs.Common.{ap, ◌∙◌, map}
use Rattle.cdk_write.specs.Steps.{step_view}
use Rattle.cdk_tool.proofs.StepsLemmas.{steps_next}
use Rattle.cdk_tool.proofs.top.steps_of.Goals as goal

pub loop-file-preserved : goal.loop-file-preserved
loop-file-preserved c =
    ap (map step_view) c.in_ok-push.ensures.items ∙ steps_next c.args.directory.now c.args.list.now c.loop-file.file-index c.file-item.result _ _ c.loop-file-test.true c.file-item.is c.loop-file.invariant c.in_ok-step_of.ensures
