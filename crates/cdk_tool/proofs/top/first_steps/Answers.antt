use Rattle.std.proofs.Common.{ap, ◌∙◌}
use Rattle.cdk_write.specs.Steps.{make_directory, remove}
use Rattle.cdk_tool.proofs.StepsLemmas.{two_steps}
use Rattle.cdk_tool.proofs.top.first_steps.Goals as goal

pub returns : goal.returns
returns c =
    two_steps c.args.directory.now _ _ _ c.in_ok-make.make c.in_ok-remove.remove c.new-steps.ensures.items c.in_ok-push.ensures.items c.in_ok-push-2.ensures.items
    (c.in_ok-make.ensures ∙ ap make_directory c.in_ok-path.ensures) (c.in_ok-remove.ensures ∙ ap remove c.in_ok-path-2.ensures)
