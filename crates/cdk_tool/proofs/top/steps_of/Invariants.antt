use Rattle.std.proofs.Common.{◌≡◌, take, map}
use Rattle.cdk_write.specs.Steps.{step_view}
use Rattle.cdk_tool.specs.Assembly.{steps_of}
use Rattle.cdk_tool.proofs.top.steps_of.Given as goal

abbrev pub invariant-loop-file : goal.invariant-loop-file
invariant-loop-file l = map step_view l.steps.items ≡ steps_of l.directory (take l.file-index l.list)
