use Rattle.cdk_tool.proofs.EvalLemmas.{bad_input}
use Rattle.cdk_tool.proofs.evaluation.eval_command.Goals as goal

pub returns-in-Err-clause-bad : goal.returns-in-Err-clause-bad
returns-in-Err-clause-bad g c = λ is.
    bad_input c.in-Err.unusable c.refuse.result c.args.directory.now c.args.values.now _ _ _ _ _ is c.in-Err.ensures.answer c.refuse.ensures
