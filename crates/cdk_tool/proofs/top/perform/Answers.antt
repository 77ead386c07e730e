use Rattle.std.proofs.Common.{sym, ap, ◌∙◌, subst, List, ℕ}
use Rattle.cdk_write.specs.Lines.{write_line, Says}
use Rattle.cdk_write.specs.declared.step.Step.{Step}
use Rattle.cdk_write.proofs.StepLemmas.{stopped_path}
use Rattle.cdk_tool.proofs.top.perform.Goals as goal

pub returns-in-Err-clause-cut : goal.returns-in-Err-clause-cut
returns-in-Err-clause-cut g c = λ is.
    let stop = c.in-Err.ensures.stopped in
    let item = c.index-steps-k.result in
    let path = stopped_path c.args.steps.now c.in-Err.k item stop.step c.in-Err.ensures.within c.index-steps-k.is stop.is in
    let says : List ℕ → Type 0 = λ line. Says (g.E.Sink.written c.args.err.now) (g.E.Sink.written c.tell.new.err) (g.E.Sink.faults c.args.err.now) (g.E.Sink.faults c.tell.new.err) line in
    (c.in-Err.k, stop, subst says (c.as_str.ensures ∙ ap (λ (s : Step). s.line) (sym c.index-steps-k.is) ∙ item.line_is ∙ ap write_line (sym path)) c.tell.ensures)
