use Rattle.std.proofs.Common.{List, sym, subst}
use Rattle.cdk_eval.specs.Stack.{StackOutcome}
use Rattle.cdk_eval.specs.Views.{assembly_view, values_view}
use Rattle.cdk_printing.specs.Printable.{IsPrintable}
use Rattle.cdk_printing.proofs.Assembly.{outcomes_printable}
use Rattle.cdk_tool.proofs.inputs.report_of.Goals as goal

pub returns-in-Ok-clause-printable : goal.returns-in-Ok-clause-printable
returns-in-Ok-clause-printable c =
    let P : List StackOutcome → Type 0 = λ ss. IsPrintable ss in
    subst P (sym c.in-Ok.ensures) (outcomes_printable (values_view c.args.values.now) (assembly_view c.args.assembly.now))
