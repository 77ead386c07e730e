-- What the public types of an evaluation stand for.
use Rattle.std.specs.Prelude.{ℕ, List, map, true, false}
use Rattle.serde_json.specs.View.{view}
use Rattle.cdk_eval.specs.declared.outcome.Truth.{Truth as RustTruth}
use Rattle.cdk_eval.specs.declared.outcome.Truth.TheVariants as truths
use Rattle.cdk_eval.specs.declared.outcome.Made.{Made}
use Rattle.cdk_eval.specs.declared.outcome.Made.TheVariants as presences
use Rattle.cdk_eval.specs.declared.outcome.Outcome.{Outcome as RustOutcome}
use Rattle.cdk_eval.specs.declared.outcome.Outcome.TheVariants as outcomes
use Rattle.cdk_eval.specs.declared.outcome.OutputOutcome.{OutputOutcome as RustOutputOutcome}
use Rattle.cdk_eval.specs.declared.outcome.OutputOutcome.TheVariants as outputs
use Rattle.cdk_eval.specs.declared.report.PropertyOut.{PropertyOut}
use Rattle.cdk_eval.specs.declared.report.ResourceOut.{ResourceOut}
use Rattle.cdk_eval.specs.declared.report.OutputOut.{OutputOut}
use Rattle.cdk_eval.specs.declared.report.StackOut.{StackOut}
use Rattle.cdk_eval.specs.declared.report.Report.{Report}
use Rattle.cdk_eval.specs.declared.assembly.StackIn.{StackIn}
use Rattle.cdk_eval.specs.declared.assembly.Assembly.{Assembly}
use Rattle.cdk_eval.specs.declared.values.Values.{Values as RustValues}
use Rattle.cdk_eval.specs.Outcomes.{Outcome, Value, Gone, Fault, Truth, Holds, Untold, OutputOutcome, OutputText, OutputNotMade, OutputFault}
use Rattle.cdk_eval.specs.Stack.{Stack, ResourceOutcome, StackOutcome}
use Rattle.cdk_eval.specs.Values.{Values}
use Rattle.cdk_eval.specs.ValuesFile.{values_of}

abbrev pub truth_view : RustTruth → Truth
truth_view (truths.Holds b) = Holds b
truth_view (truths.Untold f) = Untold f

abbrev pub made_view : Made → Truth
made_view presences.Made = Holds true
made_view presences.NotMade = Holds false
made_view (presences.Fault f) = Untold f

abbrev pub outcome_view : RustOutcome → Outcome
outcome_view (outcomes.Value v) = Value (view v)
outcome_view outcomes.Gone = Gone
outcome_view (outcomes.Fault f) = Fault f

abbrev pub output_view : RustOutputOutcome → OutputOutcome
output_view (outputs.Text t) = OutputText t
output_view outputs.NotMade = OutputNotMade
output_view (outputs.Fault f) = OutputFault f

abbrev pub property_view : PropertyOut → List ℕ × Outcome
property_view p = (p.key, outcome_view p.outcome)

abbrev pub resource_view : ResourceOut → ResourceOutcome
resource_view r = record { logical = r.logical; presence = made_view r.made; properties = map property_view r.properties }

abbrev pub output_entry : OutputOut → List ℕ × OutputOutcome
output_entry o = (o.logical, output_view o.outcome)

abbrev pub stack_out_view : StackOut → StackOutcome
stack_out_view s = record { name = s.name; resources = map resource_view s.resources; outputs = map output_entry s.outputs }

abbrev pub report_view : Report → List StackOutcome
report_view r = map stack_out_view r.stacks

abbrev pub stack_view : StackIn → Stack
stack_view s = record { name = s.name; template = view s.template }

abbrev pub assembly_view : Assembly → List Stack
assembly_view a = map stack_view a.stacks

abbrev pub values_view : RustValues → Values
values_view v = values_of (view v.document)
