-- What the value that a condition picks comes to.
use Rattle.std.specs.Prelude.{Result, Ok, Err}
use denote.Ref.{Bor}
use Rattle.serde_json.specs.Data.{Data}
use Rattle.serde_json.specs.View.{view}
use Rattle.serde_json.specs.declared.value.Value.{Value}
use Rattle.cdk_eval.specs.declared.fault.EvalFault.{EvalFault}
use Rattle.cdk_eval.specs.Outcomes.{Outcome, Fault}

-- with the outcome of each value
abbrev pub branch_outcome : (Data → Outcome) → Result (Bor Value) EvalFault → Outcome
branch_outcome own (Ok v) = own (view v.now)
branch_outcome own (Err f) = Fault f
