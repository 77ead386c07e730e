-- What an outcome adds to the members that are found so far.
use Rattle.std.specs.Prelude.{ℕ, List, Option, Some, None}
use Rattle.serde_json.specs.Data.{Members, put}
use Rattle.cdk_eval.specs.declared.fault.EvalFault.{EvalFault}
use Rattle.cdk_eval.specs.Outcomes.{Outcome, Value, Gone, Fault}

abbrev pub fault_in : Outcome → Option EvalFault
fault_in (Value d) = None
fault_in Gone = None
fault_in (Fault f) = Some f

-- the members with that of the key, where its outcome is a value
abbrev pub put_outcome : List ℕ → Outcome → Members → Members
put_outcome k (Value d) ms = put k d ms
put_outcome k Gone ms = ms
put_outcome k (Fault f) ms = ms
