-- The printed names of the faults of an evaluation (own).
use Rattle.std.specs.Prelude.{ℕ, List, codes}
use Rattle.cdk_eval.specs.declared.fault.EvalFault.{EvalFault}
use Rattle.cdk_eval.specs.declared.fault.EvalFault.TheVariants.{NotText, NoItem, NoMapping, NoParameter, NoExport, NotMade, UnknownName, BadIntrinsic, ConditionLoop}

abbrev pub eval_fault_name : EvalFault → List ℕ
eval_fault_name NotText = codes "NotText"
eval_fault_name NoItem = codes "NoItem"
eval_fault_name NoMapping = codes "NoMapping"
eval_fault_name NoParameter = codes "NoParameter"
eval_fault_name NoExport = codes "NoExport"
eval_fault_name NotMade = codes "NotMade"
eval_fault_name UnknownName = codes "UnknownName"
eval_fault_name BadIntrinsic = codes "BadIntrinsic"
eval_fault_name ConditionLoop = codes "ConditionLoop"
