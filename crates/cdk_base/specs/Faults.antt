-- The number of a fault: 0 for want of memory, 15 for the refusal of an aspect, else the code's (own).
use Rattle.std.specs.Prelude.{ℕ}
use Rattle.cdk_base.specs.Codes.{code_number}
use Rattle.cdk_base.specs.declared.fault.Fault.{Fault}
use Rattle.cdk_base.specs.declared.fault.Fault.TheVariants.{Memory, App, Refused}

abbrev pub fault_code : Fault → ℕ
fault_code Memory = 0
fault_code (App code place) = code_number code
fault_code (Refused place name text) = 15
