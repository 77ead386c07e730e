-- What a pass finds as an application's fault, and the first of what passes find (own).
use Rattle.std.specs.Prelude.{◌≡◌, List, [], ◌∷◌, map, Option, Some, None, ⊤}
use Rattle.std.specs.Option.{option_or}
use Rattle.cdk_base.specs.declared.code.Code.{Code}
use Rattle.cdk_base.specs.declared.fault.Fault.{Fault}
use Rattle.cdk_base.specs.declared.fault.Fault.TheVariants.{Memory, App, Refused}
use Rattle.cdk_language.specs.declared.finding.Finding.{Finding}
use Rattle.cdk_tree.specs.PlaceFindings.{first}
use Rattle.cdk_tree.specs.Placed.{Placed, construct_at}
use Rattle.cdk_tree.specs.declared.role.Found.{Found}
use Rattle.cdk_tree.specs.declared.role.PassError.{PassError}
use Rattle.cdk_tree.specs.declared.role.PassError.TheVariants as errors

abbrev pub here : Code → Finding
here code = record { code = code; place = [] }

-- at the path of its construct
abbrev pub at_path : List Placed → Found → Finding
at_path cs f = record { code = f.code; place = (construct_at cs f.at).path }

abbrev pub told : List Placed → List Found → List Finding
told cs fs = map (at_path cs) fs

-- the first finding of the first pass that has one
abbrev pub first_of : List (List Finding) → Option Finding
first_of [] = None
first_of (fs ∷ rest) = option_or (first fs) (first_of rest)

-- the fault is the one that is found, or want of memory, which is free
abbrev pub IsFaultOf : Option Finding → Fault → Type 0
IsFaultOf stated Memory = ⊤
IsFaultOf stated (App code place) = stated ≡ Some (record { code = code; place = place })
IsFaultOf stated (Refused place name text) = ⊥

-- the fault that a pass over constructs has found, or want of memory
abbrev pub IsPassFault : List Placed → PassError → Fault → Type 0
IsPassFault cs errors.Memory fault = fault ≡ Memory
IsPassFault cs (errors.Fault f) fault = IsFaultOf (Some (at_path cs f)) fault
