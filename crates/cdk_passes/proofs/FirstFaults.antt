-- The first fault of passes is that of all passes that begin with them.
use Rattle.std.proofs.Common.{◌≡◌, List, [], ◌∷◌, ◌++◌}
use Rattle.cdk_base.specs.declared.fault.Fault.{Fault}
use Rattle.cdk_base.specs.declared.fault.Fault.TheVariants as faults
use Rattle.cdk_language.specs.declared.finding.Finding.{Finding}
use Rattle.cdk_passes.specs.Faults.{IsFaultOf, first_of}

pub first_stays : (passes later : List (List Finding)) (fault : Fault) → IsFaultOf (first_of passes) fault → IsFaultOf (first_of (passes ++ later)) fault
first_stays [] later faults.Memory is = tt
first_stays [] later (faults.App code place) is = cc
first_stays [] later (faults.Refused place name text) is = absurd is
first_stays ([] ∷ passes) later fault is = first_stays passes later fault is
first_stays ((f ∷ fs) ∷ passes) later fault is = is
