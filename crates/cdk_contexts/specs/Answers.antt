-- How a pass over the constructs answers.
use Rattle.std.specs.Prelude.{◌≡◌, List, [], Some, Result, Ok, Err}
use Rattle.cdk_tree.specs.PlaceFindings.{first}
use Rattle.cdk_tree.specs.declared.role.Found.{Found}
use Rattle.cdk_tree.specs.declared.role.PassError.{PassError}
use Rattle.cdk_tree.specs.declared.role.PassError.TheVariants as errors

-- nothing is found, or the first of the findings
abbrev pub FindsFirst : Result (Unit {0}) PassError → List Found → Type 0
FindsFirst (Ok u) fs = fs ≡ []
FindsFirst (Err errors.Memory) fs = Unit {0}
FindsFirst (Err (errors.Fault f)) fs = first fs ≡ Some f
