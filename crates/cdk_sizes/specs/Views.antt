-- What a check of sizes tells.
use Rattle.std.specs.Prelude.{◌≡◌, List, [], Some, Result, Ok, Err}
use Rattle.cdk_tree.specs.PlaceFindings.{first}
use Rattle.cdk_tree.specs.declared.role.Found.{Found}
use Rattle.cdk_tree.specs.declared.role.PassError.{PassError}
use Rattle.cdk_tree.specs.declared.role.PassError.TheVariants as errors

-- nothing is found, or the first of the findings
abbrev pub ChecksFirst : Result (Unit {0}) PassError → List Found → Type 0
ChecksFirst (Ok u) fs = fs ≡ []
ChecksFirst (Err errors.Memory) fs = Unit {0}
ChecksFirst (Err (errors.Fault f)) fs = first fs ≡ Some f
