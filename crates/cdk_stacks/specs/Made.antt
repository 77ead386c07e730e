-- The names that are kept of constructs, and how the making of them ends.
use Rattle.std.specs.Prelude.{◌≡◌, ℕ, List, [], Some, None, Result, Ok, Err, unwrap_or, slice_get}
use Rattle.cdk_tree.specs.Placed.{Placed}
use Rattle.cdk_tree.specs.PlaceFindings.{first}
use Rattle.cdk_tree.specs.declared.role.Found.{Found}
use Rattle.cdk_tree.specs.declared.role.PassError.{PassError}
use Rattle.cdk_tree.specs.declared.role.PassError.TheVariants as errors
use Rattle.cdk_stacks.specs.Claims.{name_findings}
use Rattle.cdk_stacks.specs.Names.{artifact_id, logical_name, stack_name, stage_name}
use Rattle.cdk_stacks.specs.declared.made.Names.{Names}
use Rattle.cdk_stacks.specs.declared.named.Named.{Named}

-- of a construct by its number; where there is no construct, it has no name
abbrev pub names_of : List Placed → ℕ → Named
names_of cs n = record { logical = logical_name cs n; stack = stack_name cs n; stage = stage_name cs n; artifact = artifact_id cs n }

abbrev pub nameless : Named
nameless = record { logical = None; stack = None; stage = None; artifact = None }

abbrev pub names_at : Names → ℕ → Named
names_at ns n = unwrap_or (slice_get ns.each n) nameless

abbrev pub AreNamesOf : Names → List Placed → Type 0
AreNamesOf ns cs = (n : ℕ) → names_at ns n ≡ names_of cs n

-- nothing is found, or the first of the findings
abbrev pub FindsFirst : Result (Unit {0}) PassError → List Found → Type 0
FindsFirst (Ok u) fs = fs ≡ []
FindsFirst (Err errors.Memory) fs = Unit {0}
FindsFirst (Err (errors.Fault f)) fs = first fs ≡ Some f

-- the names of constructs with whose names nothing is wrong, or the first thing that is
abbrev pub AreNamed : Result Names PassError → List Placed → Type 0
AreNamed (Ok ns) cs = AreNamesOf ns cs × (name_findings cs ≡ [])
AreNamed (Err errors.Memory) cs = Unit {0}
AreNamed (Err (errors.Fault f)) cs = first (name_findings cs) ≡ Some f
