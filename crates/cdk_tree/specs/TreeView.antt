-- The constructs of a `Tree`, and the first of what is found in them.
use Rattle.std.specs.Prelude.{◌≡◌, List, [], Some, Result, Ok, Err}
use Rattle.cdk_base.specs.declared.fault.Fault.{Fault}
use Rattle.cdk_base.specs.declared.fault.Fault.TheVariants as faults
use Rattle.cdk_language.specs.Construct.{Application}
use Rattle.cdk_tree.specs.NodesView.{placed_nodes}
use Rattle.cdk_tree.specs.PlaceFindings.{first, found_at, place_findings}
use Rattle.cdk_tree.specs.Placed.{Placed, constructs_of}
use Rattle.cdk_tree.specs.Walking.{IsSound}
use Rattle.cdk_tree.specs.declared.role.Found.{Found}
use Rattle.cdk_tree.specs.declared.tree.Tree.{Tree}

abbrev pub constructs : Tree → List Placed
constructs t = placed_nodes t.nodes

-- these are the constructs of the application, and nothing is wrong with them, or the first thing that is wrong
abbrev pub Builds : Result Tree Fault → Application → Type 0
Builds (Ok t) a = (constructs t ≡ constructs_of a) × IsSound (constructs_of a)
Builds (Err faults.Memory) a = Unit {0}
Builds (Err (faults.App code place)) a = first (place_findings (constructs_of a)) ≡ Some (found_at place code)
Builds (Err (faults.Refused place name text)) a = ⊥

-- nothing is found, or the first of the findings
abbrev pub FindsFirst : Result (Unit {0}) Found → List Found → Type 0
FindsFirst (Ok u) fs = fs ≡ []
FindsFirst (Err f) fs = first fs ≡ Some f
