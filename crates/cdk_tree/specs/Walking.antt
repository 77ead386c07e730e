-- What the walk over an application has placed and what is still to be placed (own).
use Rattle.std.specs.Prelude.{◌≡◌, ◌<◌, ℕ, ◌+◌, List, [], ◌∷◌, ◌++◌, map, reverse, length, true, not, if◌then◌else◌, Option, Some, None, is_some, Result, Ok, Err, String, string_bytes}
use Rattle.std.specs.declared.alloc.Global.{Global}
use Rattle.cdk_base.specs.declared.code.Code.{Code}
use Rattle.cdk_base.specs.declared.code.Code.TheVariants.{BadId, SameId, BadPlace}
use Rattle.cdk_base.specs.declared.fault.Fault.{Fault}
use Rattle.cdk_base.specs.declared.fault.Fault.TheVariants as faults
use Rattle.cdk_language.specs.Construct as language
use Rattle.cdk_language.specs.Construct.{Body, Construct, Constructs, Head, node_view}
use Rattle.cdk_tree.specs.NodesView.{placed_nodes}
use Rattle.cdk_tree.specs.PlaceFindings.{first, found_at, is_id, is_misplaced, place_findings}
use Rattle.cdk_tree.specs.Placed.{Placed, construct_at, find_path, path_in, placed_in, root_placed, walk}
use Rattle.cdk_tree.specs.declared.nodes.Nodes.{Nodes}
use Rattle.cdk_tree.specs.declared.pending.Pending.{Pending}

-- a construct that isn't placed yet, with the number of its parent
abbrev pub Waiting : Type 0
Waiting = ℕ × Construct

abbrev pub pending_view : Pending → Waiting
pending_view p = (p.parent, node_view p.node)

-- the next one first
abbrev pub waiting : List Pending → List Waiting
waiting ps = reverse (map pending_view ps)

abbrev pub children_of : ℕ → Constructs → List Waiting
children_of m language.no_constructs = []
children_of m (language.child c cs) = (m, c) ∷ children_of m cs

-- the constructs that are still to be placed, from the number n on
abbrev pub still_to_place : List Placed → ℕ → List Waiting → List Placed
still_to_place cs n [] = []
still_to_place cs n (w ∷ ws) = walk n w.0 (construct_at cs w.0) w.1 ++ still_to_place cs (n + length (walk n w.0 (construct_at cs w.0) w.1)) ws

-- all constructs
abbrev pub all_placed : List Placed → List Waiting → List Placed
all_placed cs ws = cs ++ still_to_place cs (length cs) ws

-- how many constructs there are
abbrev mutual
  pub size : Construct → ℕ
  size (language.construct h b cs) = 1 + size_of_children cs

  pub size_of_children : Constructs → ℕ
  size_of_children language.no_constructs = 0
  size_of_children (language.child c cs) = size c + size_of_children cs

abbrev pub size_of_all : List Waiting → ℕ
size_of_all [] = 0
size_of_all (w ∷ ws) = size w.1 + size_of_all ws

-- each parent is placed
abbrev pub AreBelow : ℕ → List Waiting → Type 0
AreBelow n [] = Unit {0}
AreBelow n (w ∷ ws) = (w.0 < n) × AreBelow n ws

-- the root has the empty path; any other construct stands in one that was placed before it, and has a right id
abbrev pub StandsIn : List Placed → ℕ → Placed → Option ℕ → Type 0
StandsIn cs k p None = p.path ≡ []
StandsIn cs k p (Some m) = (m < k) × ((p.path ≡ path_in (construct_at cs m).path p.head.id) × (is_id p.head.id ≡ true))

-- nothing is wrong with the constructs that were placed, and no two have one path
pub record IsSound (cs : List Placed) : Type 0 where
  pub clean : place_findings cs ≡ []
  pub stands : (k : ℕ) → k < length cs → StandsIn cs k (construct_at cs k) (construct_at cs k).parent
  pub apart : (j k : ℕ) → j < length cs → k < length cs → (construct_at cs j).path ≡ (construct_at cs k).path → j ≡ k

-- what is wrong with an id in a scope and with the place of a construct of that id
abbrev pub wrong_code : List Placed → ℕ → List ℕ → Body → Option Code
wrong_code cs m i b =
    if not (is_id i) then Some BadId
    else if is_some (find_path cs (path_in (construct_at cs m).path i)) then Some SameId
    else if is_misplaced (construct_at cs m).stack ((construct_at cs m).level + 1) b then Some BadPlace
    else None

-- the waiting construct is placed, and its children are next
abbrev pub Enters : Result Nodes Fault → List Placed → ℕ → Construct → List Waiting → List Waiting → Type 0
Enters (Ok t) cs m (language.construct h b kids) before after =
    (wrong_code cs m h.id b ≡ None) × ((placed_nodes t ≡ cs ++ placed_in (length cs) m (construct_at cs m) h b ∷ []) × (after ≡ children_of (length cs) kids ++ before))
Enters (Err faults.Memory) cs m c before after = Unit {0}
Enters (Err (faults.App code place)) cs m (language.construct h b kids) before after = (wrong_code cs m h.id b ≡ Some code) × (place ≡ path_in (construct_at cs m).path h.id)
Enters (Err (faults.Refused place name text)) cs m c before after = ⊥

-- these are all constructs, and nothing is wrong with them, or the first thing that is wrong
abbrev pub Completes : Result Nodes Fault → List Placed → Type 0
Completes (Ok t) all = (placed_nodes t ≡ all) × IsSound all
Completes (Err faults.Memory) all = Unit {0}
Completes (Err (faults.App code place)) all = first (place_findings all) ≡ Some (found_at place code)
Completes (Err (faults.Refused place name text)) all = ⊥

-- the root is placed, and its children are next
abbrev pub EntersRoot : Result Nodes Fault → Construct → List Waiting → List Waiting → Type 0
EntersRoot (Ok t) (language.construct h b kids) before after = (placed_nodes t ≡ root_placed h b ∷ []) × (after ≡ children_of 0 kids ++ before)
EntersRoot (Err faults.Memory) c before after = Unit {0}
EntersRoot (Err (faults.App code place)) c before after = ⊥
EntersRoot (Err (faults.Refused place name text)) c before after = ⊥

-- the path, where nothing is wrong
abbrev pub ChecksPath : Result (String Global) Fault → List Placed → ℕ → List ℕ → Body → Type 0
ChecksPath (Ok p) cs m i b = (wrong_code cs m i b ≡ None) × (string_bytes p ≡ path_in (construct_at cs m).path i)
ChecksPath (Err faults.Memory) cs m i b = Unit {0}
ChecksPath (Err (faults.App code place)) cs m i b = (wrong_code cs m i b ≡ Some code) × (place ≡ path_in (construct_at cs m).path i)
ChecksPath (Err (faults.Refused place name text)) cs m i b = ⊥

-- the construct is placed, and its children are next
abbrev pub Places : Result Nodes Fault → List Placed → Placed → Constructs → List Waiting → List Waiting → Type 0
Places (Ok t) cs p kids before after = (placed_nodes t ≡ cs ++ p ∷ []) × (after ≡ children_of (length cs) kids ++ before)
Places (Err faults.Memory) cs p kids before after = Unit {0}
Places (Err (faults.App code place)) cs p kids before after = ⊥
Places (Err (faults.Refused place name text)) cs p kids before after = ⊥
