-- A construct that enters its scope: from what is known of its path and of its slot to what is placed.
use Rattle.std.proofs.Common.{◌≡◌, ◌<◌, ℕ, ◌+◌, length, Bool, true, false, Option, Some, None, List, [], ◌∷◌, ◌++◌, Result, Ok, Err, refl, ap, ◌∙◌, arith}
use Rattle.std.specs.Prelude.{◌&&◌, ◌||◌, nat_le, not, is_some, is_none, if◌then◌else◌}
use Rattle.std.proofs.lemmas.Bool.{leb-false}
use Rattle.cdk_base.specs.declared.code.Code.TheVariants.{BadId, SameId, BadPlace}
use Rattle.cdk_base.specs.declared.fault.Fault.{Fault}
use Rattle.cdk_base.specs.declared.fault.Fault.TheVariants as faults
use Rattle.cdk_language.specs.Construct.{Body, Constructs, Head, construct, kind_view}
use Rattle.cdk_tree.specs.Placed.{Placed, construct_at, find_path, is_stack, is_stage, path_in, placed_in, root_placed}
use Rattle.cdk_tree.specs.PlaceFindings.{is_element, is_id}
use Rattle.cdk_tree.specs.Slots.{head_of, placed_of, slot_in}
use Rattle.cdk_tree.specs.Walking.{Waiting, children_of, wrong_code, ChecksPath, Enters, EntersRoot, Places}
use Rattle.cdk_tree.specs.declared.nodes.Nodes.{Nodes}
use Rattle.cdk_tree.specs.declared.part.Part.{Part}
use Rattle.cdk_tree.specs.declared.slot.Slot.{Slot}

-- ---- where nothing is wrong

no_code : (a : Bool) (o : Option ℕ) (c : Bool) → (if not a then Some BadId else if is_some o then Some SameId else if c then Some BadPlace else None) ≡ None → o ≡ None
no_code false o c h = cc
no_code true (Some n) c h = cc
no_code true None c h = refl

pub path_is_new : (cs : List Placed) (m : ℕ) (i : List ℕ) (b : Body) → wrong_code cs m i b ≡ None → find_path cs (path_in (construct_at cs m).path i) ≡ None
path_is_new cs m i b none = no_code (is_id i) (find_path cs (path_in (construct_at cs m).path i)) _ none

well_placed : (a t x y z : Bool) → (if not a then Some BadId else if t then Some SameId else if x || (y || z) then Some BadPlace else None) ≡ None → z ≡ false
well_placed false t x y z h = cc
well_placed true true x y z h = cc
well_placed true false true y z h = cc
well_placed true false false true z h = cc
well_placed true false false false true h = cc
well_placed true false false false false h = refl

pub level_is_low : (cs : List Placed) (m : ℕ) (i : List ℕ) (b : Body) → wrong_code cs m i b ≡ None → (construct_at cs m).level < 255
level_is_low cs m i b none =
    let p = construct_at cs m in
    let below = leb-false 11 (p.level + 1) (well_placed (is_id i) (is_some (find_path cs (path_in p.path i))) ((is_stack b || is_stage b) && is_some p.stack) (is_element b && is_none p.stack) (nat_le 11 (p.level + 1)) none) in
    omega arith

-- ---- what stands in the slot

pub placed_in_scope : (cs : List Placed) (n m : ℕ) (scope : Slot) (part : Part) → placed_of cs scope ≡ construct_at cs m → placed_of cs (slot_in n m scope part) ≡ placed_in n m (construct_at cs m) (head_of part) (kind_view part.kind)
placed_in_scope cs n m scope part same =
    let P : Placed → Placed = λ p. record {
      head = head_of part;
      body = kind_view part.kind;
      parent = Some m;
      path = path_in (construct_at cs m).path part.id;
      level = p.level + 1;
      stack = if is_stack (kind_view part.kind) then Some n else p.stack;
      stage = if is_stage (kind_view part.kind) then n else p.stage;
      contexts = (head_of part).context ∷ (construct_at cs m).contexts;
    } in
    ap P same

-- ---- how it ends

pub enters : (r : Result Nodes Fault) (cs : List Placed) (m : ℕ) (h : Head) (b : Body) (kids : Constructs) (before after : List Waiting) → wrong_code cs m h.id b ≡ None
    → Places r cs (placed_in (length cs) m (construct_at cs m) h b) kids before after → Enters r cs m (construct h b kids) before after
enters (Ok t) cs m h b kids before after none placed = (none, placed)
enters (Err faults.Memory) cs m h b kids before after none placed = tt
enters (Err (faults.App code place)) cs m h b kids before after none placed = absurd placed
enters (Err (faults.Refused place name text)) cs m h b kids before after none placed = absurd placed

pub enters_root : (r : Result Nodes Fault) (cs : List Placed) (p : Placed) (h : Head) (b : Body) (kids : Constructs) (before after : List Waiting) → cs ≡ [] → p ≡ root_placed h b → Places r cs p kids before after
    → EntersRoot r (construct h b kids) before after
enters_root (Ok t) cs p h b kids before after none is placed =
    (placed.0 ∙ ap (λ l. l ++ p ∷ []) none ∙ ap (λ q. q ∷ []) is, placed.1 ∙ ap (λ l. children_of (length l) kids ++ before) none)
enters_root (Err faults.Memory) cs p h b kids before after none is placed = tt
enters_root (Err (faults.App code place)) cs p h b kids before after none is placed = placed
enters_root (Err (faults.Refused place name text)) cs p h b kids before after none is placed = placed

pub refuses : (fault : Fault) (cs : List Placed) (m : ℕ) (h : Head) (b : Body) (kids : Constructs) (before after : List Waiting) → ChecksPath (Err fault) cs m h.id b → Enters (Err fault) cs m (construct h b kids) before after
refuses faults.Memory cs m h b kids before after checked = tt
refuses (faults.App code place) cs m h b kids before after checked = checked
refuses (faults.Refused place name text) cs m h b kids before after checked = checked
