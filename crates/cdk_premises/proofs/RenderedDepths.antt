-- Each level of a plain expression or condition takes three levels of its template JSON at most.
use Rattle.std.proofs.Common.{◌≤◌, ℕ, suc, ◌+◌, ◌*◌, List, arith}
use Rattle.serde_json.specs.Data as json
use Rattle.serde_json.specs.Data.{items_depth, members_depth}
use Rattle.cdk_plain.specs.Plain as plain
use Rattle.cdk_plain.specs.Plain.{choice, concat, field, Fields, find_in_map, get_att, import_value, join, list_of, no_fields, no_plains, object_of, Plain, Plains, pseudo, ref, select, split, text, truth, whole}
use Rattle.cdk_plain.specs.Rendered.{attribute_json, Home, Homes, Import, ImportList, Local, ref_json, rendered, rendered_condition, rendered_conditions, rendered_fields, rendered_items}
use Rattle.cdk_premises.proofs.JoinDepths.{joined-depth, rendered_join-depth}
use Rattle.cdk_premises.specs.RenderedLaws.{ConditionsFit, ConditionsHaveRoom, RenderedFits, RenderedHasRoom}
use Rattle.cdk_premises.specs.Room.{room, spare}
use Rattle.cdk_value_measures.specs.Size.{condition_depth, deepest, deepest_condition, deepest_field, depth, with_array}

-- ---- targets: the deepest is a list that is cut from an import

ref-depth : (k : Home) → json.depth (ref_json k) ≤ 3
ref-depth (Local n) = omega arith
ref-depth (Import e) = omega arith
ref-depth (ImportList e) = omega arith

attribute-depth : (a : List ℕ) (k : Home) → json.depth (attribute_json a k) ≤ 3
attribute-depth a (Local n) = omega arith
attribute-depth a (Import e) = omega arith
attribute-depth a (ImportList e) = omega arith

-- ---- values

-- an array counts with its expression, and has two levels to spare for it
argument-depth : (e : Plain) (j d : ℕ) → j + spare e ≤ 3 * d → j + 2 ≤ 3 * with_array e d
argument-depth (list_of ps) j d low = low
argument-depth e j d low = omega (arith, low)

module _ (h : Homes) where
  mutual
    value_fits : (p : Plain) → json.depth (rendered h p) + spare p ≤ 3 * depth p
    value_fits (text s) = omega arith
    value_fits (whole z) = omega arith
    value_fits (truth b) = omega arith
    value_fits (list_of ps) = let low = items_fit ps in omega (arith, low)
    value_fits (object_of fs) = let low = fields_fit fs in omega (arith, low)
    value_fits (pseudo p) = omega arith
    value_fits (ref t) = let low = ref-depth (h.target t) in omega (arith, low)
    value_fits (get_att t a) = let low = attribute-depth a (h.attribute t a) in omega (arith, low)
    value_fits (concat ps) =
        let low = items_fit ps in
        let whole = joined-depth (rendered_items h ps) in
        omega (arith, low, whole)
    value_fits (join d e) =
        let low = argument-depth e (json.depth (rendered h e)) (depth e) (value_fits e) in
        let whole = rendered_join-depth d (rendered h e) in
        omega (arith, low, whole)
    value_fits (select n e) = let low = argument-depth e (json.depth (rendered h e)) (depth e) (value_fits e) in omega (arith, low)
    value_fits (split d e) = let low = value_fits e in omega (arith, low)
    value_fits (choice c x y) =
        let first = value_fits x in
        let second = value_fits y in
        omega (arith, first, second)
    value_fits (find_in_map m x y) =
        let first = value_fits x in
        let second = value_fits y in
        omega (arith, first, second)
    value_fits (import_value e) = omega arith

    items_fit : (ps : Plains) → items_depth (rendered_items h ps) ≤ 3 * deepest ps
    items_fit no_plains = omega arith
    items_fit (plain.plain p ps) =
        let here = value_fits p in
        let rest = items_fit ps in
        omega (arith, here, rest)

    fields_fit : (fs : Fields) → members_depth (rendered_fields h fs) ≤ 3 * deepest_field fs
    fields_fit no_fields = omega arith
    fields_fit (field k p fs) =
        let here = value_fits p in
        let rest = fields_fit fs in
        omega (arith, here, rest)

pub rendered_fits : RenderedFits
rendered_fits h p = value_fits h p

room_left : (p : Plain) (j d : ℕ) → j + spare p ≤ 3 * d → d ≤ 32 → j ≤ room p
room_left (list_of ps) j d fits low = omega (arith, fits, low)
room_left (object_of fs) j d fits low = omega (arith, fits, low)
room_left p j d fits low = omega (arith, fits, low)

pub rendered_has_room : RenderedHasRoom
rendered_has_room h p low = room_left p (json.depth (rendered h p)) (depth p) (value_fits h p) low

-- ---- conditions

module _ (h : Homes) where
  mutual
    condition_fits : (c : plain.Condition) → suc (json.depth (rendered_condition h c)) ≤ 3 * condition_depth c
    condition_fits (plain.equals x y) =
        let first = value_fits h x in
        let second = value_fits h y in
        omega (arith, first, second)
    condition_fits (plain.all_of cs) = let low = parts_fit cs in omega (arith, low)
    condition_fits (plain.any_of cs) = let low = parts_fit cs in omega (arith, low)
    condition_fits (plain.negation c) = let low = condition_fits c in omega (arith, low)
    condition_fits (plain.named t) = omega arith

    parts_fit : (cs : plain.Conditions) → items_depth (rendered_conditions h cs) ≤ 3 * deepest_condition cs
    parts_fit plain.no_conditions = omega arith
    parts_fit (plain.condition c cs) =
        let here = condition_fits c in
        let rest = parts_fit cs in
        omega (arith, here, rest)

pub conditions_fit : ConditionsFit
conditions_fit h c = condition_fits h c

condition_left : (j d : ℕ) → suc j ≤ 3 * d → d ≤ 32 → j ≤ 95
condition_left j d fits low = omega (arith, fits, low)

pub conditions_have_room : ConditionsHaveRoom
conditions_have_room h c low = condition_left (json.depth (rendered_condition h c)) (condition_depth c) (condition_fits h c) low
