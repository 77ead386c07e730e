-- What is rendered is canonical.
use Rattle.std.proofs.Common.{◌≡◌, ◌^◌, ℕ, List, [], ◌∷◌, true, Option, Some, None, refl, subst, ltb-true}
use Rattle.std.specs.Prelude.{ℤ, pos, negsuc}
use Rattle.serde_json.specs.Data.{Data, null, boolean, number, string, array, object, Items, no_items, item}
use Rattle.cdk_base.specs.Json.{text_of, is_whole}
use Rattle.cdk_base.specs.Pretty.{IsWhole, AllAbove, IsCanonical, ItemsAreCanonical, MembersAreCanonical}
use Rattle.cdk_plain.specs.Plain.{num_of, Plain, text, whole, truth, list_of, object_of, pseudo, ref, get_att, concat, join, select, split, choice, find_in_map, import_value, Plains, no_plains, plain, Fields, no_fields, field, IsWell, AreWell, FieldsAreWell, Condition, equals, all_of, any_of, negation, named, Conditions, no_conditions, condition, IsWellCondition, AreWellConditions}
use Rattle.cdk_plain.specs.Rendered.{Home, Local, Import, ImportList, Homes, join_json, ref_json, attribute_json, and_items, joined_in, spliced_onto, spliced, glued, merged_onto, merged, finished, joined, rendered_join, rendered, rendered_items, rendered_fields, rendered_condition, rendered_conditions}
use Rattle.cdk_meaning.specs.Canonical.{KeysAbove, IsOrdered, AreOrdered, FieldsAreOrdered, HasOrderedOperands, HaveOrderedOperands, RenderedIsCanonical, RenderedConditionIsCanonical}
use Rattle.cdk_meaning.proofs.Joins.{is_joined}

whole_number : (z : ℤ) → is_whole (num_of z) ≡ true → IsWhole (num_of z)
whole_number (pos n) h = ltb-true n (2 ^ 64) h
whole_number (negsuc n) h = ltb-true n (2 ^ 63) h

-- ---- joins

and_canonical : (ds es : Items) → ItemsAreCanonical ds → ItemsAreCanonical es → ItemsAreCanonical (and_items ds es)
and_canonical no_items es k l = l
and_canonical (item d ds) es k l = (k.0, and_canonical ds es k.1 l)

splice_one : (o : Option Items) (d : Data) (es : Items) → joined_in d ≡ o → IsCanonical d → ItemsAreCanonical es → ItemsAreCanonical (spliced_onto o d es)
splice_one None d es h k l = (k, l)
splice_one (Some ds) d es h k l = let j : IsCanonical (join_json [] (array ds)) = subst IsCanonical (is_joined d ds h) k in and_canonical ds es j.0.1.0 l

spliced_canonical : (ds : Items) → ItemsAreCanonical ds → ItemsAreCanonical (spliced ds)
spliced_canonical no_items k = k
spliced_canonical (item d ds) k = splice_one (joined_in d) d (spliced ds) refl k.0 (spliced_canonical ds k.1)

glued_canonical : (t : List ℕ) (ds : Items) → ItemsAreCanonical ds → ItemsAreCanonical (glued t ds)
glued_canonical t (item (string s) ds) k = k
glued_canonical t no_items k = (tt, k)
glued_canonical t (item null ds) k = (tt, k)
glued_canonical t (item (boolean b) ds) k = (tt, k)
glued_canonical t (item (number n) ds) k = (tt, k)
glued_canonical t (item (array es) ds) k = (tt, k)
glued_canonical t (item (object ms) ds) k = (tt, k)

merge_one : (o : Option (List ℕ)) (d : Data) (ds : Items) → IsCanonical d → ItemsAreCanonical ds → ItemsAreCanonical (merged_onto o d ds)
merge_one None d ds k l = (k, l)
merge_one (Some []) d ds k l = l
merge_one (Some (c ∷ t)) d ds k l = glued_canonical (c ∷ t) ds l

merged_canonical : (ds : Items) → ItemsAreCanonical ds → ItemsAreCanonical (merged ds)
merged_canonical no_items k = k
merged_canonical (item d ds) k = merge_one (text_of d) d (merged ds) k.0 (merged_canonical ds k.1)

join_canonical : (d : List ℕ) (x : Data) → IsCanonical x → IsCanonical (join_json d x)
join_canonical d x k = ((tt, (k, tt)), (tt, tt))

finished_canonical : (ds : Items) → ItemsAreCanonical ds → IsCanonical (finished ds)
finished_canonical no_items k = tt
finished_canonical (item (string s) no_items) k = tt
finished_canonical ds k = join_canonical [] (array ds) k

joined_canonical : (ds : Items) → ItemsAreCanonical ds → IsCanonical (joined ds)
joined_canonical ds k = finished_canonical (merged (spliced ds)) (merged_canonical (spliced ds) (spliced_canonical ds k))

rendered_join_canonical : (d : List ℕ) (x : Data) → IsCanonical x → IsCanonical (rendered_join d x)
rendered_join_canonical [] (array ds) k = joined_canonical ds k
rendered_join_canonical d x k = join_canonical d x k

-- ---- targets

ref_canonical : (o : Home) → IsCanonical (ref_json o)
ref_canonical (Local n) = (tt, (tt, tt))
ref_canonical (Import e) = (tt, (tt, tt))
ref_canonical (ImportList e) = ((tt, ((tt, (tt, tt)), tt)), (tt, tt))

attribute_canonical : (a : List ℕ) (o : Home) → IsCanonical (attribute_json a o)
attribute_canonical a (Local n) = ((tt, (tt, tt)), (tt, tt))
attribute_canonical a (Import e) = (tt, (tt, tt))
attribute_canonical a (ImportList e) = ((tt, ((tt, (tt, tt)), tt)), (tt, tt))

-- ---- all forms

module _ (h : Homes) where
  keys_above : (k : List ℕ) (fs : Fields) → KeysAbove k fs → AllAbove k (rendered_fields h fs)
  keys_above k no_fields a = tt
  keys_above k (field l p fs) a = (a.0, keys_above k fs a.1)

  mutual
    canonical : (e : Plain) → IsWell e → IsOrdered e → IsCanonical (rendered h e)
    canonical (text s) w o = tt
    canonical (whole z) w o = whole_number z w
    canonical (truth b) w o = tt
    canonical (list_of ps) w o = items_canonical ps w o
    canonical (object_of fs) w o = fields_canonical fs w o
    canonical (pseudo p) w o = (tt, (tt, tt))
    canonical (ref t) w o = ref_canonical (h.target t)
    canonical (get_att t a) w o = attribute_canonical a (h.attribute t a)
    canonical (concat ps) w o = joined_canonical (rendered_items h ps) (items_canonical ps w o)
    canonical (join d e) w o = rendered_join_canonical d (rendered h e) (canonical e w o)
    canonical (select n e) w o = ((ltb-true n (2 ^ 64) w.0, (canonical e w.1 o, tt)), (tt, tt))
    canonical (split d e) w o = ((tt, (canonical e w.1 o, tt)), (tt, tt))
    canonical (choice c x y) w o = ((tt, (canonical x w.0 o.0, (canonical y w.1 o.1, tt))), (tt, tt))
    canonical (find_in_map m x y) w o = ((tt, (canonical x w.0 o.0, (canonical y w.1 o.1, tt))), (tt, tt))
    canonical (import_value e) w o = (tt, (tt, tt))

    items_canonical : (ps : Plains) → AreWell ps → AreOrdered ps → ItemsAreCanonical (rendered_items h ps)
    items_canonical no_plains w o = tt
    items_canonical (plain p ps) w o = (canonical p w.0 o.0, items_canonical ps w.1 o.1)

    fields_canonical : (fs : Fields) → FieldsAreWell fs → FieldsAreOrdered fs → MembersAreCanonical (rendered_fields h fs)
    fields_canonical no_fields w o = tt
    fields_canonical (field k p fs) w o = (canonical p w.1 o.1, (keys_above k fs o.0, fields_canonical fs w.2 o.2))

  mutual
    condition_canonical : (c : Condition) → IsWellCondition c → HasOrderedOperands c → IsCanonical (rendered_condition h c)
    condition_canonical (equals x y) w o = ((canonical x w.0 o.0, (canonical y w.1 o.1, tt)), (tt, tt))
    condition_canonical (all_of cs) w o = (conditions_canonical cs w.1 o, (tt, tt))
    condition_canonical (any_of cs) w o = (conditions_canonical cs w.1 o, (tt, tt))
    condition_canonical (negation c) w o = ((condition_canonical c w o, tt), (tt, tt))
    condition_canonical (named c) w o = (tt, (tt, tt))

    conditions_canonical : (cs : Conditions) → AreWellConditions cs → HaveOrderedOperands cs → ItemsAreCanonical (rendered_conditions h cs)
    conditions_canonical no_conditions w o = tt
    conditions_canonical (condition c cs) w o = (condition_canonical c w.0 o.0, conditions_canonical cs w.1 o.1)

pub rendered_is_canonical : RenderedIsCanonical
rendered_is_canonical h e w o = canonical h e w o

pub rendered_condition_is_canonical : RenderedConditionIsCanonical
rendered_condition_is_canonical h c w o = condition_canonical h c w o
