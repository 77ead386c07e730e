-- A rendered value is one that JSON can hold and that reads back from its text: whole numbers of 64 bits, and keys in order (RFC 8259
-- leaves the order of keys open; that it is by bytes is own).
use Rattle.std.specs.Prelude.{◌≡◌, ℕ, List, ⊤}
use Rattle.std.specs.Ordering.{nat_cmp}
use Rattle.std.specs.Cmp.Lexicographic.{slice_cmp}
use Rattle.std.specs.declared.cmp.Ordering.TheVariants.{Greater}
use Rattle.cdk_base.specs.Pretty.{IsCanonical}
use Rattle.cdk_plain.specs.Plain.{Plain, text, whole, truth, list_of, object_of, pseudo, ref, get_att, concat, join, select, split, choice, find_in_map, import_value, Plains, no_plains, plain, Fields, no_fields, field, IsWell, Condition, equals, all_of, any_of, negation, named, Conditions, no_conditions, condition, IsWellCondition}
use Rattle.cdk_plain.specs.Rendered.{Homes, rendered, rendered_condition}

-- each key is above k
abbrev pub KeysAbove : List ℕ → Fields → Type 0
KeysAbove k no_fields = ⊤
KeysAbove k (field l p fs) = (slice_cmp nat_cmp l k ≡ Greater) × KeysAbove k fs

-- The keys of each object stand in order.
abbrev mutual
  pub IsOrdered : Plain → Type 0
  IsOrdered (text s) = ⊤
  IsOrdered (whole z) = ⊤
  IsOrdered (truth b) = ⊤
  IsOrdered (list_of ps) = AreOrdered ps
  IsOrdered (object_of fs) = FieldsAreOrdered fs
  IsOrdered (pseudo p) = ⊤
  IsOrdered (ref t) = ⊤
  IsOrdered (get_att t a) = ⊤
  IsOrdered (concat ps) = AreOrdered ps
  IsOrdered (join d e) = IsOrdered e
  IsOrdered (select n e) = IsOrdered e
  IsOrdered (split d e) = IsOrdered e
  IsOrdered (choice c x y) = IsOrdered x × IsOrdered y
  IsOrdered (find_in_map m x y) = IsOrdered x × IsOrdered y
  IsOrdered (import_value e) = ⊤

  pub AreOrdered : Plains → Type 0
  AreOrdered no_plains = ⊤
  AreOrdered (plain p ps) = IsOrdered p × AreOrdered ps

  pub FieldsAreOrdered : Fields → Type 0
  FieldsAreOrdered no_fields = ⊤
  FieldsAreOrdered (field k p fs) = KeysAbove k fs × IsOrdered p × FieldsAreOrdered fs

abbrev mutual
  pub HasOrderedOperands : Condition → Type 0
  HasOrderedOperands (equals x y) = IsOrdered x × IsOrdered y
  HasOrderedOperands (all_of cs) = HaveOrderedOperands cs
  HasOrderedOperands (any_of cs) = HaveOrderedOperands cs
  HasOrderedOperands (negation c) = HasOrderedOperands c
  HasOrderedOperands (named c) = ⊤

  pub HaveOrderedOperands : Conditions → Type 0
  HaveOrderedOperands no_conditions = ⊤
  HaveOrderedOperands (condition c cs) = HasOrderedOperands c × HaveOrderedOperands cs

abbrev pub RenderedIsCanonical : Type 0
RenderedIsCanonical = (h : Homes) (e : Plain) → IsWell e → IsOrdered e → IsCanonical (rendered h e)

abbrev pub RenderedConditionIsCanonical : Type 0
RenderedConditionIsCanonical = (h : Homes) (c : Condition) → IsWellCondition c → HasOrderedOperands c → IsCanonical (rendered_condition h c)
