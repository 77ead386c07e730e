-- Measures of parts make that of the whole, also where sums stop.
use Rattle.std.proofs.Common.{◌≡◌, ℕ, suc, ◌+◌, ◌*◌, List, [], length, min, max, Bool, true, false, refl, ap, ap₂, ◌∙◌, arith}
use Rattle.cdk_dependencies.specs.Counts.{most}
use Rattle.cdk_plain.specs.Plain as plain
use Rattle.cdk_plain.specs.Plain.{Plain, Plains, Fields, Condition, Conditions, list_of, object_of, concat}
use Rattle.cdk_measure.specs.Wholes.{around, around_list, around_two, capped, collected, with_part}
use Rattle.cdk_value_measures.specs.Measures.{condition_measure, conditions_parts, fields_parts, measure, plains_parts}
use Rattle.cdk_value_measures.specs.Size.{condition_depth, condition_size, condition_sizes, deepest, deepest_condition, deepest_field, depth, field_sizes, size, sizes}
use Rattle.cdk_measure.specs.declared.measure.Measure.{Measure}
use Rattle.cdk_measure.specs.declared.measure.Parts.{Parts}

-- ---- numbers that stop at a limit

sum_within : (m a b : ℕ) → min (a + min b m) m ≡ min (a + b) m
sum_within m a b = omega arith

suc_within : (m a : ℕ) → min (suc (min a m)) m ≡ min (suc a) m
suc_within m a = omega arith

max_within : (m a b : ℕ) → max (min a m) (min b m) ≡ min (max a b) m
max_within m a b = omega arith

-- a part's size with the bytes around it
pub capped_within : (a b : ℕ) → capped (a + capped b) ≡ capped (a + b)
capped_within a b = sum_within most a b

pub capped_deeper : (a : ℕ) → capped (suc (capped a)) ≡ capped (suc a)
capped_deeper a = suc_within most a

pub capped_deepest : (a b : ℕ) → max (capped a) (capped b) ≡ capped (max a b)
capped_deepest a b = max_within most a b

-- with two layers of bytes
layered : (m a b c : ℕ) → min (a + (b + min c m)) m ≡ min (a + (b + c)) m
layered m a b c = omega arith

-- of two parts
layered_two : (m a b c d : ℕ) → min (a + (b + (min c m + min d m))) m ≡ min (a + (b + (c + d))) m
layered_two m a b c d = omega arith

summed : (m a b c : ℕ) → min (a + (min b m + min c m)) m ≡ min (a + (b + c)) m
summed m a b c = omega arith

-- ---- records of equal numbers

abbrev made : Bool → ℕ → ℕ → Measure
made l s d = record { size = s; depth = d; is_list = l }

abbrev made_parts : ℕ → ℕ → Parts
made_parts s d = record { size = s; deepest = d }

-- ---- one part or two

module _ (path : ℕ → List ℕ) where
  around_size : (bytes : ℕ) (p : Plain) → capped (16 + (bytes + capped (size path p))) ≡ capped (16 + (bytes + size path p))
  around_size bytes p = layered most 16 bytes (size path p)

  pub around_split : (d : List ℕ) (p : Plain) → around (length d) (measure path p) ≡ measure path (plain.split d p)
  around_split d p = ap₂ (made false) (around_size (length d) p) (capped_deeper (depth p))

  -- the depth of an expression over an array is the array's
  list_depth : (d : List ℕ) (p : Plain) → (around_list (length d) (measure path p)).depth ≡ capped (depth (plain.join d p))
  list_depth d (list_of ps) = refl
  list_depth d p = capped_deeper (depth p)

  pub around_join : (d : List ℕ) (p : Plain) → around_list (length d) (measure path p) ≡ measure path (plain.join d p)
  around_join d p = ap₂ (made false) (around_size (length d) p) (list_depth d p)

  select_size : (n : ℕ) (p : Plain) → capped (16 + (0 + capped (size path p))) ≡ capped (size path (plain.select n p))
  select_size n p = around_size 0 p ∙ ap capped (omega arith)

  pub around_select : (n : ℕ) (p : Plain) → around_list 0 (measure path p) ≡ measure path (plain.select n p)
  around_select n p = ap₂ (made false) (select_size n p) (list_depth [] p)

  two_size : (bytes : ℕ) (x y : Plain) → capped (16 + (bytes + (capped (size path x) + capped (size path y)))) ≡ capped (16 + (bytes + (size path x + size path y)))
  two_size bytes x y = layered_two most 16 bytes (size path x) (size path y)

  two_depth : (a b : ℕ) → capped (suc (max (capped a) (capped b))) ≡ capped (suc (max a b))
  two_depth a b = ap (λ n. capped (suc n)) (capped_deepest a b) ∙ capped_deeper (max a b)

  pub around_choice : (c : ℕ) (x y : Plain) → around_two (length (path c)) (measure path x) (measure path y) ≡ measure path (plain.choice c x y)
  around_choice c x y = ap₂ (made false) (two_size (length (path c)) x y) (two_depth (depth x) (depth y))

  pub around_find : (m : ℕ) (x y : Plain) → around_two (length (path m)) (measure path x) (measure path y) ≡ measure path (plain.find_in_map m x y)
  around_find m x y = ap₂ (made false) (two_size (length (path m)) x y) (two_depth (depth x) (depth y))

  pub around_equals : (x y : Plain) → around_two 0 (measure path x) (measure path y) ≡ condition_measure path (plain.equals x y)
  around_equals x y = ap₂ (made false) (two_size 0 x y ∙ ap capped (omega arith)) (two_depth (depth x) (depth y))

  pub around_negation : (c : Condition) → around 0 (condition_measure path c) ≡ condition_measure path (plain.negation c)
  around_negation c = ap₂ (made false) (layered most 16 0 (condition_size path c) ∙ ap capped (omega arith)) (capped_deeper (condition_depth c))

  -- ---- several parts

  pub one_plain : (p : Plain) (ps : Plains) → with_part 0 (measure path p) (plains_parts path ps) ≡ plains_parts path (plain.plain p ps)
  one_plain p ps = ap₂ made_parts (summed most 0 (size path p) (sizes path ps) ∙ ap capped (omega arith)) (capped_deepest (depth p) (deepest ps))

  pub one_field : (k : List ℕ) (p : Plain) (fs : Fields) → with_part (length k) (measure path p) (fields_parts path fs) ≡ fields_parts path (plain.field k p fs)
  one_field k p fs = ap₂ made_parts (summed most (length k) (size path p) (field_sizes path fs)) (capped_deepest (depth p) (deepest_field fs))

  pub one_condition : (c : Condition) (cs : Conditions) → with_part 0 (condition_measure path c) (conditions_parts path cs) ≡ conditions_parts path (plain.condition c cs)
  one_condition c cs = ap₂ made_parts (summed most 0 (condition_size path c) (condition_sizes path cs) ∙ ap capped (omega arith)) (capped_deepest (condition_depth c) (deepest_condition cs))

  pub whole_list : (ps : Plains) → collected true (plains_parts path ps) ≡ measure path (list_of ps)
  whole_list ps = ap₂ (made true) (capped_within 16 (sizes path ps)) (capped_deeper (deepest ps))

  pub whole_concat : (ps : Plains) → collected false (plains_parts path ps) ≡ measure path (concat ps)
  whole_concat ps = ap₂ (made false) (capped_within 16 (sizes path ps)) (capped_deeper (deepest ps))

  pub whole_object : (fs : Fields) → collected false (fields_parts path fs) ≡ measure path (object_of fs)
  whole_object fs = ap₂ (made false) (capped_within 16 (field_sizes path fs)) (capped_deeper (deepest_field fs))

  pub whole_all : (cs : Conditions) → collected false (conditions_parts path cs) ≡ condition_measure path (plain.all_of cs)
  whole_all cs = ap₂ (made false) (capped_within 16 (condition_sizes path cs)) (capped_deeper (deepest_condition cs))

  pub whole_any : (cs : Conditions) → collected false (conditions_parts path cs) ≡ condition_measure path (plain.any_of cs)
  whole_any cs = ap₂ (made false) (capped_within 16 (condition_sizes path cs)) (capped_deeper (deepest_condition cs))
