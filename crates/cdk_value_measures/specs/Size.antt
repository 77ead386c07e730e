-- The size and the depth of plain expressions and conditions (own limits): 16 for each literal, array, object, Concat, intrinsic and
-- condition, and 1 for each byte of texts, keys, delimiters, names and paths; an index counts nothing.
use Rattle.std.specs.Prelude.{ℕ, suc, ◌+◌, List, length, max}
use Rattle.cdk_plain.specs.Plain.{pseudo_name, Plain, text, whole, truth, list_of, object_of, pseudo, ref, get_att, concat, join, select, split, choice, find_in_map, import_value, Plains, no_plains, plain, Fields, no_fields, field, Condition, equals, all_of, any_of, negation, named, Conditions, no_conditions, condition}

-- ---- sizes; `path` tells the path of each construct

abbrev mutual
  pub size : (ℕ → List ℕ) → Plain → ℕ
  size path (text s) = 16 + length s
  size path (whole z) = 16
  size path (truth b) = 16
  size path (list_of ps) = 16 + sizes path ps
  size path (object_of fs) = 16 + field_sizes path fs
  size path (pseudo p) = 16 + length (pseudo_name p)
  size path (ref t) = 16 + length (path t)
  size path (get_att t a) = 16 + (length (path t) + length a)
  size path (concat ps) = 16 + sizes path ps
  size path (join d e) = 16 + (length d + size path e)
  size path (select n e) = 16 + size path e
  size path (split d e) = 16 + (length d + size path e)
  size path (choice c x y) = 16 + (length (path c) + (size path x + size path y))
  size path (find_in_map m x y) = 16 + (length (path m) + (size path x + size path y))
  size path (import_value e) = 16 + length e

  pub sizes : (ℕ → List ℕ) → Plains → ℕ
  sizes path no_plains = 0
  sizes path (plain p ps) = size path p + sizes path ps

  pub field_sizes : (ℕ → List ℕ) → Fields → ℕ
  field_sizes path no_fields = 0
  field_sizes path (field k p fs) = length k + (size path p + field_sizes path fs)

abbrev mutual
  pub condition_size : (ℕ → List ℕ) → Condition → ℕ
  condition_size path (equals x y) = 16 + (size path x + size path y)
  condition_size path (all_of cs) = 16 + condition_sizes path cs
  condition_size path (any_of cs) = 16 + condition_sizes path cs
  condition_size path (negation c) = 16 + condition_size path c
  condition_size path (named t) = 16 + length (path t)

  pub condition_sizes : (ℕ → List ℕ) → Conditions → ℕ
  condition_sizes path no_conditions = 0
  condition_sizes path (condition c cs) = condition_size path c + condition_sizes path cs

-- ---- depths: a literal and a target have 1, each other form 1 more than its deepest part

-- with an array as the argument of `Fn::Join` or `Fn::Select`, which counts with its expression
abbrev pub with_array : Plain → ℕ → ℕ
with_array (list_of ps) deep = deep
with_array p deep = suc deep

abbrev mutual
  pub depth : Plain → ℕ
  depth (list_of ps) = suc (deepest ps)
  depth (object_of fs) = suc (deepest_field fs)
  depth (concat ps) = suc (deepest ps)
  depth (join d e) = with_array e (depth e)
  depth (select n e) = with_array e (depth e)
  depth (split d e) = suc (depth e)
  depth (choice c x y) = suc (max (depth x) (depth y))
  depth (find_in_map m x y) = suc (max (depth x) (depth y))
  depth p = 1

  -- of parts one after another, 0 where there is none
  pub deepest : Plains → ℕ
  deepest no_plains = 0
  deepest (plain p ps) = max (depth p) (deepest ps)

  pub deepest_field : Fields → ℕ
  deepest_field no_fields = 0
  deepest_field (field k p fs) = max (depth p) (deepest_field fs)

abbrev mutual
  pub condition_depth : Condition → ℕ
  condition_depth (equals x y) = suc (max (depth x) (depth y))
  condition_depth (all_of cs) = suc (deepest_condition cs)
  condition_depth (any_of cs) = suc (deepest_condition cs)
  condition_depth (negation c) = suc (condition_depth c)
  condition_depth (named t) = 1

  pub deepest_condition : Conditions → ℕ
  deepest_condition no_conditions = 0
  deepest_condition (condition c cs) = max (condition_depth c) (deepest_condition cs)
