-- Measures of plain expressions and conditions, as they fit 64 bits; `path` tells the path of each construct.
use Rattle.std.specs.Prelude.{ℕ, List, Bool, true, false}
use Rattle.cdk_measure.specs.Wholes.{capped}
use Rattle.cdk_plain.specs.Plain.{Plain, list_of, Plains, Fields, Condition, Conditions}
use Rattle.cdk_value_measures.specs.Size.{condition_depth, condition_size, condition_sizes, deepest, deepest_condition, deepest_field, depth, field_sizes, size, sizes}
use Rattle.cdk_measure.specs.declared.measure.Measure.{Measure}
use Rattle.cdk_measure.specs.declared.measure.Parts.{Parts}

abbrev pub is_array : Plain → Bool
is_array (list_of ps) = true
is_array p = false

abbrev pub measure : (ℕ → List ℕ) → Plain → Measure
measure path p = record { size = capped (size path p); depth = capped (depth p); is_list = is_array p }

abbrev pub plains_parts : (ℕ → List ℕ) → Plains → Parts
plains_parts path ps = record { size = capped (sizes path ps); deepest = capped (deepest ps) }

abbrev pub fields_parts : (ℕ → List ℕ) → Fields → Parts
fields_parts path fs = record { size = capped (field_sizes path fs); deepest = capped (deepest_field fs) }

abbrev pub condition_measure : (ℕ → List ℕ) → Condition → Measure
condition_measure path c = record { size = capped (condition_size path c); depth = capped (condition_depth c); is_list = false }

abbrev pub conditions_parts : (ℕ → List ℕ) → Conditions → Parts
conditions_parts path cs = record { size = capped (condition_sizes path cs); deepest = capped (deepest_condition cs) }
