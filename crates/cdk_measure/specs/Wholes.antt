-- How the measures of parts make that of a whole, as they fit 64 bits.
use Rattle.std.specs.Prelude.{ℕ, suc, ◌+◌, min, max, Bool, false, if◌then◌else◌}
use Rattle.cdk_dependencies.specs.Counts.{most}
use Rattle.cdk_measure.specs.declared.measure.Measure.{Measure}
use Rattle.cdk_measure.specs.declared.measure.Parts.{Parts}

abbrev pub capped : ℕ → ℕ
capped n = min n most

-- ---- of parts a whole; `bytes` are those of the whole's own texts

abbrev pub nothing : Measure
nothing = record { size = 0; depth = 0; is_list = false }

abbrev pub leaf : ℕ → Measure
leaf bytes = record { size = capped (16 + bytes); depth = 1; is_list = false }

abbrev pub around : ℕ → Measure → Measure
around bytes m = record { size = capped (16 + (bytes + m.size)); depth = capped (suc m.depth); is_list = false }

abbrev pub around_list : ℕ → Measure → Measure
around_list bytes m = record { size = capped (16 + (bytes + m.size)); depth = if m.is_list then m.depth else capped (suc m.depth); is_list = false }

abbrev pub around_two : ℕ → Measure → Measure → Measure
around_two bytes m n = record { size = capped (16 + (bytes + (m.size + n.size))); depth = capped (suc (max m.depth n.depth)); is_list = false }

abbrev pub no_parts : Parts
no_parts = record { size = 0; deepest = 0 }

abbrev pub with_part : ℕ → Measure → Parts → Parts
with_part bytes m ps = record { size = capped (bytes + (m.size + ps.size)); deepest = max m.depth ps.deepest }

abbrev pub collected : Bool → Parts → Measure
collected is_list ps = record { size = capped (16 + ps.size); depth = capped (suc ps.deepest); is_list = is_list }
