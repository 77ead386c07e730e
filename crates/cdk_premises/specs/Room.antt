-- How deep the template JSON of plain expressions and conditions may nest (own limits: JSON text nests 127 levels at most, and what
-- stands around a value in its template takes some of them).
use Rattle.std.specs.Prelude.{ℕ}
use Rattle.cdk_plain.specs.Plain.{Plain, list_of, object_of}

-- Of the three levels of JSON that each level of a plain expression may take, an object and an array leave two.
abbrev pub spare : Plain → ℕ
spare (list_of ps) = 2
spare (object_of fs) = 2
spare p = 0

-- the levels of its JSON, at most, where its own depth is within the limit of sizes, 32
abbrev pub room : Plain → ℕ
room (list_of ps) = 94
room (object_of fs) = 94
room p = 96

-- those of a condition
abbrev pub condition_room : ℕ
condition_room = 95
