-- The template JSON of numbers.
use Rattle.std.specs.Prelude.{ℤ, [], Option, Some, None}
use Rattle.serde_json.specs.Data.{Data, string, number}
use Rattle.cdk_plain.specs.Plain.{num_of}

-- a number that isn't whole is refused before, and stands for an empty text here
abbrev pub number_json : Option ℤ → Data
number_json None = string []
number_json (Some z) = number (num_of z)
