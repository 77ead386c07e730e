-- How many lines a report has. No name, key or value adds one, so none forges a line.
use Rattle.std.specs.Prelude.{◌≡◌, ◌==◌, ℕ, ◌+◌, List, length, count_by, sum_by}
use Rattle.cdk_eval.specs.Stack.{ResourceOutcome, StackOutcome, properties_of}
use Rattle.cdk_printing.specs.Lines.{report_text}

-- the line feeds of a text
abbrev pub feeds : List ℕ → ℕ
feeds s = count_by (λ c. c == 10) s

-- one, and one for each property of a made one
abbrev pub resource_lines : ResourceOutcome → ℕ
resource_lines r = 1 + length (properties_of r.presence r.properties)

abbrev pub stack_lines : StackOutcome → ℕ
stack_lines s = 1 + (sum_by resource_lines s.resources + length s.outputs)

abbrev pub line_count : List StackOutcome → ℕ
line_count ss = sum_by stack_lines ss

abbrev pub NoLineIsForged : Type 0
NoLineIsForged = (ss : List StackOutcome) → feeds (report_text ss) ≡ line_count ss
