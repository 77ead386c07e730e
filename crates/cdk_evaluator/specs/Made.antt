-- The exports that the outputs of a stack make.
use Rattle.std.specs.Prelude.{ℕ, List, ◌∷◌, Option, Some}
use Rattle.cdk_eval.specs.Outcomes.{OutputOutcome, OutputText}
use Rattle.cdk_evaluator.specs.declared.outputs.Export.{Export}

abbrev pub export_pair : Export → List ℕ × List ℕ
export_pair x = (x.name, x.text)

-- an output that is a text, where it has a name, before the rest
abbrev pub named_entry : OutputOutcome → Option (List ℕ) → List (List ℕ × List ℕ) → List (List ℕ × List ℕ)
named_entry (OutputText t) (Some n) xs = (n, t) ∷ xs
named_entry _ _ xs = xs
