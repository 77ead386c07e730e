-- The reports whose values have a compact text: those without floats. JSON leaves a float's digits to the writer.
use Rattle.std.specs.Prelude.{◌≡◌, ℕ, List, [], ◌∷◌, false, ⊤}
use Rattle.serde_json.specs.Written.{has_float}
use Rattle.cdk_eval.specs.Values.{Values}
use Rattle.cdk_eval.specs.Outcomes.{Outcome, Value, Gone, Fault}
use Rattle.cdk_eval.specs.Stack.{Stack, ResourceOutcome, StackOutcome, properties_of}
use Rattle.cdk_eval.specs.Assembly.{assembly_outcome}

abbrev pub OutcomeIsPrintable : Outcome → Type 0
OutcomeIsPrintable (Value d) = has_float d ≡ false
OutcomeIsPrintable Gone = ⊤
OutcomeIsPrintable (Fault f) = ⊤

abbrev pub PropertiesArePrintable : List (List ℕ × Outcome) → Type 0
PropertiesArePrintable [] = ⊤
PropertiesArePrintable (p ∷ ps) = OutcomeIsPrintable p.1 × PropertiesArePrintable ps

-- the properties of a made one alone
abbrev pub ResourcesArePrintable : List ResourceOutcome → Type 0
ResourcesArePrintable [] = ⊤
ResourcesArePrintable (r ∷ rs) = PropertiesArePrintable (properties_of r.presence r.properties) × ResourcesArePrintable rs

abbrev pub IsPrintable : List StackOutcome → Type 0
IsPrintable [] = ⊤
IsPrintable (s ∷ ss) = ResourcesArePrintable s.resources × IsPrintable ss

-- what an assembly comes to is printable, whatever its templates and the values from outside
abbrev pub OutcomesArePrintable : Type 0
OutcomesArePrintable = (v : Values) (ss : List Stack) → IsPrintable (assembly_outcome v ss)
