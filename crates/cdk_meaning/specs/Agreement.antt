-- When the outcome of a template's value agrees with the meaning of a plain expression (own).
use Rattle.std.specs.Prelude.{◌≡◌, ◌↔◌, Bool, Option, Some, None, ⊤}
use Rattle.cdk_eval.specs.Outcomes.{Outcome, Value, Gone, Fault, Truth, Holds, Untold}
use Rattle.cdk_meaning.specs.Source.{Meaning, Means, MeansNothing, Undefined}

-- Both are the same value, both are gone, or one is a fault and the other undefined.
abbrev pub Agrees : Outcome → Meaning → Type 0
Agrees (Value d) (Means e) = d ≡ e
Agrees (Value d) MeansNothing = ⊥
Agrees (Value d) Undefined = ⊥
Agrees Gone (Means e) = ⊥
Agrees Gone MeansNothing = ⊤
Agrees Gone Undefined = ⊥
Agrees (Fault f) (Means e) = ⊥
Agrees (Fault f) MeansNothing = ⊥
Agrees (Fault f) Undefined = ⊤

-- An outcome whose faults are told apart no more.
abbrev pub seen : Outcome → Meaning
seen (Value d) = Means d
seen Gone = MeansNothing
seen (Fault f) = Undefined

-- A condition's outcome, its fault forgotten.
abbrev pub seen_truth : Truth → Option Bool
seen_truth (Holds b) = Some b
seen_truth (Untold f) = None

-- Agreement is an equation of meanings: so it never turns on which fault comes first.
abbrev pub AgreementIsSeen : Type 0
AgreementIsSeen = (o : Outcome) (m : Meaning) → Agrees o m ↔ (seen o ≡ m)
