-- What the meaning of a plain expression needs of the tree and of the values, at the stack of the expression's owner (own).
use Rattle.std.specs.Prelude.{ℕ, List, Bool, Option}
use Rattle.serde_json.specs.Data.{Data}
use Rattle.cdk_plain.specs.Plain.{Pseudo}

-- A value, gone, or undefined.
pub data Meaning : Type 0 where
  Means : Data → Meaning
  MeansNothing : Meaning
  Undefined : Meaning

pub record Source : Type 0 where
  -- of each but `AWS::NoValue`
  pub pseudo_text : Pseudo → List ℕ
  -- a parameter's text or items, the physical text of a resource that is made
  pub target : ℕ → Meaning
  pub attribute : ℕ → List ℕ → Meaning
  -- true, false or undefined
  pub condition : ℕ → Option Bool
  pub leaf : ℕ → List ℕ → List ℕ → Option Data
  -- the exports of other applications
  pub outside : List ℕ → Option (List ℕ)
