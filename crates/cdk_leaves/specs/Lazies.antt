-- What is kept of lazies, and what they are shown as.
use Rattle.std.specs.Prelude.{◌≡◌, ℕ, List, [], ◌∷◌, Option, Some, None}
use Rattle.std.specs.Option.{unwrap_or}
use Rattle.serde_json.specs.Data.{Data, string}

-- what is kept of lazies
abbrev pub Results : Type 0
Results = ℕ → Option Data

abbrev pub no_results : Results
no_results n = None

-- where nothing is kept of a lazy, an empty text stands for it
abbrev pub shown : Results → ℕ → Data
shown kept n = unwrap_or (kept n) (string [])

-- the lazy itself, where nothing is kept of it
abbrev pub lazy_missing : Option Data → ℕ → List ℕ
lazy_missing None n = n ∷ []
lazy_missing (Some d) n = []

pub record IsKept (kept : Results) (n : ℕ) : Type 0 where
  pub result : Data
  pub is : kept n ≡ Some result

-- every result stays as it was
abbrev pub Stays : Results → Results → Type 0
Stays before after = (n : ℕ) (r : Data) → before n ≡ Some r → after n ≡ Some r
