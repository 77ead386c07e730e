-- How many components are visible, as the code tells it (own).
use Rattle.std.specs.Prelude.{◌≡◌, ℕ, List, [], ◌∷◌}
use Rattle.cdk_names.specs.declared.visible.Visible.{Visible}
use Rattle.cdk_names.specs.declared.visible.Visible.TheVariants.{Nothing, One, Many}

abbrev pub Shows : Visible → List (List ℕ) → Type 0
Shows Nothing cs = cs ≡ []
Shows (One c) cs = cs ≡ c.now ∷ []
Shows Many cs = (c : List ℕ) × (d : List ℕ) × (rest : List (List ℕ)) × (cs ≡ c ∷ d ∷ rest)
