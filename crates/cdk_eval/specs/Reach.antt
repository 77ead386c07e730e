-- What reaches itself, by names that lead to names (own).
use Rattle.std.specs.Prelude.{◌≡◌, ◌⊎◌, ℕ, zero, suc, ◌||◌, List, [], ◌∷◌, Bool, false, bytes_eq}
use Rattle.std.specs.List.{list_any}

-- one of the names
abbrev pub is_among : List ℕ → List (List ℕ) → Bool
is_among n ns = list_any (bytes_eq n) ns

-- the same as a fact
abbrev pub IsIn : List ℕ → List (List ℕ) → Type 0
IsIn n [] = ⊥
IsIn n (m ∷ ms) = (m ≡ n) ⊎ IsIn n ms

-- from `c` one comes to `goal` by at most so many steps, each to a name that the last one leads to
abbrev pub comes_to : (List ℕ → List (List ℕ)) → ℕ → List ℕ → List ℕ → Bool
comes_to leads zero goal c = false
comes_to leads (suc n) goal c = list_any (λ d. bytes_eq d goal || comes_to leads n goal d) (leads c)
