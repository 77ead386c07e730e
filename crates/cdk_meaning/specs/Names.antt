-- Lists of names and of constructs (own).
use Rattle.std.specs.Prelude.{◌≡◌, ℕ, List, [], ◌∷◌, false, ◌⊎◌, ⊤}
use Rattle.cdk_eval.specs.Reach.{is_among}

abbrev pub AreDistinct : List (List ℕ) → Type 0
AreDistinct [] = ⊤
AreDistinct (n ∷ ns) = (is_among n ns ≡ false) × AreDistinct ns

abbrev pub IsIn : {A : Type 0} → A → List A → Type 0
IsIn a [] = ⊥
IsIn a (b ∷ bs) = (b ≡ a) ⊎ IsIn a bs

abbrev pub Each : {A : Type 0} → (A → Type 0) → List A → Type 0
Each P [] = ⊤
Each P (a ∷ as') = P a × Each P as'
