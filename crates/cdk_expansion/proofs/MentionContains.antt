-- What an empty list, a list of one and a longer list contain.
use Rattle.std.proofs.Common.{◌≡◌, ◌⊎◌, inl, inr, List, [], ◌∷◌, length, refl, sym, arith}
use Rattle.std.specs.List.{Contains}
use Rattle.std.proofs.lemmas.List.Elements.{Contains-append_cases, Contains-append_left, Contains-append_right, Contains-push, Contains-push_cases}

pub contains_no : {X : Type 0} (x : X) → Contains [] x → ⊥
contains_no {X} x c = let none : length {A = X} [] ≡ 0 = refl in omega (arith, none, c.1)

pub contains_one : {X : Type 0} (x y : X) → Contains (x ∷ []) y → y ≡ x
contains_one x y c = elim (Contains-push_cases [] x y c) [
  | inl n ↦ absurd (contains_no y n)
  | inr e ↦ sym e
]

pub contains_first : {X : Type 0} (x : X) (xs : List X) → Contains (x ∷ xs) x
contains_first x xs = Contains-append_left (x ∷ []) xs x (Contains-push [] x)

pub contains_later : {X : Type 0} (x : X) (xs : List X) (y : X) → Contains xs y → Contains (x ∷ xs) y
contains_later x xs y c = Contains-append_right (x ∷ []) xs y c

pub first_or_rest : {X : Type 0} (x : X) (xs : List X) (y : X) → Contains (x ∷ xs) y → (y ≡ x) ⊎ Contains xs y
first_or_rest x xs y c = elim (Contains-append_cases (x ∷ []) xs y c) [
  | inl one ↦ inl (contains_one x y one)
  | inr r ↦ inr r
]
