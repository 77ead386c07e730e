-- A list without a number that it contains: it is shorter, and contains every other number that it contained.
use Rattle.std.proofs.Common.{◌≡◌, ◌<◌, ℕ, inl, inr, List, [], ◌∷◌, length, sym, ◌∙◌, arith}
use Rattle.std.specs.List.{Contains}
use Rattle.cdk_expansion.proofs.MentionContains.{contains_first, contains_later, contains_no, first_or_rest}

pub record Without (xs : List ℕ) (x : ℕ) : Type 0 where
  pub rest : List ℕ
  pub shorter : length rest < length xs
  pub others : (y : ℕ) → Contains xs y → (y ≡ x → ⊥) → Contains rest y

without_first : (x : ℕ) (xs : List ℕ) (y : ℕ) → y ≡ x → Without (x ∷ xs) y
without_first x xs y e = record {
  rest = xs;
  shorter = grind arith;
  others = λ z c other. elim (first_or_rest x xs z c) [
    | inl same ↦ absurd (other (same ∙ sym e))
    | inr r ↦ r
  ];
}

with_first : (x : ℕ) (xs : List ℕ) (y : ℕ) → Without xs y → Without (x ∷ xs) y
with_first x xs y w = record {
  rest = x ∷ w.rest;
  shorter = grind (arith, w.shorter);
  others = λ z c other. elim (first_or_rest x xs z c) [
    | inl same ↦ rw same (contains_first x w.rest)
    | inr r ↦ contains_later x w.rest z (w.others z r other)
  ];
}

pub without : (xs : List ℕ) (x : ℕ) → Contains xs x → Without xs x
without [] x c = absurd (contains_no x c)
without (y ∷ xs) x c = elim (first_or_rest y xs x c) [
  | inl e ↦ without_first y xs x e
  | inr r ↦ with_first y xs x (without xs x r)
]
