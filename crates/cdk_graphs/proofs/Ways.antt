-- Ways from number to number, and numbers in lists.
use Rattle.std.proofs.Common.{◌≡◌, ℕ, [], ◌∷◌, sym, refl, subst, inl, inr, arith}
use Rattle.std.specs.Prelude.{◌⊎◌, Contains}
use Rattle.std.proofs.lemmas.List.Elements.{Contains-push_cases}
use Rattle.cdk_graphs.specs.Graph.{Graph, leads, Reaches, once, further}

-- ---- numbers in lists

pub in_none : (n : ℕ) → Contains [] n → ⊥
in_none n i = omega (arith, i.1)

pub in_one : (x n : ℕ) → Contains (x ∷ []) n → x ≡ n
in_one x n i = at (Contains-push_cases [] x n i)
  where
    at : Contains [] n ⊎ (x ≡ n) → x ≡ n
    at (inl j) = absurd (in_none n j)
    at (inr e) = e

pub the_one : (x : ℕ) → Contains (x ∷ []) x
the_one x = (0, omega arith, refl)

-- ---- ways

module _ (g : Graph) where
  pub via : (a b c : ℕ) → Reaches g a b → Reaches g b c → Reaches g a c
  via a b c (once n m i) h = further a b c i h
  via a b c (further n m l i k) h = further a m c i (via m b c k h)

  -- or the way of no step
  pub via_first : (a b c : ℕ) → (a ≡ b) ⊎ Reaches g a b → Reaches g b c → Reaches g a c
  via_first a b c (inl e) h = subst (λ (x : ℕ). Reaches g x c) (sym e) h
  via_first a b c (inr k) h = via a b c k h

  pub via_last : (a b c : ℕ) → Reaches g a b → (b ≡ c) ⊎ Reaches g b c → Reaches g a c
  via_last a b c h (inl e) = subst (λ (x : ℕ). Reaches g a x) e h
  via_last a b c h (inr k) = via a b c h k

  -- what is kept along each step is kept along a way
  pub along : (P : ℕ → Type 0) → ((n m : ℕ) → P n → Contains (leads g n) m → P m) → (a b : ℕ) → P a → Reaches g a b → P b
  along P more a b p (once n m i) = more a b p i
  along P more a b p (further n m l i k) = along P more m b (more a m p i) k
