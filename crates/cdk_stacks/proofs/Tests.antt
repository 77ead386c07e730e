-- Tests of numbers in a row, and of truth values.
use Rattle.std.proofs.Common.{◌≡◌, ℕ, zero, suc, ◌+◌, ◌-◌, ◌<◌, List, [], ◌∷◌, length, Bool, true, false, refl, sym, ap, ◌∙◌, arith}
use Rattle.std.specs.Prelude.{◌||◌, ◌&&◌, not}
use Rattle.std.specs.List.{list_any, range_with_len}
use Rattle.std.proofs.lemmas.List.Folds.{list_any_at}
use Rattle.std.proofs.lemmas.List.FromFn.{length-range_with_len, get_or-range_with_len}

-- ---- truth values

pub or_assoc : (a b c : Bool) → (a || (b || c)) ≡ ((a || b) || c)
or_assoc true b c = refl
or_assoc false b c = refl

pub or_false : (a : Bool) → (a || false) ≡ a
or_false true = refl
or_false false = refl

-- the first goes last
pub or_last : (a b c : Bool) → (a || (b || c)) ≡ (b || (c || a))
or_last true true c = refl
or_last true false true = refl
or_last true false false = refl
or_last false b true = refl
or_last false b false = refl

pub or_pairs : (a b c d : Bool) → ((a || b) || (c || d)) ≡ ((a || c) || (b || d))
or_pairs true b c d = refl
or_pairs false true true d = refl
or_pairs false true false d = refl
or_pairs false false c d = refl

pub or_tree : (a b c t : Bool) → ((a || b) || (t || c)) ≡ ((a || (b || c)) || t)
or_tree true b c t = refl
or_tree false true c t = refl
or_tree false false true true = refl
or_tree false false true false = refl
or_tree false false false true = refl
or_tree false false false false = refl

pub or_left : (a b : Bool) → (a || b) ≡ false → a ≡ false
or_left true b h = h
or_left false b h = refl

pub or_right : (a b : Bool) → (a || b) ≡ false → b ≡ false
or_right true b h = cc
or_right false b h = h

-- what isn't refused
pub not_refused : (a b : Bool) → a ≡ true → (a && not b) ≡ false → b ≡ true
not_refused true true e h = refl
not_refused true false e h = cc
not_refused false b e h = cc

-- ---- numbers in a row

pub any_or : (p q : ℕ → Bool) (xs : List ℕ) → list_any (λ m. p m || q m) xs ≡ (list_any p xs || list_any q xs)
any_or p q [] = refl
any_or p q (x ∷ xs) = ap (λ b. (p x || q x) || b) (any_or p q xs) ∙ or_pairs (p x) (q x) (list_any p xs) (list_any q xs)

pub any_never : (xs : List ℕ) → list_any (λ m. false) xs ≡ false
any_never [] = refl
any_never (x ∷ xs) = any_never xs

any_from : (p : ℕ → Bool) (a n : ℕ) → list_any p (range_with_len a (suc n)) ≡ (list_any p (range_with_len a n) || p (a + n))
any_from p a zero = let e : a + 0 ≡ a = omega arith in or_false (p a) ∙ ap p (sym e)
any_from p a (suc n) =
    let e : a + 1 + n ≡ a + suc n = omega arith in
    ap (λ b. p a || b) (any_from p (a + 1) n ∙ ap (λ k. list_any p (range_with_len (a + 1) n) || p k) e)
    ∙ or_assoc (p a) (list_any p (range_with_len (a + 1) n)) (p (a + suc n))

-- one more number
pub any_more : (p : ℕ → Bool) (n : ℕ) → list_any p (range_with_len 0 (n + 1)) ≡ (list_any p (range_with_len 0 n) || p n)
any_more p n =
    let e : n + 1 ≡ suc n = omega arith in
    let f : 0 + n ≡ n = omega arith in
    ap (λ k. list_any p (range_with_len 0 k)) e ∙ any_from p 0 n ∙ ap (λ k. list_any p (range_with_len 0 n) || p k) f

pub any_at : (p : ℕ → Bool) (m n : ℕ) → m < n → p m ≡ true → list_any p (range_with_len 0 n) ≡ true
any_at p m n h t =
    let within : m < length (range_with_len 0 n) = omega (arith, length-range_with_len 0 n) in
    let f : 0 + m ≡ m = omega arith in
    list_any_at p (range_with_len 0 n) m 0 within (ap p (get_or-range_with_len 0 n m 0 h ∙ f) ∙ t)

-- the first of those that are left
pub range_rest : (n end : ℕ) → n < end → range_with_len n (end - n) ≡ n ∷ range_with_len (n + 1) (end - (n + 1))
range_rest n end h = let e : end - n ≡ suc (end - (n + 1)) = omega arith in ap (range_with_len n) e

pub range_end : (n end : ℕ) → n ≡ end → range_with_len n (end - n) ≡ []
range_end n end h = let e : end - n ≡ 0 = omega arith in ap (range_with_len n) e
