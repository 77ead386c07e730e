-- What stands at the places of lists.
use Rattle.std.proofs.Common.{◌≡◌, ◌<◌, ◌≤◌, ℕ, zero, suc, List, [], ◌∷◌, ◌++◌, length, map, take, Some, None, option_map, refl, arith}
use Rattle.std.specs.Prelude.{slice_get}

pub get-past : {A : Type 0} (xs : List A) (n : ℕ) → length xs ≤ n → slice_get xs n ≡ None
get-past [] n h = refl
get-past (x ∷ xs) zero h = absurd (omega (arith, h))
get-past (x ∷ xs) (suc n) h = get-past xs n (omega (arith, h))

pub get-at : {A : Type 0} (xs ys : List A) (x : A) (n : ℕ) → n ≡ length xs → slice_get (xs ++ x ∷ ys) n ≡ Some x
get-at [] ys x zero e = refl
get-at [] ys x (suc n) e = absurd (omega (arith, e))
get-at (y ∷ xs) ys x zero e = absurd (omega (arith, e))
get-at (y ∷ xs) ys x (suc n) e = get-at xs ys x n (omega (arith, e))

pub get-take : {A : Type 0} (xs : List A) (n b : ℕ) → n < b → slice_get (take b xs) n ≡ slice_get xs n
get-take xs n zero h = absurd (omega (arith, h))
get-take [] n (suc b) h = refl
get-take (x ∷ xs) zero (suc b) h = refl
get-take (x ∷ xs) (suc n) (suc b) h = get-take xs n b (omega (arith, h))

pub get-map : {A B : Type 0} (h : A → B) (xs : List A) (i : ℕ) → slice_get (map h xs) i ≡ option_map h (slice_get xs i)
get-map h [] i = refl
get-map h (x ∷ xs) zero = refl
get-map h (x ∷ xs) (suc i) = get-map h xs i
