-- The names that a way by names has not yet come to.
use Rattle.std.proofs.Common.{◌≡◌, ℕ, suc, ◌≤◌, List, [], ◌∷◌, length, Bool, true, false, refl, sym, ap, ◌∙◌, inl, inr, arith}
use Rattle.std.specs.Prelude.{◌||◌, bytes_eq, if◌then◌else◌}
use Rattle.cdk_eval.specs.Reach.{is_among, IsIn}
use Rattle.cdk_eval.proofs.Reach.{same_bytes}

abbrev one_if_not : Bool → ℕ → ℕ
one_if_not b n = if b then n else suc n

-- how many of the names are not among ns
abbrev pub unseen : List (List ℕ) → List (List ℕ) → ℕ
unseen ns [] = 0
unseen ns (k ∷ ks) = one_if_not (is_among k ns) (unseen ns ks)

pub unseen_all : (ks : List (List ℕ)) → unseen [] ks ≡ length ks
unseen_all [] = refl
unseen_all (k ∷ ks) = ap suc (unseen_all ks)

fewer_at : (a b : Bool) (x y : ℕ) → x ≤ y → one_if_not (a || b) x ≤ one_if_not b y
fewer_at true true x y h = h
fewer_at true false x y h = omega (arith, h)
fewer_at false true x y h = h
fewer_at false false x y h = omega (arith, h)

less_at : (a b : Bool) (x y : ℕ) → suc x ≤ y → suc (one_if_not (a || b) x) ≤ one_if_not b y
less_at true true x y h = h
less_at true false x y h = omega (arith, h)
less_at false true x y h = h
less_at false false x y h = omega (arith, h)

unseen_more : (c : List ℕ) (ns ks : List (List ℕ)) → unseen (c ∷ ns) ks ≤ unseen ns ks
unseen_more c ns [] = omega arith
unseen_more c ns (k ∷ ks) = fewer_at (bytes_eq k c) (is_among k ns) (unseen (c ∷ ns) ks) (unseen ns ks) (unseen_more c ns ks)

here_less : (c k : List ℕ) (ns : List (List ℕ)) (x y : ℕ) → k ≡ c → is_among c ns ≡ false → x ≤ y → suc (one_if_not (is_among k (c ∷ ns)) x) ≤ one_if_not (is_among k ns) y
here_less c k ns x y e new h =
    let at_key : bytes_eq k c ≡ true = ap (bytes_eq k) (sym e) ∙ same_bytes k in
    let new_key : is_among k ns ≡ false = ap (λ n. is_among n ns) e ∙ new in
    rw (at_key, new_key) (omega (arith, h))

-- a name that is new makes them fewer
pub unseen_less : (c : List ℕ) (ns ks : List (List ℕ)) → IsIn c ks → is_among c ns ≡ false → suc (unseen (c ∷ ns) ks) ≤ unseen ns ks
unseen_less c ns [] i new = absurd i
unseen_less c ns (k ∷ ks) (inl e) new = here_less c k ns (unseen (c ∷ ns) ks) (unseen ns ks) e new (unseen_more c ns ks)
unseen_less c ns (k ∷ ks) (inr i) new = less_at (bytes_eq k c) (is_among k ns) (unseen (c ∷ ns) ks) (unseen ns ks) (unseen_less c ns ks i new)
