-- Names in lists.
use Rattle.std.proofs.Common.{◌≡◌, ℕ, List, [], ◌∷◌, ◌++◌, map, Bool, true, false, refl, sym, ap, ◌∙◌, subst, inl, inr}
use Rattle.std.specs.Prelude.{bytes_eq, ◌||◌, ◌⊎◌}
use Rattle.std.proofs.lemmas.Slice.Eq.{bytes_eq-Decides}
use Rattle.cdk_eval.specs.Reach.{is_among}
use Rattle.cdk_meaning.specs.Names.{AreDistinct, IsIn, Each}
use Rattle.cdk_meaning.proofs.Joins.{bytes_same}

pub same_bytes : (k : List ℕ) → bytes_eq k k ≡ true
same_bytes k = (bytes_eq-Decides k k).1 refl

pub neither : (a b : Bool) → a || b ≡ false → (a ≡ false) × (b ≡ false)
neither true b h = cc
neither false b h = (refl, h)

pub or_right : (a b : Bool) → b ≡ true → a || b ≡ true
or_right true b h = refl
or_right false b h = h

pub or_cases : (a b : Bool) → a || b ≡ true → (a ≡ true) ⊎ (b ≡ true)
or_cases true b h = inl refl
or_cases false b h = inr h

pub has_append : (e : List ℕ) (xs ys : List (List ℕ)) → is_among e (xs ++ ys) ≡ is_among e xs || is_among e ys
has_append e [] ys = refl
has_append e (x ∷ xs) ys = at (bytes_eq e x) (has_append e xs ys)
  where
    at : (b : Bool) → is_among e (xs ++ ys) ≡ is_among e xs || is_among e ys → b || is_among e (xs ++ ys) ≡ (b || is_among e xs) || is_among e ys
    at true h = refl
    at false h = h

pub distinct_front : (xs ys : List (List ℕ)) → AreDistinct (xs ++ ys) → AreDistinct xs
distinct_front [] ys h = tt
distinct_front (x ∷ xs) ys h = ((neither (is_among x xs) (is_among x ys) (sym (has_append x xs ys) ∙ h.0)).0, distinct_front xs ys h.1)

pub distinct_back : (xs ys : List (List ℕ)) → AreDistinct (xs ++ ys) → AreDistinct ys
distinct_back [] ys h = h
distinct_back (x ∷ xs) ys h = distinct_back xs ys h.1

-- a name of the first list is none of the second
pub apart : (e : List ℕ) (xs ys : List (List ℕ)) → AreDistinct (xs ++ ys) → is_among e xs ≡ true → is_among e ys ≡ false
apart e [] ys h is = cc
apart e (x ∷ xs) ys h is = at (bytes_eq e x) refl (apart e xs ys h.1) is
  where
    at : (b : Bool) → bytes_eq e x ≡ b → (is_among e xs ≡ true → is_among e ys ≡ false) → b || is_among e xs ≡ true → is_among e ys ≡ false
    at true same later h' = ap (λ n. is_among n ys) (bytes_same e x same) ∙ (neither (is_among x xs) (is_among x ys) (sym (has_append x xs ys) ∙ h.0)).1
    at false same later h' = later h'

-- and a name of the second list none of the first
pub apart_back : (e : List ℕ) (xs ys : List (List ℕ)) → AreDistinct (xs ++ ys) → is_among e ys ≡ true → is_among e xs ≡ false
apart_back e xs ys d is = at (is_among e xs) refl
  where
    at : (b : Bool) → is_among e xs ≡ b → b ≡ false
    at true h = let later = apart e xs ys d h in cc
    at false h = refl

pub each_at : {A : Type 0} (P : A → Type 0) (a : A) (xs : List A) → Each P xs → IsIn a xs → P a
each_at P a [] h i = absurd i
each_at P a (x ∷ xs) h (inl e) = subst P e h.0
each_at P a (x ∷ xs) h (inr i) = each_at P a xs h.1 i

pub in_either : {A : Type 0} (a : A) (xs ys : List A) → IsIn a (xs ++ ys) → IsIn a xs ⊎ IsIn a ys
in_either a [] ys h = inr h
in_either a (x ∷ xs) ys (inl h) = inl (inl h)
in_either a (x ∷ xs) ys (inr h) = more (in_either a xs ys h)
  where
    more : IsIn a xs ⊎ IsIn a ys → IsIn a (x ∷ xs) ⊎ IsIn a ys
    more (inl i) = inl (inr i)
    more (inr i) = inr i

pub is_named : (name : ℕ → List ℕ) (n : ℕ) (ns : List ℕ) → IsIn n ns → is_among (name n) (map name ns) ≡ true
is_named name n [] h = absurd h
is_named name n (m ∷ ns) (inl h) = ap (λ k. bytes_eq (name n) (name k) || is_among (name n) (map name ns)) h ∙ ap (λ b. b || is_among (name n) (map name ns)) (same_bytes (name n))
is_named name n (m ∷ ns) (inr h) = or_right (bytes_eq (name n) (name m)) (is_among (name n) (map name ns)) (is_named name n ns h)

pub each_front : {A : Type 0} (P : A → Type 0) (xs ys : List A) → Each P (xs ++ ys) → Each P xs
each_front P [] ys h = tt
each_front P (x ∷ xs) ys h = (h.0, each_front P xs ys h.1)

pub each_back : {A : Type 0} (P : A → Type 0) (xs ys : List A) → Each P (xs ++ ys) → Each P ys
each_back P [] ys h = h
each_back P (x ∷ xs) ys h = each_back P xs ys h.1

pub each_more : {A : Type 0} (P Q : A → Type 0) (xs : List A) → ((x : A) → IsIn x xs → P x → Q x) → Each P xs → Each Q xs
each_more P Q [] f h = tt
each_more P Q (x ∷ xs) f h = (f x (inl refl) h.0, each_more P Q xs (λ y i. f y (inr i)) h.1)

pub in_back : {A : Type 0} (a : A) (xs ys : List A) → IsIn a ys → IsIn a (xs ++ ys)
in_back a [] ys i = i
in_back a (x ∷ xs) ys i = inr (in_back a xs ys i)
