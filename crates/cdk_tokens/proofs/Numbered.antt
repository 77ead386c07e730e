-- Tokens whose keys end in their numbers: no two have one key, and each key leads to its token.
use Rattle.std.proofs.Common.{◌≡◌, ℕ, zero, suc, ◌+◌, ◌<◌, ◌≤◌, ◌^◌, List, [], ◌∷◌, ◌++◌, length, get_or, slice_get, Some, None, Bool, true, false, cond, refl, sym, subst, ap, ◌∙◌, arith, zero-add, Result, Ok}
use Rattle.std.specs.Prelude.{decimal, nat_lt}
use Rattle.std.specs.List.{list_any, position_or_len}
use Rattle.std.specs.Str.{bytes_eq}
use Rattle.std.specs.Str.Parse.{ParsesUnsigned}
use Rattle.std.specs.Str.Pattern.{RFindsChar, SplitsAroundMatch}
use Rattle.std.proofs.lemmas.Bool.Decides.{nat_tests}
use Rattle.std.proofs.lemmas.List.Sums.{position_or_len_is}
use Rattle.std.proofs.lemmas.Option.{same_Some, slice_get_within, slice_get-get_or, get_or_from_slice_get}
use Rattle.std.proofs.lemmas.Slice.Eq.{bytes_eq-Decides}
use Rattle.cdk_tree.proofs.Numbered.{some_position}
use Rattle.cdk_tree.proofs.Tests.{and_left, and_right, and_both, any_later}
use Rattle.cdk_tokens.specs.Token.{Token, find_token}
use Rattle.cdk_tokens.specs.Views.{are_numbered, has_number}
use Rattle.cdk_tokens.proofs.LastDot.{ends_in, one_number, reads_number}

-- one token more, of the next number
pub numbered-push : (n m : ℕ) (ts : List Token) (t : Token) → m ≡ n + length ts → are_numbered n ts ≡ true → has_number m t.key ≡ true → are_numbered n (ts ++ t ∷ []) ≡ true
numbered-push n m [] t is h k = let same : m ≡ n = omega arith in and_both _ _ (subst (λ j. has_number j t.key ≡ true) same k) refl
numbered-push n m (x ∷ ts) t is h k = and_both _ _ (and_left _ _ h) (numbered-push (n + 1) m ts t (omega arith) (and_right _ _ h) k)

-- the token at a place has the number
number_at : (n m : ℕ) (ts : List Token) (k : ℕ) (t : Token) → m ≡ n + k → are_numbered n ts ≡ true → slice_get ts k ≡ Some t → has_number m t.key ≡ true
number_at n m [] k t is h e = cc
number_at n m (x ∷ ts) zero t is h e =
    let same : n ≡ m = omega arith in
    subst (λ j. has_number j t.key ≡ true) same (subst (λ y. has_number n y.key ≡ true) (same_Some x t e) (and_left _ _ h))
number_at n m (x ∷ ts) (suc k) t is h e = number_at (n + 1) m ts k t (omega arith) (and_right _ _ h) e

refuted : (b : Bool) → (b ≡ true → ⊥) → b ≡ false
refuted true h = absurd (h refl)
refuted false h = refl

-- the key of one number isn't that of another
other_key : (m n : ℕ) (s k : List ℕ) → m < 2 ^ 64 → n < 2 ^ 64 → has_number m s ≡ true → has_number n k ≡ true → (m ≡ n → ⊥) → bytes_eq k s ≡ false
other_key m n s k small low h g apart =
    refuted (bytes_eq k s) (λ e. apart (one_number m n k small low (subst (λ x. has_number m x ≡ true) (sym ((bytes_eq-Decides k s).0 e)) h) g))

found_at : (p n len : ℕ) → p ≡ n → n < len → cond (nat_lt p len) (Some p) None ≡ Some n
found_at p n len same within = grind (arith, nat_tests)

before_it : (ts : List Token) (n m : ℕ) (t : Token) (k : List ℕ) → are_numbered 0 ts ≡ true → length ts ≤ 2 ^ 64 → n < length ts → has_number n k ≡ true → m < n → bytes_eq k (get_or ts m t).key ≡ false
before_it ts n m t k h few within own less =
    let at = number_at 0 m ts m (get_or ts m t) (sym (zero-add m)) h (slice_get-get_or ts m t (omega arith)) in
    other_key m n (get_or ts m t).key k (omega arith) (omega arith) at own (λ same. omega (arith, same))

-- in numbered tokens each key leads to its token
pub keys_differ : (ts : List Token) (n : ℕ) (t : Token) (k : List ℕ) → are_numbered 0 ts ≡ true → length ts ≤ 2 ^ 64 → slice_get ts n ≡ Some t → t.key ≡ k → find_token ts k ≡ Some n
keys_differ ts n t k h few e is =
    let within : n < length ts = slice_get_within ts n t e in
    let own : has_number n k ≡ true = subst (λ s. has_number n s ≡ true) is (number_at 0 n ts n t (sym (zero-add n)) h e) in
    let test : Token → Bool = λ u. bytes_eq k u.key in
    let here : test (get_or ts n t) ≡ true = (bytes_eq-Decides k (get_or ts n t).key).1 (sym (ap (λ u. u.key) (get_or_from_slice_get ts n t t e) ∙ is)) in
    let first : position_or_len test ts ≡ n = position_or_len_is test ts n t (omega arith) (λ m less. before_it ts n m t k h few within own less) (λ _. here) in
    found_at (position_or_len test ts) n (length ts) first within

none_passes : {X : Type 0} (p : X → Bool) (xs : List X) → ((m : ℕ) (x : X) → slice_get xs m ≡ Some x → p x ≡ false) → list_any p xs ≡ false
none_passes p [] h = refl
none_passes p (x ∷ xs) h = any_later p x xs (h 0 x refl) ∙ none_passes p xs (λ m y e. h (suc m) y e)

-- a key is found nowhere where no token can have it
pub no_key : (ts : List Token) (k : List ℕ) → are_numbered 0 ts ≡ true
    → ((m : ℕ) (t : Token) (front : List ℕ) → slice_get ts m ≡ Some t → t.key ≡ k → k ≡ front ++ 46 ∷ decimal m → ⊥)
    → find_token ts k ≡ None
no_key ts k h none =
    let test : Token → Bool = λ t. bytes_eq k t.key in
    let same : (t : Token) → test t ≡ true → k ≡ t.key = λ t passes. (bytes_eq-Decides k t.key).0 passes in
    let cut : (m : ℕ) (t : Token) → slice_get ts m ≡ Some t → (front : List ℕ) × (t.key ≡ front ++ 46 ∷ decimal m) = λ m t e. ends_in m t.key (number_at 0 m ts m t (sym (zero-add m)) h e) in
    let fails : (m : ℕ) (t : Token) → slice_get ts m ≡ Some t → test t ≡ false = λ m t e. refuted (test t) (λ passes. none m t (cut m t e).0 e (sym (same t passes)) (same t passes ∙ (cut m t e).1)) in
    ap (λ b. cond b (Some (position_or_len test ts)) None) (some_position test ts ∙ none_passes test ts fails)

-- nor where the token of the number behind its last dot doesn't have it
pub no_such_number : {E : Type 0} (ts : List Token) (k front back : List ℕ) (r : Result ℕ E) → are_numbered 0 ts ≡ true → length ts ≤ 2 ^ 64 → SplitsAroundMatch (RFindsChar 46) k front back → ParsesUnsigned 64 10 back r
    → ((m : ℕ) (t : Token) → r ≡ Ok m → slice_get ts m ≡ Some t → t.key ≡ k → ⊥)
    → find_token ts k ≡ None
no_such_number ts k front back r h few cut read none =
    let small : (m : ℕ) (t : Token) → slice_get ts m ≡ Some t → m < 2 ^ 64 = λ m t at. omega (arith, slice_get_within ts m t at) in
    no_key ts k h (λ m t xs at same ends. none m t (reads_number k front back xs m r cut read (small m t at) ends) at same)
