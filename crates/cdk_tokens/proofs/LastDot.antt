-- What stands behind the last `.` of a key is the key's number.
use Rattle.std.proofs.Common.{◌≡◌, ◌≢◌, ℕ, ◌-◌, ◌<◌, ◌^◌, List, [], ◌∷◌, ◌++◌, length, get_or, take, drop, None, Result, Ok, refl, sym, ap, subst, ◌∙◌, arith}
use Rattle.std.specs.Prelude.{true, decimal}
use Rattle.std.specs.Str.Pattern.{RFindsChar, SplitsAroundMatch}
use Rattle.std.specs.Str.Parse.{AllDigits, digits_value, ParsesUnsigned}
use Rattle.std.proofs.lemmas.Bool.Decides.{Decides-eqb}
use Rattle.std.proofs.lemmas.Fmt.{digits_decimal, decimal_injective, parse-decimal}
use Rattle.std.proofs.lemmas.List.{length-append, get_or_at, take-append-drop}
use Rattle.std.proofs.lemmas.Slice.Eq.{ends_is}
use Rattle.std.proofs.lemmas.Str.Parse.{IsNumeralModel, numerals_by_value, tells_digits, not_in_digits}
use Rattle.std.proofs.lemmas.Str.Pattern.{NoCharPasses-char, drop_at_char}
use Rattle.cdk_tokens.specs.Views.{has_number}

abbrev pub NoDot : List ℕ → Type 0
NoDot s = (i : ℕ) → i < length s → get_or s i 0 ≢ 46

pub dot_inside : (s xs ys : List ℕ) → NoDot s → s ≡ xs ++ 46 ∷ ys → ⊥
dot_inside s xs ys none e = none (length xs) (omega (arith, ap length e, length-append xs (46 ∷ ys))) (ap (λ t. get_or t (length xs) 0) e ∙ get_or_at xs 46 ys 0 (length xs) refl)

-- the text behind the last dot is one
same_behind : (xs ys us vs : List ℕ) → NoDot ys → NoDot vs → xs ++ 46 ∷ ys ≡ us ++ 46 ∷ vs → ys ≡ vs
same_behind [] ys [] vs a b e = ap (drop 1) e
same_behind [] ys (u ∷ us) vs a b e = absurd (dot_inside ys us vs a (ap (drop 1) e))
same_behind (x ∷ xs) ys [] vs a b e = absurd (dot_inside vs xs ys b (sym (ap (drop 1) e)))
same_behind (x ∷ xs) ys (u ∷ us) vs a b e = same_behind xs ys us vs a b (ap (drop 1) e)

NoDot-decimal : (n : ℕ) → n < 2 ^ 64 → NoDot (decimal n)
NoDot-decimal n small =
    let own : IsNumeralModel (AllDigits 10) (digits_value 10) = numerals_by_value (AllDigits 10) tells_digits in
    not_in_digits own (decimal n) 46 (digits_decimal own n small) (λ r. omega (arith, r.0))

-- a key has a number where it ends in a dot and the number
pub ends_in : (n : ℕ) (k : List ℕ) → has_number n k ≡ true → (front : List ℕ) × (k ≡ front ++ 46 ∷ decimal n)
ends_in n k h = (take (length k - length (46 ∷ decimal n)) k, (ends_is Decides-eqb k (46 ∷ decimal n) (has_number n k) refl).0 h)

pub has_number-key : (n : ℕ) (front : List ℕ) → has_number n (front ++ 46 ∷ decimal n) ≡ true
has_number-key n front = (ends_is Decides-eqb (front ++ 46 ∷ decimal n) (46 ∷ decimal n) (has_number n (front ++ 46 ∷ decimal n)) refl).1 front refl

pub one_number : (m n : ℕ) (k : List ℕ) → m < 2 ^ 64 → n < 2 ^ 64 → has_number m k ≡ true → has_number n k ≡ true → m ≡ n
one_number m n k small low h g =
    let a = ends_in m k h in
    let b = ends_in n k g in
    decimal_injective m n small low (same_behind a.0 (decimal m) b.0 (decimal n) (NoDot-decimal m small) (NoDot-decimal n low) (sym a.1 ∙ b.1))

-- what `rsplit_once` cuts at a dot
pub NoDot-from_rsplit : (s : List ℕ) → RFindsChar 46 s None → NoDot s
NoDot-from_rsplit s h = λ i within. NoCharPasses-char 46 s i h (omega arith) within

rsplit_cuts : (s front back : List ℕ) → SplitsAroundMatch (RFindsChar 46) s front back → (s ≡ front ++ 46 ∷ back) × NoDot back
rsplit_cuts s front back (i, j, (none, at), before, behind, order, front_fits, back_fits) =
    let small : 46 < 128 = omega arith in
    let last : drop i s ≡ 46 ∷ drop j s = drop_at_char 46 s i j at small in
    let parts : s ≡ take i s ++ 46 ∷ drop j s = sym (take-append-drop i s) ∙ ap (λ r. take i s ++ r) last in
    let no_dot : NoDot back = subst NoDot (sym behind) (λ k within. NoCharPasses-char 46 (drop j s) k none small within) in
    (parts ∙ ap (λ f. f ++ 46 ∷ drop j s) (sym before) ∙ ap (λ b. front ++ 46 ∷ b) (sym behind), no_dot)

-- the number of a key is what its text behind the last dot is read as
pub reads_number : {E : Type 0} (s front back xs : List ℕ) (n : ℕ) (r : Result ℕ E) → SplitsAroundMatch (RFindsChar 46) s front back → ParsesUnsigned 64 10 back r → n < 2 ^ 64 → s ≡ xs ++ 46 ∷ decimal n → r ≡ Ok n
reads_number s front back xs n r cut read small e =
    let parts = rsplit_cuts s front back cut in
    let same : back ≡ decimal n = same_behind front back xs (decimal n) parts.1 (NoDot-decimal n small) (sym parts.0 ∙ e) in
    parse-decimal 64 n back r small small same read
