-- The key of each token has the form of a key.
use Rattle.std.proofs.Common.{◌≡◌, ℕ, zero, suc, ◌/◌, ◌%◌, ◌<◌, ◌==◌, List, [], ◌∷◌, ◌++◌, length, true, false, not, decimal, IsTrue, refl, ap, ◌∙◌, arith}
use Rattle.std.specs.Char.{is_ascii_digit}
use Rattle.std.specs.Fmt.{digits, digits_onto, digit_glyph}
use Rattle.std.specs.List.{list_all}
use Rattle.std.proofs.lemmas.Bool.{and_parts, and_from, or_left, or_right, cond_both, ne_eqb}
use Rattle.std.proofs.lemmas.List.Folds.{list_all-append}
use Rattle.cdk_language.specs.Expression as expression
use Rattle.cdk_language.specs.Expression.{Expression}
use Rattle.cdk_markers.specs.Key.{is_key_byte, is_number, ends_in_number, is_key}
use Rattle.cdk_tokens.specs.Marking.{hint}
use Rattle.cdk_tokens.specs.Token.{key_of}

glyph_is_digit : (d : ℕ) → d < 10 → is_ascii_digit (digit_glyph false d) ≡ true
glyph_is_digit d small = grind arith

number_before : (x : ℕ) (xs : List ℕ) → is_ascii_digit x ≡ true → list_all is_ascii_digit xs ≡ true → is_number (x ∷ xs) ≡ true
number_before x xs first rest =
    and_from (not (length (x ∷ xs) == 0)) (list_all is_ascii_digit (x ∷ xs)) (ap not (ne_eqb (length (x ∷ xs)) 0 (λ e. omega arith))) (and_from (is_ascii_digit x) (list_all is_ascii_digit xs) first rest)

digits_onto_number : (k n x : ℕ) (xs : List ℕ) → is_ascii_digit x ≡ true → list_all is_ascii_digit xs ≡ true → is_number (digits_onto k 10 false n (x ∷ xs)) ≡ true
digits_onto_number zero n x xs first rest = number_before x xs first rest
digits_onto_number (suc k) n x xs first rest =
    let d : ℕ = digit_glyph false (n % 10) in
    let digit : is_ascii_digit d ≡ true = glyph_is_digit (n % 10) (omega arith) in
    let all : list_all is_ascii_digit (x ∷ xs) ≡ true = and_from _ _ first rest in
    cond_both (n / 10 == 0) (d ∷ x ∷ xs) (digits_onto k 10 false (n / 10) (d ∷ x ∷ xs)) (λ s. is_number s ≡ true) (λ e. number_before d (x ∷ xs) digit all) (λ e. digits_onto_number k (n / 10) d (x ∷ xs) digit all)

digits_number : (k n : ℕ) → is_number (digits_onto (suc k) 10 false n []) ≡ true
digits_number k n =
    let d : ℕ = digit_glyph false (n % 10) in
    let digit : is_ascii_digit d ≡ true = glyph_is_digit (n % 10) (omega arith) in
    cond_both (n / 10 == 0) (d ∷ []) (digits_onto k 10 false (n / 10) (d ∷ [])) (λ s. is_number s ≡ true) (λ e. number_before d [] digit refl) (λ e. digits_onto_number k (n / 10) d [] digit refl)

decimal_number : (n : ℕ) → is_number (decimal n) ≡ true
unfolding digits
decimal_number n = digits_number 63 n

digit_is_key_byte : (x : ℕ) → is_ascii_digit x ≡ true → is_key_byte x ≡ true
digit_is_key_byte x digit = or_left _ _ (or_left _ _ (or_left _ _ digit))

digits_are_key_bytes : (s : List ℕ) → list_all is_ascii_digit s ≡ true → list_all is_key_byte s ≡ true
digits_are_key_bytes [] all = refl
digits_are_key_bytes (x ∷ xs) all =
    let parts = and_parts (is_ascii_digit x) (list_all is_ascii_digit xs) all in
    and_from _ _ (digit_is_key_byte x parts.0) (digits_are_key_bytes xs parts.1)

ends : (h s : List ℕ) → is_number s ≡ true → ends_in_number (h ++ 46 ∷ s) ≡ true
ends [] s number = or_left _ _ number
ends (x ∷ h) s number = or_right _ _ (ends h s number)

key_with : (h s : List ℕ) → list_all is_key_byte h ≡ true → is_number s ≡ true → IsTrue (is_key (h ++ 46 ∷ s))
key_with h s hinted number =
    let all : list_all is_key_byte s ≡ true = digits_are_key_bytes s ((and_parts (not (length s == 0)) (list_all is_ascii_digit s) number).1) in
    and_from _ _ (list_all-append is_key_byte h (46 ∷ s) ∙ and_from _ _ hinted all) (ends h s number)

hint_bytes : (e : Expression) → list_all is_key_byte (hint e) ≡ true
hint_bytes (expression.text s) = refl
hint_bytes (expression.whole z) = refl
hint_bytes (expression.truth b) = refl
hint_bytes (expression.list es) = refl
hint_bytes (expression.object fs) = refl
hint_bytes (expression.pseudo p) = refl
hint_bytes (expression.ref t) = refl
hint_bytes (expression.get_att t a) = refl
hint_bytes (expression.concat es) = refl
hint_bytes (expression.join d e) = refl
hint_bytes (expression.select i e) = refl
hint_bytes (expression.split d e) = refl
hint_bytes (expression.choice c x y) = refl
hint_bytes (expression.find_in_map m x y) = refl
hint_bytes (expression.import_value t) = refl
hint_bytes (expression.context k d) = refl
hint_bytes (expression.lazy t) = refl

-- whatever its number is
pub is_key-key_of : (e : Expression) (n : ℕ) → IsTrue (is_key (key_of (hint e) n))
is_key-key_of e n = key_with (hint e) (decimal n) (hint_bytes e) (decimal_number n)
