-- A character that needs no escape has none in its bytes.
use Rattle.std.proofs.Common.{◌≡◌, ◌≢◌, ℕ, ◌+◌, ◌/◌, ◌%◌, ◌≤◌, List, [], ◌∷◌, ◌++◌, Bool, true, false, cond, ap, ap₂, arith, nat_lt}
use Rattle.std.specs.Char.{encode_utf8}
use Rattle.std.proofs.lemmas.Bool.{ne_eqb}
use Rattle.cdk_base.specs.Pointer.{escape_byte, escape}

other_byte : (x : ℕ) → x ≢ 126 → x ≢ 47 → escape_byte x ≡ x ∷ []
other_byte x a b = rw (ne_eqb x 126 a, ne_eqb x 47 b)

high_byte : (x : ℕ) → 128 ≤ x → escape_byte x ≡ x ∷ []
high_byte x h = other_byte x (λ e. omega arith) (λ e. omega arith)

one : (b : Bool) (c : ℕ) (rest : List ℕ) → escape_byte c ≡ c ∷ [] → escape rest ≡ rest → escape (cond b (c ∷ []) rest) ≡ cond b (c ∷ []) rest
one true c rest e f = ap (λ s. s ++ []) e
one false c rest e f = f

either : (b : Bool) (xs ys : List ℕ) → escape xs ≡ xs → escape ys ≡ ys → escape (cond b xs ys) ≡ cond b xs ys
either true xs ys e f = e
either false xs ys e f = f

two : (x y : ℕ) → 128 ≤ x → 128 ≤ y → escape (x ∷ y ∷ []) ≡ x ∷ y ∷ []
two x y h k = ap₂ (λ s t. s ++ (t ++ [])) (high_byte x h) (high_byte y k)

three : (x y z : ℕ) → 128 ≤ x → 128 ≤ y → 128 ≤ z → escape (x ∷ y ∷ z ∷ []) ≡ x ∷ y ∷ z ∷ []
three x y z h k l = ap₂ (λ s t. s ++ t) (high_byte x h) (two y z k l)

four : (w x y z : ℕ) → 128 ≤ w → 128 ≤ x → 128 ≤ y → 128 ≤ z → escape (w ∷ x ∷ y ∷ z ∷ []) ≡ w ∷ x ∷ y ∷ z ∷ []
four w x y z g h k l = ap₂ (λ s t. s ++ t) (high_byte w g) (three x y z h k l)

pub escape-char : (c : ℕ) → c ≢ 126 → c ≢ 47 → escape (encode_utf8 c) ≡ encode_utf8 c
unfolding encode_utf8
escape-char c a b =
    one (nat_lt c 128) c _ (other_byte c a b)
    (either (nat_lt c 2048) ((192 + c / 64) ∷ (128 + c % 64) ∷ []) _ (two (192 + c / 64) (128 + c % 64) (omega arith) (omega arith))
    (either (nat_lt c 65536) ((224 + c / 4096) ∷ (128 + c / 64 % 64) ∷ (128 + c % 64) ∷ []) ((240 + c / 262144) ∷ (128 + c / 4096 % 64) ∷ (128 + c / 64 % 64) ∷ (128 + c % 64) ∷ [])
    (three (224 + c / 4096) (128 + c / 64 % 64) (128 + c % 64) (omega arith) (omega arith) (omega arith))
    (four (240 + c / 262144) (128 + c / 4096 % 64) (128 + c / 64 % 64) (128 + c % 64) (omega arith) (omega arith) (omega arith) (omega arith))))
