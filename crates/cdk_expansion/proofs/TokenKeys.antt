-- A token is found by its key, at its place in the row.
use Rattle.std.proofs.Common.{◌≡◌, ℕ, suc, ◌+◌, ◌<◌, ◌^◌, List, [], ◌∷◌, ◌++◌, length, drop, get_or, Bool, true, false, true≢false, Some, None, cond, refl, sym, ap, subst, ◌∙◌, arith}
use Rattle.std.specs.Prelude.{decimal, nat_lt, not}
use Rattle.std.specs.List.{list_all, position_or_len}
use Rattle.std.specs.Str.{bytes_eq}
use Rattle.std.proofs.lemmas.Bool.{lt-ltb}
use Rattle.std.proofs.lemmas.Fmt.{decimal_injective}
use Rattle.std.proofs.lemmas.List.{length-append}
use Rattle.cdk_eval.proofs.Reach.{bytes_same, same_bytes}
use Rattle.cdk_tree.proofs.Tests.{and_left, and_right}
use Rattle.cdk_tokens.specs.Token.{Token, find_token}
use Rattle.cdk_expansion.proofs.TokenNumbers.{HasNumber, Numbered, is_no_dot}

-- up to the first dot two keys are alike, and so they are after it
after_dot : (h k a b : List ℕ) → list_all is_no_dot h ≡ true → list_all is_no_dot k ≡ true → h ++ 46 ∷ a ≡ k ++ 46 ∷ b → a ≡ b
after_dot [] [] a b p q e = ap (drop 1) e
after_dot [] (y ∷ k) a b p q e = absurd (true≢false (sym (and_left (is_no_dot y) (list_all is_no_dot k) q) ∙ ap is_no_dot (sym (ap (λ s. get_or s 0 0) e))))
after_dot (x ∷ h) [] a b p q e = absurd (true≢false (sym (and_left (is_no_dot x) (list_all is_no_dot h) p) ∙ ap is_no_dot (ap (λ s. get_or s 0 0) e)))
after_dot (x ∷ h) (y ∷ k) a b p q e = after_dot h k a b (and_right (is_no_dot x) (list_all is_no_dot h) p) (and_right (is_no_dot y) (list_all is_no_dot k) q) (ap (drop 1) e)

-- tokens of one key have one number
same_number : (m n : ℕ) (t u : Token) → HasNumber m t → HasNumber n u → m < 2 ^ 64 → n < 2 ^ 64 → t.key ≡ u.key → m ≡ n
same_number m n t u h k below under e =
    decimal_injective m n below under (after_dot h.before k.before (decimal m) (decimal n) h.plain k.plain (sym h.spelled ∙ e ∙ k.spelled))

differs : (k l : List ℕ) (b : Bool) → bytes_eq k l ≡ b → (k ≡ l → ⊥) → b ≡ false
differs k l true e n = absurd (n (bytes_same k l e))
differs k l false e n = refl

-- what a key is compared with
abbrev has_key : List ℕ → Token → Bool
has_key k t = bytes_eq k t.key

first_place : (n m : ℕ) (before after : List Token) (t : Token) → Numbered n before → HasNumber m t → n + length before ≡ m → m < 2 ^ 64 → position_or_len (has_key t.key) (before ++ t ∷ after) ≡ length before
first_place n m [] after t h k e below = ap (λ b. cond (not b) (1 + position_or_len (has_key t.key) after) 0) (same_bytes t.key)
first_place n m (u ∷ before) after t h k e below =
    let other : t.key ≡ u.key → ⊥ = λ same. omega (arith, same_number m n t u k (h.0) below (omega arith) same) in
    let no : bytes_eq t.key u.key ≡ false = differs t.key u.key (bytes_eq t.key u.key) refl other in
    let rest : position_or_len (has_key t.key) (before ++ t ∷ after) ≡ length before = first_place (suc n) m before after t (h.1) k (omega arith) below in
    ap (λ b. cond (not b) (1 + position_or_len (has_key t.key) (before ++ t ∷ after)) 0) no ∙ omega (arith, rest)

numbered-before : (n : ℕ) (before after : List Token) → Numbered n (before ++ after) → Numbered n before
numbered-before n [] after h = tt
numbered-before n (t ∷ before) after h = (h.0, numbered-before (suc n) before after (h.1))

numbered-at : (n m : ℕ) (before after : List Token) (t : Token) → n + length before ≡ m → Numbered n (before ++ t ∷ after) → HasNumber m t
numbered-at n m [] after t e h = let P : ℕ → Type 0 = λ i. HasNumber i t in let same : n ≡ m = omega arith in subst P same (h.0)
numbered-at n m (u ∷ before) after t e h = numbered-at (suc n) m before after t (omega arith) (h.1)

-- all tokens, numbered from 0
pub record IsRow (all : List Token) : Type 0 where
  pub numbered : Numbered 0 all
  pub few : length all < 2 ^ 64

pub find_token-at : (before after : List Token) (t : Token) → IsRow (before ++ t ∷ after) → find_token (before ++ t ∷ after) t.key ≡ Some (length before)
find_token-at before after t row =
    let all : List Token = before ++ t ∷ after in
    let within : length before < length all = omega (arith, length-append before (t ∷ after)) in
    let below : length before < 2 ^ 64 = omega (arith, within, row.few) in
    let number : HasNumber (length before) t = numbered-at 0 (length before) before after t (omega arith) row.numbered in
    let place : position_or_len (has_key t.key) all ≡ length before = first_place 0 (length before) before after t (numbered-before 0 before (t ∷ after) row.numbered) number (omega arith) below in
    ap (λ i. cond (nat_lt i (length all)) (Some i) None) place ∙ ap (λ b. cond b (Some (length before)) None) (lt-ltb (length before) (length all) within)
