-- The tokens of an expression bear the numbers of one row, and are as many as are counted.
use Rattle.std.proofs.Common.{◌≡◌, ℕ, suc, ◌+◌, ◌==◌, List, [], ◌∷◌, ◌++◌, length, Bool, true, refl, ap, subst, ◌∙◌, arith}
use Rattle.std.specs.Prelude.{not, ⊤}
use Rattle.std.specs.List.{list_all}
use Rattle.std.proofs.lemmas.List.{length-append}
use Rattle.cdk_language.specs.Expression as expression
use Rattle.cdk_language.specs.Expression.{Expression, Expressions, Fields}
use Rattle.cdk_tree.specs.Placed.{Placed}
use Rattle.cdk_tokens.specs.Marking.{all_tokens, count, count_all, count_fields, fields_tokens, hint, marked, target, token_of, tokens}
use Rattle.cdk_tokens.specs.Token as token
use Rattle.cdk_tokens.specs.Token.{Form, Token, key_of}

-- ---- how many there are

pub length-then : {X : Type 0} (xs : List X) (x : X) (k : ℕ) → length xs ≡ k → length (xs ++ x ∷ []) ≡ k + 1
length-then xs x k e = length-append xs (x ∷ []) ∙ ap (λ n. n + 1) e

pub length-both : {X : Type 0} (xs ys : List X) (k m : ℕ) → length xs ≡ k → length ys ≡ m → length (xs ++ ys) ≡ k + m
length-both xs ys k m e f = omega (arith, length-append xs ys, e, f)

pub length-two : {X : Type 0} (xs ys : List X) (x : X) (k m : ℕ) → length xs ≡ k → length ys ≡ m → length (xs ++ (ys ++ x ∷ [])) ≡ k + m + 1
length-two xs ys x k m e f = omega (arith, length-append xs (ys ++ x ∷ []), length-then ys x m f, e)

mutual
  pub tokens-length : (cs : List Placed) (at n : ℕ) (e : Expression) → length (tokens cs at n e) ≡ count e
  tokens-length cs at n (expression.text s) = refl
  tokens-length cs at n (expression.whole z) = refl
  tokens-length cs at n (expression.truth b) = refl
  tokens-length cs at n (expression.list es) = all_tokens-length cs at n es
  tokens-length cs at n (expression.object fs) = fields_tokens-length cs at n fs
  tokens-length cs at n (expression.pseudo p) = refl
  tokens-length cs at n (expression.ref t) = refl
  tokens-length cs at n (expression.get_att t a) = refl
  tokens-length cs at n (expression.concat es) = all_tokens-length cs at n es
  tokens-length cs at n (expression.join d e) = length-then (tokens cs at n e) (token_of cs at (n + count e) (expression.join d e) (token.join d (marked cs at n e))) (count e) (tokens-length cs at n e)
  tokens-length cs at n (expression.select i e) = length-then (tokens cs at n e) (token_of cs at (n + count e) (expression.select i e) (token.select i (marked cs at n e))) (count e) (tokens-length cs at n e)
  tokens-length cs at n (expression.split d e) = length-then (tokens cs at n e) (token_of cs at (n + count e) (expression.split d e) (token.split d (marked cs at n e))) (count e) (tokens-length cs at n e)
  tokens-length cs at n (expression.choice c x y) =
      let t : Token = token_of cs at (n + (count x + count y)) (expression.choice c x y) (token.choice (target cs c) (marked cs at n x) (marked cs at (n + count x) y)) in
      length-two (tokens cs at n x) (tokens cs at (n + count x) y) t (count x) (count y) (tokens-length cs at n x) (tokens-length cs at (n + count x) y)
  tokens-length cs at n (expression.find_in_map m x y) =
      let t : Token = token_of cs at (n + (count x + count y)) (expression.find_in_map m x y) (token.find_in_map (target cs m) (marked cs at n x) (marked cs at (n + count x) y)) in
      length-two (tokens cs at n x) (tokens cs at (n + count x) y) t (count x) (count y) (tokens-length cs at n x) (tokens-length cs at (n + count x) y)
  tokens-length cs at n (expression.import_value t) = refl
  tokens-length cs at n (expression.context k d) = refl
  tokens-length cs at n (expression.lazy t) = refl

  pub all_tokens-length : (cs : List Placed) (at n : ℕ) (es : Expressions) → length (all_tokens cs at n es) ≡ count_all es
  all_tokens-length cs at n expression.no_expressions = refl
  all_tokens-length cs at n (expression.expression e es) =
      length-both (tokens cs at n e) (all_tokens cs at (n + count e) es) (count e) (count_all es) (tokens-length cs at n e) (all_tokens-length cs at (n + count e) es)

  pub fields_tokens-length : (cs : List Placed) (at n : ℕ) (fs : Fields) → length (fields_tokens cs at n fs) ≡ count_fields fs
  fields_tokens-length cs at n expression.no_fields = refl
  fields_tokens-length cs at n (expression.field k e fs) =
      length-both (tokens cs at n e) (fields_tokens cs at (n + count e) fs) (count e) (count_fields fs) (tokens-length cs at n e) (fields_tokens-length cs at (n + count e) fs)

-- ---- which numbers they bear

abbrev pub is_no_dot : ℕ → Bool
is_no_dot x = not (x == 46)

-- the token's key ends in the number
pub record HasNumber (n : ℕ) (t : Token) : Type 0 where
  pub before : List ℕ
  pub plain : list_all is_no_dot before ≡ true
  pub spelled : t.key ≡ key_of before n

-- one after another, from n on
abbrev pub Numbered : ℕ → List Token → Type 0
Numbered n [] = ⊤
Numbered n (t ∷ ts) = HasNumber n t × Numbered (suc n) ts

pub Numbered-append : (n m : ℕ) (ts us : List Token) → n + length ts ≡ m → Numbered n ts → Numbered m us → Numbered n (ts ++ us)
Numbered-append n m [] us e h k = let P : ℕ → Type 0 = λ i. Numbered i us in let same : m ≡ n = omega arith in subst P same k
Numbered-append n m (t ∷ ts) us e h k = (h.0, Numbered-append (suc n) m ts us (omega arith) (h.1) k)

plain_hint : (e : Expression) → list_all is_no_dot (hint e) ≡ true
plain_hint (expression.text s) = refl
plain_hint (expression.whole z) = refl
plain_hint (expression.truth b) = refl
plain_hint (expression.list es) = refl
plain_hint (expression.object fs) = refl
plain_hint (expression.pseudo p) = refl
plain_hint (expression.ref t) = refl
plain_hint (expression.get_att t a) = refl
plain_hint (expression.concat es) = refl
plain_hint (expression.join d e) = refl
plain_hint (expression.select i e) = refl
plain_hint (expression.split d e) = refl
plain_hint (expression.choice c x y) = refl
plain_hint (expression.find_in_map m x y) = refl
plain_hint (expression.import_value t) = refl
plain_hint (expression.context k d) = refl
plain_hint (expression.lazy t) = refl

one : (cs : List Placed) (at n : ℕ) (e : Expression) (f : Form) → Numbered n (token_of cs at n e f ∷ [])
one cs at n e f = (record { before = hint e; plain = plain_hint e; spelled = refl }, tt)

after_one : (cs : List Placed) (at n : ℕ) (e outer : Expression) (f : Form) → Numbered n (tokens cs at n e) → Numbered n (tokens cs at n e ++ token_of cs at (n + count e) outer f ∷ [])
after_one cs at n e outer f h = Numbered-append n (n + count e) (tokens cs at n e) (token_of cs at (n + count e) outer f ∷ []) (ap (λ k. n + k) (tokens-length cs at n e)) h (one cs at (n + count e) outer f)

after_two : (cs : List Placed) (at n : ℕ) (x y outer : Expression) (f : Form) → Numbered n (tokens cs at n x) → Numbered (n + count x) (tokens cs at (n + count x) y)
    → Numbered n (tokens cs at n x ++ (tokens cs at (n + count x) y ++ token_of cs at (n + (count x + count y)) outer f ∷ []))
after_two cs at n x y outer f h k =
    let last : n + count x + length (tokens cs at (n + count x) y) ≡ n + (count x + count y) = omega (arith, tokens-length cs at (n + count x) y) in
    let t : Token = token_of cs at (n + (count x + count y)) outer f in
    Numbered-append n (n + count x) (tokens cs at n x) (tokens cs at (n + count x) y ++ t ∷ []) (ap (λ i. n + i) (tokens-length cs at n x)) h
    (Numbered-append (n + count x) (n + (count x + count y)) (tokens cs at (n + count x) y) (t ∷ []) last k (one cs at (n + (count x + count y)) outer f))

mutual
  pub tokens-numbered : (cs : List Placed) (at n : ℕ) (e : Expression) → Numbered n (tokens cs at n e)
  tokens-numbered cs at n (expression.text s) = tt
  tokens-numbered cs at n (expression.whole z) = tt
  tokens-numbered cs at n (expression.truth b) = tt
  tokens-numbered cs at n (expression.list es) = all_tokens-numbered cs at n es
  tokens-numbered cs at n (expression.object fs) = fields_tokens-numbered cs at n fs
  tokens-numbered cs at n (expression.pseudo p) = one cs at n (expression.pseudo p) (token.pseudo p)
  tokens-numbered cs at n (expression.ref t) = one cs at n (expression.ref t) (token.ref (target cs t))
  tokens-numbered cs at n (expression.get_att t a) = one cs at n (expression.get_att t a) (token.get_att (target cs t) a)
  tokens-numbered cs at n (expression.concat es) = all_tokens-numbered cs at n es
  tokens-numbered cs at n (expression.join d e) = after_one cs at n e (expression.join d e) (token.join d (marked cs at n e)) (tokens-numbered cs at n e)
  tokens-numbered cs at n (expression.select i e) = after_one cs at n e (expression.select i e) (token.select i (marked cs at n e)) (tokens-numbered cs at n e)
  tokens-numbered cs at n (expression.split d e) = after_one cs at n e (expression.split d e) (token.split d (marked cs at n e)) (tokens-numbered cs at n e)
  tokens-numbered cs at n (expression.choice c x y) =
      after_two cs at n x y (expression.choice c x y) (token.choice (target cs c) (marked cs at n x) (marked cs at (n + count x) y)) (tokens-numbered cs at n x) (tokens-numbered cs at (n + count x) y)
  tokens-numbered cs at n (expression.find_in_map m x y) =
      after_two cs at n x y (expression.find_in_map m x y) (token.find_in_map (target cs m) (marked cs at n x) (marked cs at (n + count x) y)) (tokens-numbered cs at n x) (tokens-numbered cs at (n + count x) y)
  tokens-numbered cs at n (expression.import_value t) = one cs at n (expression.import_value t) (token.import_value t)
  tokens-numbered cs at n (expression.context k d) = tt
  tokens-numbered cs at n (expression.lazy t) = one cs at n (expression.lazy t) (token.lazy (target cs t))

  pub all_tokens-numbered : (cs : List Placed) (at n : ℕ) (es : Expressions) → Numbered n (all_tokens cs at n es)
  all_tokens-numbered cs at n expression.no_expressions = tt
  all_tokens-numbered cs at n (expression.expression e es) =
      Numbered-append n (n + count e) (tokens cs at n e) (all_tokens cs at (n + count e) es) (ap (λ k. n + k) (tokens-length cs at n e)) (tokens-numbered cs at n e) (all_tokens-numbered cs at (n + count e) es)

  pub fields_tokens-numbered : (cs : List Placed) (at n : ℕ) (fs : Fields) → Numbered n (fields_tokens cs at n fs)
  fields_tokens-numbered cs at n expression.no_fields = tt
  fields_tokens-numbered cs at n (expression.field k e fs) =
      Numbered-append n (n + count e) (tokens cs at n e) (fields_tokens cs at (n + count e) fs) (ap (λ k. n + k) (tokens-length cs at n e)) (tokens-numbered cs at n e) (fields_tokens-numbered cs at (n + count e) fs)
