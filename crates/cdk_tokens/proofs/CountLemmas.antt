-- An expression has as many tokens as are counted.
use Rattle.std.proofs.Common.{◌≡◌, ℕ, List, [], ◌∷◌, ◌++◌, ◌+◌, length, refl, ap, sym, ◌∙◌, arith, append_assoc}
use Rattle.std.proofs.lemmas.List.{length-append}
use Rattle.cdk_language.specs.Expression as expression
use Rattle.cdk_language.specs.Expression.{Expression, Expressions, Fields}
use Rattle.cdk_tree.specs.Placed.{Placed}
use Rattle.cdk_tokens.specs.Marking.{all_tokens, count, count_all, count_fields, fields_tokens, tokens}
use Rattle.cdk_tokens.specs.Token.{Token}

length_more : (xs : List Token) (t : Token) (n : ℕ) → length xs ≡ n → length (xs ++ t ∷ []) ≡ n + 1
length_more xs t n h = length-append xs (t ∷ []) ∙ ap (λ k. k + 1) h

length_both : (xs ys : List Token) (n m : ℕ) → length xs ≡ n → length ys ≡ m → length (xs ++ ys) ≡ n + m
length_both xs ys n m h g = length-append xs ys ∙ ap (λ k. k + length ys) h ∙ ap (λ k. n + k) g

length_three : (xs ys : List Token) (t : Token) (n m : ℕ) → length xs ≡ n → length ys ≡ m → length (xs ++ (ys ++ t ∷ [])) ≡ n + m + 1
length_three xs ys t n m h g = let all : length (xs ++ (ys ++ t ∷ [])) ≡ n + (m + 1) = length_both xs (ys ++ t ∷ []) n (m + 1) h (length_more ys t m g) in omega (arith, all)

mutual
  pub length-tokens : (cs : List Placed) (at n : ℕ) (e : Expression) → length (tokens cs at n e) ≡ count e
  length-tokens cs at n (expression.text s) = refl
  length-tokens cs at n (expression.whole z) = refl
  length-tokens cs at n (expression.truth b) = refl
  length-tokens cs at n (expression.list es) = length-all_tokens cs at n es
  length-tokens cs at n (expression.object fs) = length-fields_tokens cs at n fs
  length-tokens cs at n (expression.pseudo p) = refl
  length-tokens cs at n (expression.ref t) = refl
  length-tokens cs at n (expression.get_att t a) = refl
  length-tokens cs at n (expression.concat es) = length-all_tokens cs at n es
  length-tokens cs at n (expression.join d e) = length_more (tokens cs at n e) _ (count e) (length-tokens cs at n e)
  length-tokens cs at n (expression.select i e) = length_more (tokens cs at n e) _ (count e) (length-tokens cs at n e)
  length-tokens cs at n (expression.split d e) = length_more (tokens cs at n e) _ (count e) (length-tokens cs at n e)
  length-tokens cs at n (expression.choice c x y) =
      length_three (tokens cs at n x) (tokens cs at (n + count x) y) _ (count x) (count y) (length-tokens cs at n x) (length-tokens cs at (n + count x) y)
  length-tokens cs at n (expression.find_in_map m x y) =
      length_three (tokens cs at n x) (tokens cs at (n + count x) y) _ (count x) (count y) (length-tokens cs at n x) (length-tokens cs at (n + count x) y)
  length-tokens cs at n (expression.import_value t) = refl
  length-tokens cs at n (expression.context k d) = refl
  length-tokens cs at n (expression.lazy t) = refl

  pub length-all_tokens : (cs : List Placed) (at n : ℕ) (es : Expressions) → length (all_tokens cs at n es) ≡ count_all es
  length-all_tokens cs at n expression.no_expressions = refl
  length-all_tokens cs at n (expression.expression e es) =
      length_both (tokens cs at n e) (all_tokens cs at (n + count e) es) (count e) (count_all es) (length-tokens cs at n e) (length-all_tokens cs at (n + count e) es)

  pub length-fields_tokens : (cs : List Placed) (at n : ℕ) (fs : Fields) → length (fields_tokens cs at n fs) ≡ count_fields fs
  length-fields_tokens cs at n expression.no_fields = refl
  length-fields_tokens cs at n (expression.field k e fs) =
      length_both (tokens cs at n e) (fields_tokens cs at (n + count e) fs) (count e) (count_fields fs) (length-tokens cs at n e) (length-fields_tokens cs at (n + count e) fs)

-- how many tokens there are once those of an expression are put after
pub length_after : (cs : List Placed) (at : ℕ) (e : Expression) (old new : List Token) → new ≡ old ++ tokens cs at (length old) e → length new ≡ length old + count e
length_after cs at e old new more = ap length more ∙ length-append old (tokens cs at (length old) e) ∙ ap (λ k. length old + k) (length-tokens cs at (length old) e)

-- what comes after the tokens of an expression, numbered on
pub tokens_then : (cs : List Placed) (at : ℕ) (e : Expression) (old new : List Token) (rest : ℕ → List Token) → new ≡ old ++ tokens cs at (length old) e
    → old ++ (tokens cs at (length old) e ++ rest (length old + count e)) ≡ new ++ rest (length new)
tokens_then cs at e old new rest more =
    sym (append_assoc old (tokens cs at (length old) e) (rest (length old + count e)))
    ∙ ap (λ ts. ts ++ rest (length old + count e)) (sym more)
    ∙ ap (λ k. new ++ rest k) (sym (length_after cs at e old new more))
