-- All tokens of an application are one row, and their plain forms are its expressions' own.
use Rattle.std.proofs.Common.{◌≡◌, ℕ, suc, ◌+◌, ◌<◌, ◌^◌, List, [], ◌∷◌, ◌++◌, length, refl, sym, ap, ◌∙◌, subst, sum_by, arith}
use Rattle.std.specs.Prelude.{⊤}
use Rattle.std.proofs.lemmas.List.{append-nil}
use Rattle.std.proofs.lemmas.List.Sums.{sum_by-cons}
use Rattle.cdk_language.specs.Expression.{Expression}
use Rattle.cdk_plain.specs.Plain.{Plain}
use Rattle.cdk_tree.specs.Placed.{Placed, construct_at}
use Rattle.cdk_tokens.specs.Marking.{count, tokens}
use Rattle.cdk_contexts.specs.Expressions.{expressions_in}
use Rattle.cdk_tokens.specs.Whole.{count_in, tokens_from, tokens_of, tokens_of_list}
use Rattle.cdk_expansion.specs.Expanded.{forms_after, known_in, token_plains}
use Rattle.cdk_expansion.specs.Knows.{own_tokens}
use Rattle.cdk_expansion.specs.Right.{ListIsRight}
use Rattle.cdk_expansion.proofs.TokenForms.{FewAreOwn, Fills, Fills-both, Fills-none, filled}
use Rattle.cdk_expansion.proofs.TokenKeys.{IsRow}
use Rattle.cdk_expansion.proofs.TokenKnows.{Agree, Agree-rows, own_tokens-length, same_length}
use Rattle.cdk_expansion.proofs.TokenNumbers.{Numbered, Numbered-append, length-both, tokens-length, tokens-numbered}

-- ---- of expressions one after another

abbrev pub own_list : (ℕ → Plain) → List Placed → ℕ → List Expression → List Plain
own_list lazies cs at [] = []
own_list lazies cs at (e ∷ es) = own_tokens lazies cs at e ++ own_list lazies cs at es

list-length : (cs : List Placed) (at n : ℕ) (es : List Expression) → length (tokens_of_list cs at n es) ≡ sum_by count es
list-length cs at n [] = refl
list-length cs at n (e ∷ es) =
    length-both (tokens cs at n e) (tokens_of_list cs at (n + count e) es) (count e) (sum_by count es) (tokens-length cs at n e) (list-length cs at (n + count e) es) ∙ sym (sum_by-cons count e es)

own_list-length : (lazies : ℕ → Plain) (cs : List Placed) (at : ℕ) (es : List Expression) → length (own_list lazies cs at es) ≡ sum_by count es
own_list-length lazies cs at [] = refl
own_list-length lazies cs at (e ∷ es) =
    length-both (own_tokens lazies cs at e) (own_list lazies cs at es) (count e) (sum_by count es) (own_tokens-length lazies cs at e) (own_list-length lazies cs at es) ∙ sym (sum_by-cons count e es)

pub same_list-length : (lazies : ℕ → Plain) (cs : List Placed) (at n : ℕ) (es : List Expression) → length (tokens_of_list cs at n es) ≡ length (own_list lazies cs at es)
same_list-length lazies cs at n es = list-length cs at n es ∙ sym (own_list-length lazies cs at es)

list-numbered : (cs : List Placed) (at n : ℕ) (es : List Expression) → Numbered n (tokens_of_list cs at n es)
list-numbered cs at n [] = tt
list-numbered cs at n (e ∷ es) =
    Numbered-append n (n + count e) (tokens cs at n e) (tokens_of_list cs at (n + count e) es) (ap (λ k. n + k) (tokens-length cs at n e)) (tokens-numbered cs at n e) (list-numbered cs at (n + count e) es)

-- ---- of constructs one after another

abbrev pub own_from : (ℕ → Plain) → List Placed → ℕ → List Placed → List Plain
own_from lazies cs at [] = []
own_from lazies cs at (c ∷ rest) = own_list lazies cs at (expressions_in c.body) ++ own_from lazies cs (at + 1) rest

abbrev pub count_from : List Placed → ℕ
count_from [] = 0
count_from (c ∷ rest) = count_in c.body + count_from rest

pub from-length : (cs : List Placed) (at n : ℕ) (rest : List Placed) → length (tokens_from cs at n rest) ≡ count_from rest
from-length cs at n [] = refl
from-length cs at n (c ∷ rest) =
    length-both (tokens_of_list cs at n (expressions_in c.body)) (tokens_from cs (at + 1) (n + count_in c.body) rest) (count_in c.body) (count_from rest)
    (list-length cs at n (expressions_in c.body)) (from-length cs (at + 1) (n + count_in c.body) rest)

own_from-length : (lazies : ℕ → Plain) (cs : List Placed) (at : ℕ) (rest : List Placed) → length (own_from lazies cs at rest) ≡ count_from rest
own_from-length lazies cs at [] = refl
own_from-length lazies cs at (c ∷ rest) =
    length-both (own_list lazies cs at (expressions_in c.body)) (own_from lazies cs (at + 1) rest) (count_in c.body) (count_from rest)
    (own_list-length lazies cs at (expressions_in c.body)) (own_from-length lazies cs (at + 1) rest)

pub from-numbered : (cs : List Placed) (at n : ℕ) (rest : List Placed) → Numbered n (tokens_from cs at n rest)
from-numbered cs at n [] = tt
from-numbered cs at n (c ∷ rest) =
    Numbered-append n (n + count_in c.body) (tokens_of_list cs at n (expressions_in c.body)) (tokens_from cs (at + 1) (n + count_in c.body) rest)
    (ap (λ k. n + k) (list-length cs at n (expressions_in c.body))) (list-numbered cs at n (expressions_in c.body)) (from-numbered cs (at + 1) (n + count_in c.body) rest)

-- all expressions of the constructs from the number on are right
abbrev pub RightFrom : List Placed → ℕ → List Placed → Type 0
RightFrom cs at [] = ⊤
RightFrom cs at (c ∷ rest) = ListIsRight cs at (expressions_in c.body) × RightFrom cs (at + 1) rest

pub right_from : (cs : List Placed) (at : ℕ) (rest : List Placed) → ((i j : ℕ) → at + i ≡ j → i < length rest → ListIsRight cs j (expressions_in (construct_at rest i).body)) → RightFrom cs at rest
right_from cs at [] h = tt
right_from cs at (c ∷ rest) h = (h 0 at (omega arith) (omega arith), right_from cs (at + 1) rest (λ i j e within. h (suc i) j (omega (arith, e)) (omega (arith, within))))

abbrev pub AllRight : List Placed → Type 0
AllRight cs = (at : ℕ) → at < length cs → ListIsRight cs at (expressions_in (construct_at cs at).body)

module _ (same : FewAreOwn) (lazies : ℕ → Plain) (cs : List Placed) (few : length (tokens_of cs) < 2 ^ 64) (right : AllRight cs) where
  row : IsRow (tokens_of cs)
  row = record { numbered = from-numbered cs 0 0 cs; few = few }

  list-filled : (at n : ℕ) (es : List Expression) → n + sum_by count es < 2 ^ 64 → ListIsRight cs at es → Fills lazies (tokens_of cs) (tokens_of_list cs at n es) (own_list lazies cs at es)
  list-filled at n [] below each = Fills-none lazies (tokens_of cs)
  list-filled at n (e ∷ es) below each =
      Fills-both lazies (tokens_of cs) (tokens cs at n e) (tokens_of_list cs at (n + count e) es) (own_tokens lazies cs at e) (own_list lazies cs at es) (same_length lazies cs at n e)
      (filled same lazies cs (tokens_of cs) row at n e (omega (arith, sum_by-cons count e es, below)) (each.0)) (list-filled at (n + count e) es (omega (arith, sum_by-cons count e es, below)) (each.1))

  from-filled : (at n : ℕ) (rest : List Placed) → n + count_from rest < 2 ^ 64 → RightFrom cs at rest → Fills lazies (tokens_of cs) (tokens_from cs at n rest) (own_from lazies cs at rest)
  from-filled at n [] below each = Fills-none lazies (tokens_of cs)
  from-filled at n (c ∷ rest) below each =
      Fills-both lazies (tokens_of cs) (tokens_of_list cs at n (expressions_in c.body)) (tokens_from cs (at + 1) (n + count_in c.body) rest)
      (own_list lazies cs at (expressions_in c.body)) (own_from lazies cs (at + 1) rest) (same_list-length lazies cs at n (expressions_in c.body))
      (list-filled at n (expressions_in c.body) (omega arith) (each.0)) (from-filled (at + 1) (n + count_in c.body) rest (omega arith) (each.1))

  token_plains-own : token_plains lazies (tokens_of cs) ≡ own_from lazies cs 0 cs
  token_plains-own =
      let right : RightFrom cs 0 cs = right_from cs 0 cs (λ i j e within. let P : ℕ → Type 0 = λ k. ListIsRight cs k (expressions_in (construct_at cs i).body) in let same : i ≡ j = omega arith in subst P same (right i within)) in
      ap (forms_after lazies (tokens_of cs) []) (sym (append-nil (tokens_of cs)))
      ∙ from-filled 0 0 cs (omega (arith, from-length cs 0 0 cs, few)) right [] [] [] (sym (append-nil (tokens_of cs))) refl

  -- every token's key stands for its expression's own plain form
  pub whole_agrees : Agree (known_in lazies (tokens_of cs)) (tokens_of cs) (own_from lazies cs 0 cs)
  whole_agrees =
      Agree-rows (tokens_of cs) [] (tokens_of cs) [] (token_plains lazies (tokens_of cs)) [] (own_from lazies cs 0 cs) [] row
      (sym (append-nil (tokens_of cs))) (token_plains-own ∙ sym (append-nil (own_from lazies cs 0 cs))) refl (from-length cs 0 0 cs ∙ sym (own_from-length lazies cs 0 cs))
