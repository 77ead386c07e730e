-- Lists of expressions that are marked one after another: the first of them, and then the rest.
use Rattle.std.proofs.Common.{◌≡◌, ℕ, List, [], ◌∷◌, ◌++◌, ◌+◌, length, refl, ap, sym, ◌∙◌, append_assoc, arith}
use Rattle.std.specs.List.{sum_by}
use Rattle.std.proofs.Math.Nat.{add_assoc}
use Rattle.std.proofs.lemmas.List.{append-nil, length-append}
use Rattle.std.proofs.lemmas.List.Sums.{sum_by-cons}
use Rattle.serde_json.specs.Data.{Data}
use Rattle.cdk_language.specs.Expression.{Expression}
use Rattle.cdk_tree.specs.Placed.{Placed}
use Rattle.cdk_tokens.specs.Marking.{count, marked, tokens}
use Rattle.cdk_tokens.specs.Token.{Token}
use Rattle.cdk_contexts.specs.Expressions.{expressions_in}
use Rattle.cdk_tokens.specs.Whole.{MarkedBody, marked_body, marked_from, marked_list, tokens_from, tokens_of_list}
use Rattle.cdk_tokens.proofs.CountLemmas.{length-tokens}
use Rattle.cdk_tokens.proofs.MarkingLemmas.{marked_list_then, tokens_of_list_then}

length-tokens_of_list : (cs : List Placed) (at n : ℕ) (es : List Expression) → length (tokens_of_list cs at n es) ≡ sum_by count es
length-tokens_of_list cs at n [] = refl
length-tokens_of_list cs at n (e ∷ es) =
    length-append (tokens cs at n e) (tokens_of_list cs at (n + count e) es) ∙ ap (λ k. k + length (tokens_of_list cs at (n + count e) es)) (length-tokens cs at n e)
    ∙ ap (λ k. count e + k) (length-tokens_of_list cs at (n + count e) es)
    ∙ sym (sum_by-cons count e es)

-- the number after the first and those after it
number_after : (n : ℕ) (e : Expression) (es : List Expression) → n + count e + sum_by count es ≡ n + sum_by count (e ∷ es)
number_after n e es = add_assoc n (count e) (sum_by count es) ∙ ap (λ k. n + k) (sym (sum_by-cons count e es))

no_more : (n : ℕ) → n ≡ n + sum_by count []
no_more n = omega arith

marked_list-append : (cs : List Placed) (at n : ℕ) (xs ys : List Expression) → marked_list cs at n (xs ++ ys) ≡ marked_list cs at n xs ++ marked_list cs at (n + sum_by count xs) ys
marked_list-append cs at n [] ys = ap (λ k. marked_list cs at k ys) (no_more n)
marked_list-append cs at n (e ∷ xs) ys =
    ap (λ ds. marked cs at n e ∷ ds) (marked_list-append cs at (n + count e) xs ys
    ∙ ap (λ k. marked_list cs at (n + count e) xs ++ marked_list cs at k ys) (number_after n e xs))

tokens_of_list-append : (cs : List Placed) (at n : ℕ) (xs ys : List Expression)
    → tokens_of_list cs at n (xs ++ ys) ≡ tokens_of_list cs at n xs ++ tokens_of_list cs at (n + sum_by count xs) ys
tokens_of_list-append cs at n [] ys = ap (λ k. tokens_of_list cs at k ys) (no_more n)
tokens_of_list-append cs at n (e ∷ xs) ys =
    ap (λ ts. tokens cs at n e ++ ts) (tokens_of_list-append cs at (n + count e) xs ys
    ∙ ap (λ k. tokens_of_list cs at (n + count e) xs ++ tokens_of_list cs at k ys) (number_after n e xs))
    ∙ sym (append_assoc (tokens cs at n e) (tokens_of_list cs at (n + count e) xs) (tokens_of_list cs at (n + sum_by count (e ∷ xs)) ys))

module _ (cs : List Placed) (at : ℕ) (xs : List Expression) (old new : List Token) (more : new ≡ old ++ tokens_of_list cs at (length old) xs) where
  length_after_list : length new ≡ length old + sum_by count xs
  length_after_list =
      ap length more ∙ length-append old (tokens_of_list cs at (length old) xs) ∙ ap (λ k. length old + k) (length-tokens_of_list cs at (length old) xs)

  lists_tokens_then : (rest : ℕ → List Token) → old ++ (tokens_of_list cs at (length old) xs ++ rest (length old + sum_by count xs)) ≡ new ++ rest (length new)
  lists_tokens_then rest =
      sym (append_assoc old (tokens_of_list cs at (length old) xs) (rest (length old + sum_by count xs)))
      ∙ ap (λ ts. ts ++ rest (length old + sum_by count xs)) (sym more)
      ∙ ap (λ k. new ++ rest k) (sym length_after_list)

  pub tokens_of_lists_then : (ys : List Expression) → old ++ tokens_of_list cs at (length old) (xs ++ ys) ≡ new ++ tokens_of_list cs at (length new) ys
  tokens_of_lists_then ys = ap (λ ts. old ++ ts) (tokens_of_list-append cs at (length old) xs ys) ∙ lists_tokens_then (λ k. tokens_of_list cs at k ys)

  pub marked_lists_then : (done now : List Data) (ys : List Expression) → now ≡ done ++ marked_list cs at (length old) xs
      → done ++ marked_list cs at (length old) (xs ++ ys) ≡ now ++ marked_list cs at (length new) ys
  marked_lists_then done now ys h =
      ap (λ ds. done ++ ds) (marked_list-append cs at (length old) xs ys)
      ∙ sym (append_assoc done (marked_list cs at (length old) xs) (marked_list cs at (length old + sum_by count xs) ys))
      ∙ ap (λ ds. ds ++ marked_list cs at (length old + sum_by count xs) ys) (sym h)
      ∙ ap (λ k. now ++ marked_list cs at k ys) (sym length_after_list)

-- two expressions
module _ (cs : List Placed) (at : ℕ) (x y : Expression) (old mid new : List Token) (first : mid ≡ old ++ tokens cs at (length old) x) (second : new ≡ mid ++ tokens cs at (length mid) y) where
  pub two_tokens : new ≡ old ++ tokens_of_list cs at (length old) (x ∷ y ∷ [])
  two_tokens = sym (tokens_of_list_then cs at x old mid first (y ∷ []) ∙ tokens_of_list_then cs at y mid new second [] ∙ append-nil new)

  pub two_marked : (done one both : List Data) → one ≡ done ++ marked cs at (length old) x ∷ [] → both ≡ one ++ marked cs at (length mid) y ∷ []
      → both ≡ done ++ marked_list cs at (length old) (x ∷ y ∷ [])
  two_marked done one both h g =
      sym (
      marked_list_then cs at x old mid first (marked cs at (length old) x) refl done (y ∷ [])
      ∙ ap (λ ds. ds ++ marked_list cs at (length mid) (y ∷ [])) (sym h)
      ∙ sym g
      )

-- a construct, and then the rest
module _ (cs : List Placed) (n : ℕ) (c : Placed) (rest : List Placed) (old new : List Token) (more : new ≡ old ++ tokens_of_list cs n (length old) (expressions_in c.body)) where
  pub tokens_from_then : old ++ tokens_from cs n (length old) (c ∷ rest) ≡ new ++ tokens_from cs (n + 1) (length new) rest
  tokens_from_then = lists_tokens_then cs n (expressions_in c.body) old new more (λ k. tokens_from cs (n + 1) k rest)

  pub marked_from_then : (done : List MarkedBody) (v : MarkedBody) → v ≡ marked_body cs n (length old) c.body
      → done ++ marked_from cs n (length old) (c ∷ rest) ≡ (done ++ v ∷ []) ++ marked_from cs (n + 1) (length new) rest
  marked_from_then done v value =
      ap (λ d. done ++ d ∷ marked_from cs (n + 1) (length old + sum_by count (expressions_in c.body)) rest) (sym value)
      ∙ ap (λ k. done ++ v ∷ marked_from cs (n + 1) k rest) (sym (length_after_list cs n (expressions_in c.body) old new more))
      ∙ sym (append_assoc done (v ∷ []) (marked_from cs (n + 1) (length new) rest))
