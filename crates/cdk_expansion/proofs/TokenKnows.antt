-- Where the keys of a row of tokens stand for a row of plain forms, an expression's tokens are known.
use Rattle.std.proofs.Common.{◌≡◌, ℕ, ◌+◌, List, [], ◌∷◌, ◌++◌, length, Some, refl, sym, ap, ◌∙◌, subst, append_assoc, slice_get, arith}
use Rattle.std.specs.Prelude.{⊤}
use Rattle.std.specs.Option.{option_and_then}
use Rattle.std.proofs.lemmas.List.{length-append}
use Rattle.cdk_language.specs.Expression as expression
use Rattle.cdk_language.specs.Expression.{Expression, Expressions, Fields}
use Rattle.cdk_plain.specs.Plain.{Plain}
use Rattle.cdk_tree.specs.Placed.{Placed}
use Rattle.cdk_tokens.specs.Marking.{all_tokens, count, count_all, count_fields, fields_tokens, marked, target, token_of, tokens}
use Rattle.cdk_tokens.specs.Token as token
use Rattle.cdk_tokens.specs.Token.{Form, Token, find_token}
use Rattle.cdk_expansion.specs.Expanded.{Known, known_by}
use Rattle.cdk_expansion.specs.Knows.{Knows, KnowsAll, KnowsFields, all_own_tokens, fields_own_tokens, own_tokens}
use Rattle.cdk_expansion.specs.Own.{own}
use Rattle.cdk_expansion.proofs.TokenKeys.{IsRow, find_token-at}
use Rattle.cdk_expansion.proofs.TokenNumbers.{length-both, length-then, length-two, tokens-length}

-- ---- as many own plain forms as tokens

mutual
  pub own_tokens-length : (lazies : ℕ → Plain) (cs : List Placed) (at : ℕ) (e : Expression) → length (own_tokens lazies cs at e) ≡ count e
  own_tokens-length lazies cs at (expression.text s) = refl
  own_tokens-length lazies cs at (expression.whole z) = refl
  own_tokens-length lazies cs at (expression.truth b) = refl
  own_tokens-length lazies cs at (expression.list es) = all_own_tokens-length lazies cs at es
  own_tokens-length lazies cs at (expression.object fs) = fields_own_tokens-length lazies cs at fs
  own_tokens-length lazies cs at (expression.pseudo p) = refl
  own_tokens-length lazies cs at (expression.ref t) = refl
  own_tokens-length lazies cs at (expression.get_att t a) = refl
  own_tokens-length lazies cs at (expression.concat es) = all_own_tokens-length lazies cs at es
  own_tokens-length lazies cs at (expression.join d e) = length-then (own_tokens lazies cs at e) (own lazies cs at (expression.join d e)) (count e) (own_tokens-length lazies cs at e)
  own_tokens-length lazies cs at (expression.select i e) = length-then (own_tokens lazies cs at e) (own lazies cs at (expression.select i e)) (count e) (own_tokens-length lazies cs at e)
  own_tokens-length lazies cs at (expression.split d e) = length-then (own_tokens lazies cs at e) (own lazies cs at (expression.split d e)) (count e) (own_tokens-length lazies cs at e)
  own_tokens-length lazies cs at (expression.choice c x y) =
      length-two (own_tokens lazies cs at x) (own_tokens lazies cs at y) (own lazies cs at (expression.choice c x y)) (count x) (count y) (own_tokens-length lazies cs at x) (own_tokens-length lazies cs at y)
  own_tokens-length lazies cs at (expression.find_in_map m x y) =
      length-two (own_tokens lazies cs at x) (own_tokens lazies cs at y) (own lazies cs at (expression.find_in_map m x y)) (count x) (count y) (own_tokens-length lazies cs at x) (own_tokens-length lazies cs at y)
  own_tokens-length lazies cs at (expression.import_value t) = refl
  own_tokens-length lazies cs at (expression.context k d) = refl
  own_tokens-length lazies cs at (expression.lazy t) = refl

  pub all_own_tokens-length : (lazies : ℕ → Plain) (cs : List Placed) (at : ℕ) (es : Expressions) → length (all_own_tokens lazies cs at es) ≡ count_all es
  all_own_tokens-length lazies cs at expression.no_expressions = refl
  all_own_tokens-length lazies cs at (expression.expression e es) =
      length-both (own_tokens lazies cs at e) (all_own_tokens lazies cs at es) (count e) (count_all es) (own_tokens-length lazies cs at e) (all_own_tokens-length lazies cs at es)

  pub fields_own_tokens-length : (lazies : ℕ → Plain) (cs : List Placed) (at : ℕ) (fs : Fields) → length (fields_own_tokens lazies cs at fs) ≡ count_fields fs
  fields_own_tokens-length lazies cs at expression.no_fields = refl
  fields_own_tokens-length lazies cs at (expression.field k e fs) =
      length-both (own_tokens lazies cs at e) (fields_own_tokens lazies cs at fs) (count e) (count_fields fs) (own_tokens-length lazies cs at e) (fields_own_tokens-length lazies cs at fs)

pub same_length : (lazies : ℕ → Plain) (cs : List Placed) (at n : ℕ) (e : Expression) → length (tokens cs at n e) ≡ length (own_tokens lazies cs at e)
same_length lazies cs at n e = tokens-length cs at n e ∙ sym (own_tokens-length lazies cs at e)

-- ---- tokens and the plain forms that their keys stand for

abbrev pub Agree : Known → List Token → List Plain → Type 0
Agree known [] [] = ⊤
Agree known [] (p ∷ ps) = ⊥
Agree known (t ∷ ts) [] = ⊥
Agree known (t ∷ ts) (p ∷ ps) = (known t.key ≡ Some p) × Agree known ts ps

pub Agree-apart : (known : Known) (ts us : List Token) (ps qs : List Plain) → length ts ≡ length ps → Agree known (ts ++ us) (ps ++ qs) → Agree known ts ps × Agree known us qs
Agree-apart known [] us [] qs e h = (tt, h)
Agree-apart known [] us (p ∷ ps) qs e h = absurd (omega arith)
Agree-apart known (t ∷ ts) us [] qs e h = absurd (omega arith)
Agree-apart known (t ∷ ts) us (p ∷ ps) qs e h = let rest = Agree-apart known ts us ps qs (omega arith) (h.1) in ((h.0, rest.0), rest.1)

slice_get-seam : (done : List Plain) (p : Plain) (rest : List Plain) → slice_get (done ++ p ∷ rest) (length done) ≡ Some p
slice_get-seam [] p rest = refl
slice_get-seam (q ∷ done) p rest = slice_get-seam done p rest

-- where plain forms stand at the places of the tokens
pub Agree-rows : (all before ts after : List Token) (ps done qs rest : List Plain) → IsRow all → all ≡ before ++ (ts ++ after) → ps ≡ done ++ (qs ++ rest)
    → length before ≡ length done → length ts ≡ length qs → Agree (known_by all ps) ts qs
Agree-rows all before [] after ps done [] rest row e f l m = tt
Agree-rows all before [] after ps done (q ∷ qs) rest row e f l m = absurd (omega arith)
Agree-rows all before (t ∷ ts) after ps done [] rest row e f l m = absurd (omega arith)
Agree-rows all before (t ∷ ts) after ps done (q ∷ qs) rest row e f l m =
    let found : find_token all t.key ≡ Some (length before) = ap (λ ts. find_token ts t.key) e ∙ find_token-at before (ts ++ after) t (subst IsRow e row) in
    let there : slice_get ps (length before) ≡ Some q = ap (slice_get ps) l ∙ ap (λ ps. slice_get ps (length done)) f ∙ slice_get-seam done q (qs ++ rest) in
    let longer : length (before ++ t ∷ []) ≡ length (done ++ q ∷ []) = omega (arith, length-append before (t ∷ []), length-append done (q ∷ []), l) in (
      ap (option_and_then (slice_get ps)) found ∙ there,
      Agree-rows all (before ++ t ∷ []) ts after ps (done ++ q ∷ []) qs rest row (e ∙ sym (append_assoc before (t ∷ []) (ts ++ after))) (f ∙ sym (append_assoc done (q ∷ []) (qs ++ rest))) longer (omega arith),
    )

-- ---- an expression's tokens are known

mutual
  pub agreed : (known : Known) (lazies : ℕ → Plain) (cs : List Placed) (at n : ℕ) (e : Expression) → Agree known (tokens cs at n e) (own_tokens lazies cs at e) → Knows known lazies cs at n e
  agreed known lazies cs at n (expression.text s) h = tt
  agreed known lazies cs at n (expression.whole z) h = tt
  agreed known lazies cs at n (expression.truth b) h = tt
  agreed known lazies cs at n (expression.list es) h = all_agreed known lazies cs at n es h
  agreed known lazies cs at n (expression.object fs) h = fields_agreed known lazies cs at n fs h
  agreed known lazies cs at n (expression.pseudo p) h = h.0
  agreed known lazies cs at n (expression.ref t) h = h.0
  agreed known lazies cs at n (expression.get_att t a) h = h.0
  agreed known lazies cs at n (expression.concat es) h = all_agreed known lazies cs at n es h
  agreed known lazies cs at n (expression.join d e) h =
      let t : Token = token_of cs at (n + count e) (expression.join d e) (token.join d (marked cs at n e)) in
      let parts = Agree-apart known (tokens cs at n e) (t ∷ []) (own_tokens lazies cs at e) (own lazies cs at (expression.join d e) ∷ []) (same_length lazies cs at n e) h in
      (agreed known lazies cs at n e (parts.0), (parts.1).0)
  agreed known lazies cs at n (expression.select i e) h =
      let t : Token = token_of cs at (n + count e) (expression.select i e) (token.select i (marked cs at n e)) in
      let parts = Agree-apart known (tokens cs at n e) (t ∷ []) (own_tokens lazies cs at e) (own lazies cs at (expression.select i e) ∷ []) (same_length lazies cs at n e) h in
      (agreed known lazies cs at n e (parts.0), (parts.1).0)
  agreed known lazies cs at n (expression.split d e) h =
      let t : Token = token_of cs at (n + count e) (expression.split d e) (token.split d (marked cs at n e)) in
      let parts = Agree-apart known (tokens cs at n e) (t ∷ []) (own_tokens lazies cs at e) (own lazies cs at (expression.split d e) ∷ []) (same_length lazies cs at n e) h in
      (agreed known lazies cs at n e (parts.0), (parts.1).0)
  agreed known lazies cs at n (expression.choice c x y) h =
      let t : Token = token_of cs at (n + (count x + count y)) (expression.choice c x y) (token.choice (target cs c) (marked cs at n x) (marked cs at (n + count x) y)) in
      let first = Agree-apart known (tokens cs at n x) (tokens cs at (n + count x) y ++ t ∷ []) (own_tokens lazies cs at x) (own_tokens lazies cs at y ++ own lazies cs at (expression.choice c x y) ∷ []) (same_length lazies cs at n x) h in
      let second = Agree-apart known (tokens cs at (n + count x) y) (t ∷ []) (own_tokens lazies cs at y) (own lazies cs at (expression.choice c x y) ∷ []) (same_length lazies cs at (n + count x) y) (first.1) in
      (agreed known lazies cs at n x (first.0), agreed known lazies cs at (n + count x) y (second.0), (second.1).0)
  agreed known lazies cs at n (expression.find_in_map m x y) h =
      let t : Token = token_of cs at (n + (count x + count y)) (expression.find_in_map m x y) (token.find_in_map (target cs m) (marked cs at n x) (marked cs at (n + count x) y)) in
      let first = Agree-apart known (tokens cs at n x) (tokens cs at (n + count x) y ++ t ∷ []) (own_tokens lazies cs at x) (own_tokens lazies cs at y ++ own lazies cs at (expression.find_in_map m x y) ∷ []) (same_length lazies cs at n x) h in
      let second = Agree-apart known (tokens cs at (n + count x) y) (t ∷ []) (own_tokens lazies cs at y) (own lazies cs at (expression.find_in_map m x y) ∷ []) (same_length lazies cs at (n + count x) y) (first.1) in
      (agreed known lazies cs at n x (first.0), agreed known lazies cs at (n + count x) y (second.0), (second.1).0)
  agreed known lazies cs at n (expression.import_value t) h = h.0
  agreed known lazies cs at n (expression.context k d) h = tt
  agreed known lazies cs at n (expression.lazy t) h = h.0

  pub all_agreed : (known : Known) (lazies : ℕ → Plain) (cs : List Placed) (at n : ℕ) (es : Expressions) → Agree known (all_tokens cs at n es) (all_own_tokens lazies cs at es) → KnowsAll known lazies cs at n es
  all_agreed known lazies cs at n expression.no_expressions h = tt
  all_agreed known lazies cs at n (expression.expression e es) h =
      let parts = Agree-apart known (tokens cs at n e) (all_tokens cs at (n + count e) es) (own_tokens lazies cs at e) (all_own_tokens lazies cs at es) (same_length lazies cs at n e) h in
      (agreed known lazies cs at n e (parts.0), all_agreed known lazies cs at (n + count e) es (parts.1))

  pub fields_agreed : (known : Known) (lazies : ℕ → Plain) (cs : List Placed) (at n : ℕ) (fs : Fields) → Agree known (fields_tokens cs at n fs) (fields_own_tokens lazies cs at fs) → KnowsFields known lazies cs at n fs
  fields_agreed known lazies cs at n expression.no_fields h = tt
  fields_agreed known lazies cs at n (expression.field k e fs) h =
      let parts = Agree-apart known (tokens cs at n e) (fields_tokens cs at (n + count e) fs) (own_tokens lazies cs at e) (fields_own_tokens lazies cs at fs) (same_length lazies cs at n e) h in
      (agreed known lazies cs at n e (parts.0), fields_agreed known lazies cs at (n + count e) fs (parts.1))
