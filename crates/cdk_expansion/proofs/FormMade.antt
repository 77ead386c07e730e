-- The tokens of an expression are found by their keys, as texts or as lists.
use Rattle.std.proofs.Common.{◌≡◌, ℕ, ◌+◌, List, [], ◌∷◌, ◌++◌, length, false, not, Some, refl, sym, ap, ◌∙◌, subst, append_assoc, slice_get}
use Rattle.std.specs.Prelude.{⊤}
use Rattle.std.specs.Option.{option_and_then, option_map_or}
use Rattle.cdk_language.specs.Expression as expression
use Rattle.cdk_language.specs.Expression.{Expression, Expressions, Fields}
use Rattle.cdk_tree.specs.Lists.{is_list}
use Rattle.cdk_tree.specs.Placed.{Placed}
use Rattle.cdk_tokens.specs.Marking.{all_tokens, count, fields_tokens, hint, marked, target, token_of, tokens}
use Rattle.cdk_tokens.specs.Token as token
use Rattle.cdk_tokens.specs.Token.{Token, find_token, key_of}
use Rattle.cdk_tokens.specs.Values.{is_list_token, is_text_token, token_at}
use Rattle.cdk_expansion.proofs.TokenKeys.{IsRow, find_token-at}

-- ---- rows of tokens

-- the token is found by its key
abbrev pub IsFound : List Token → Token → Type 0
IsFound ts t = (is_text_token ts t.key ≡ not t.is_list) × (is_list_token ts t.key ≡ t.is_list)

abbrev pub AreFound : List Token → List Token → Type 0
AreFound ts [] = ⊤
AreFound ts (u ∷ us) = IsFound ts u × AreFound ts us

pub AreFound-apart : (ts us vs : List Token) → AreFound ts (us ++ vs) → AreFound ts us × AreFound ts vs
AreFound-apart ts [] vs h = (tt, h)
AreFound-apart ts (u ∷ us) vs h = let rest = AreFound-apart ts us vs (h.1) in ((h.0, rest.0), rest.1)

slice_get-seam : (before after : List Token) (t : Token) → slice_get (before ++ t ∷ after) (length before) ≡ Some t
slice_get-seam [] after t = refl
slice_get-seam (u ∷ before) after t = slice_get-seam before after t

token_at-place : (before after : List Token) (t : Token) → IsRow (before ++ t ∷ after) → token_at (before ++ t ∷ after) t.key ≡ Some t
token_at-place before after t row = ap (option_and_then (slice_get (before ++ t ∷ after))) (find_token-at before after t row) ∙ slice_get-seam before after t

found_from : (all before after : List Token) → IsRow all → all ≡ before ++ after → AreFound all after
found_from all before [] row e = tt
found_from all before (t ∷ after) row e =
    let at : token_at all t.key ≡ Some t = ap (λ ts. token_at ts t.key) e ∙ token_at-place before after t (subst IsRow e row) in (
      (ap (λ o. option_map_or (λ t. not t.is_list) o false) at, ap (λ o. option_map_or (λ t. t.is_list) o false) at),
      found_from all (before ++ t ∷ []) after row (e ∙ sym (append_assoc before (t ∷ []) after)),
    )

-- each token of a row is found in it
pub row_is_found : (all : List Token) → IsRow all → AreFound all all
row_is_found all row = found_from all [] all row refl

-- ---- expressions

-- the expression's token of the number is found
abbrev pub MadeOne : List Token → List Placed → ℕ → ℕ → Expression → Type 0
MadeOne ts cs at n e = (is_text_token ts (key_of (hint e) n) ≡ not (is_list cs at e)) × (is_list_token ts (key_of (hint e) n) ≡ is_list cs at e)

-- and so is each of an expression of the construct `at`, whose tokens are numbered from n on
abbrev mutual
  pub Made : List Token → List Placed → ℕ → ℕ → Expression → Type 0
  Made ts cs at n (expression.text s) = ⊤
  Made ts cs at n (expression.whole z) = ⊤
  Made ts cs at n (expression.truth b) = ⊤
  Made ts cs at n (expression.list es) = AllMade ts cs at n es
  Made ts cs at n (expression.object fs) = FieldsMade ts cs at n fs
  Made ts cs at n (expression.pseudo p) = MadeOne ts cs at n (expression.pseudo p)
  Made ts cs at n (expression.ref t) = MadeOne ts cs at n (expression.ref t)
  Made ts cs at n (expression.get_att t a) = MadeOne ts cs at n (expression.get_att t a)
  Made ts cs at n (expression.concat es) = AllMade ts cs at n es
  Made ts cs at n (expression.join d e) = MadeOne ts cs at (n + count e) (expression.join d e)
  Made ts cs at n (expression.select i e) = MadeOne ts cs at (n + count e) (expression.select i e)
  Made ts cs at n (expression.split d e) = MadeOne ts cs at (n + count e) (expression.split d e)
  Made ts cs at n (expression.choice c x y) = MadeOne ts cs at (n + (count x + count y)) (expression.choice c x y)
  Made ts cs at n (expression.find_in_map m x y) = MadeOne ts cs at (n + (count x + count y)) (expression.find_in_map m x y)
  Made ts cs at n (expression.import_value t) = MadeOne ts cs at n (expression.import_value t)
  Made ts cs at n (expression.context k d) = ⊤
  Made ts cs at n (expression.lazy t) = MadeOne ts cs at n (expression.lazy t)

  pub AllMade : List Token → List Placed → ℕ → ℕ → Expressions → Type 0
  AllMade ts cs at n expression.no_expressions = ⊤
  AllMade ts cs at n (expression.expression e es) = Made ts cs at n e × AllMade ts cs at (n + count e) es

  pub FieldsMade : List Token → List Placed → ℕ → ℕ → Fields → Type 0
  FieldsMade ts cs at n expression.no_fields = ⊤
  FieldsMade ts cs at n (expression.field k e fs) = Made ts cs at n e × FieldsMade ts cs at (n + count e) fs

-- the last of a row
last_is_found : (ts us : List Token) (t : Token) → AreFound ts (us ++ t ∷ []) → IsFound ts t
last_is_found ts us t h = ((AreFound-apart ts us (t ∷ []) h).1).0

last_of_two : (ts us vs : List Token) (t : Token) → AreFound ts (us ++ (vs ++ t ∷ [])) → IsFound ts t
last_of_two ts us vs t h = last_is_found ts vs t ((AreFound-apart ts us (vs ++ t ∷ []) h).1)

-- where the tokens of an expression are found
mutual
  pub made : (ts : List Token) (cs : List Placed) (at n : ℕ) (e : Expression) → AreFound ts (tokens cs at n e) → Made ts cs at n e
  made ts cs at n (expression.text s) h = tt
  made ts cs at n (expression.whole z) h = tt
  made ts cs at n (expression.truth b) h = tt
  made ts cs at n (expression.list es) h = all_made ts cs at n es h
  made ts cs at n (expression.object fs) h = fields_made ts cs at n fs h
  made ts cs at n (expression.pseudo p) h = h.0
  made ts cs at n (expression.ref t) h = h.0
  made ts cs at n (expression.get_att t a) h = h.0
  made ts cs at n (expression.concat es) h = all_made ts cs at n es h
  made ts cs at n (expression.join d e) h = last_is_found ts (tokens cs at n e) (token_of cs at (n + count e) (expression.join d e) (token.join d (marked cs at n e))) h
  made ts cs at n (expression.select i e) h = last_is_found ts (tokens cs at n e) (token_of cs at (n + count e) (expression.select i e) (token.select i (marked cs at n e))) h
  made ts cs at n (expression.split d e) h = last_is_found ts (tokens cs at n e) (token_of cs at (n + count e) (expression.split d e) (token.split d (marked cs at n e))) h
  made ts cs at n (expression.choice c x y) h =
      let t : Token = token_of cs at (n + (count x + count y)) (expression.choice c x y) (token.choice (target cs c) (marked cs at n x) (marked cs at (n + count x) y)) in
      last_of_two ts (tokens cs at n x) (tokens cs at (n + count x) y) t h
  made ts cs at n (expression.find_in_map m x y) h =
      let t : Token = token_of cs at (n + (count x + count y)) (expression.find_in_map m x y) (token.find_in_map (target cs m) (marked cs at n x) (marked cs at (n + count x) y)) in
      last_of_two ts (tokens cs at n x) (tokens cs at (n + count x) y) t h
  made ts cs at n (expression.import_value t) h = h.0
  made ts cs at n (expression.context k d) h = tt
  made ts cs at n (expression.lazy t) h = h.0

  all_made : (ts : List Token) (cs : List Placed) (at n : ℕ) (es : Expressions) → AreFound ts (all_tokens cs at n es) → AllMade ts cs at n es
  all_made ts cs at n expression.no_expressions h = tt
  all_made ts cs at n (expression.expression e es) h =
      let parts = AreFound-apart ts (tokens cs at n e) (all_tokens cs at (n + count e) es) h in (made ts cs at n e (parts.0), all_made ts cs at (n + count e) es (parts.1))

  fields_made : (ts : List Token) (cs : List Placed) (at n : ℕ) (fs : Fields) → AreFound ts (fields_tokens cs at n fs) → FieldsMade ts cs at n fs
  fields_made ts cs at n expression.no_fields h = tt
  fields_made ts cs at n (expression.field k e fs) h =
      let parts = AreFound-apart ts (tokens cs at n e) (fields_tokens cs at (n + count e) fs) h in (made ts cs at n e (parts.0), fields_made ts cs at (n + count e) fs (parts.1))
