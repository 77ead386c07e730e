-- The arguments of a sound application's tokens hold only lower tokens: each marker in them is that of one of the tokens before.
use Rattle.std.proofs.Common.{◌≡◌, ℕ, zero, suc, ◌+◌, List, [], ◌∷◌, ◌++◌, length, false, Some, inl, inr, refl, sym, ap, ◌∙◌, subst, slice_get, append_assoc, append-nil, length-append, arith}
use Rattle.std.specs.Prelude.{Contains, ⊤}
use Rattle.std.specs.Str.{bytes_eq}
use Rattle.serde_json.specs.Data.{Data}
use Rattle.cdk_expansion.proofs.FormMade.{AreFound, AreFound-apart, made, row_is_found}
use Rattle.cdk_expansion.proofs.FormValues.{value_is_fine}
use Rattle.cdk_expansion.proofs.MentionContains.{contains_no, contains_one, first_or_rest}
use Rattle.cdk_expansion.proofs.SoundLaw.{sound_is_right}
use Rattle.cdk_expansion.proofs.TokenKeys.{IsRow}
use Rattle.cdk_expansion.proofs.TokenNumbers.{Numbered}
use Rattle.cdk_expansion.proofs.WholeTokens.{from-numbered, right_from, RightFrom}
use Rattle.cdk_expansion.specs.Laws.{IsSound}
use Rattle.cdk_expansion.specs.Mentions.{arguments}
use Rattle.cdk_expansion.specs.Right.{AreRight, FieldsAreRight, IsRight, ListIsRight, PiecesAreRight}
use Rattle.cdk_language.specs.Expression as expression
use Rattle.cdk_language.specs.Expression.{Expression, Expressions, Fields}
use Rattle.cdk_lazies.proofs.LawFound.{lower_position, token_known}
use Rattle.cdk_lazies.proofs.LawKeys.{value_keys}
use Rattle.cdk_lazies.specs.Laws.{TokensAreDownward}
use Rattle.cdk_tokens.specs.Marking.{all_tokens, count, fields_tokens, marked, target, token_of, tokens}
use Rattle.cdk_tokens.specs.Token as token
use Rattle.cdk_tokens.specs.Token.{find_token, Token}
use Rattle.cdk_tokens.specs.Values.{has_unknown_token}
use Rattle.cdk_contexts.specs.Expressions.{expressions_in}
use Rattle.cdk_tokens.specs.Whole.{count_in, tokens_from, tokens_of, tokens_of_list}
use Rattle.cdk_tree.specs.Placed.{construct_at, Placed}

-- ---- tokens whose arguments know only those before

abbrev IsLower : List Token → Token → Type 0
IsLower before t = (a : Data) → Contains (arguments t.form) a → has_unknown_token before a ≡ false

abbrev AreLower : List Token → List Token → Type 0
AreLower before [] = ⊤
AreLower before (t ∷ ts) = IsLower before t × AreLower (before ++ t ∷ []) ts

AreLower-both : (before ts us : List Token) → AreLower before ts → AreLower (before ++ ts) us → AreLower before (ts ++ us)
AreLower-both before [] us h k = subst (λ (xs : List Token). AreLower xs us) (append-nil before) k
AreLower-both before (t ∷ ts) us h k = (h.0, AreLower-both (before ++ t ∷ []) ts us (h.1) (subst (λ (xs : List Token). AreLower xs us) (sym (append_assoc before (t ∷ []) ts)) k))

-- the beginning of a row is a row
numbered-beginning : (n : ℕ) (before after : List Token) → Numbered n (before ++ after) → Numbered n before
numbered-beginning n [] after h = tt
numbered-beginning n (t ∷ before) after h = (h.0, numbered-beginning (suc n) before after (h.1))

beginning : (before after : List Token) → IsRow (before ++ after) → IsRow before
beginning before after row = record { numbered = numbered-beginning 0 before after row.numbered; few = omega (arith, row.few, length-append before after) }

row_first : (before ts after : List Token) → IsRow (before ++ (ts ++ after)) → IsRow (before ++ ts)
row_first before ts after row = beginning (before ++ ts) after (subst IsRow (sym (append_assoc before ts after)) row)

row_next : (before ts after : List Token) → IsRow (before ++ (ts ++ after)) → IsRow ((before ++ ts) ++ after)
row_next before ts after row = subst IsRow (sym (append_assoc before ts after)) row

-- two rows of tokens, of which each knows those before
both_lower : (before ts us : List Token) → IsRow (before ++ (ts ++ us)) → (IsRow (before ++ ts) → AreLower before ts) → (IsRow ((before ++ ts) ++ us) → AreLower (before ++ ts) us) → AreLower before (ts ++ us)
both_lower before ts us row first second = AreLower-both before ts us (first (row_first before ts us row)) (second (row_next before ts us row))

-- ---- the tokens of expressions

module _ (cs : List Placed) (at : ℕ) where
  -- the marked value of an expression whose tokens are found in a row
  known_value : (all : List Token) (n : ℕ) (e : Expression) → IsRight cs at e → AreFound all (tokens cs at n e) → has_unknown_token all (marked cs at n e) ≡ false
  known_value all n e right found = (value_is_fine all cs at n e right (made all cs at n e found)).0

  lone : (before : List Token) (t : Token) → arguments t.form ≡ [] → AreLower before (t ∷ [])
  lone before t none = ((λ a c. absurd (contains_no a (subst (λ ds. Contains ds a) none c))), tt)

  with_one : (before : List Token) (n : ℕ) (e : Expression) (t : Token) → IsRow (before ++ (tokens cs at n e ++ t ∷ [])) → IsRight cs at e → arguments t.form ≡ marked cs at n e ∷ []
      → (IsRow (before ++ tokens cs at n e) → AreLower before (tokens cs at n e)) → AreLower before (tokens cs at n e ++ t ∷ [])
  with_one before n e t row right is first =
      let all : List Token = before ++ tokens cs at n e in
      let own : IsRow all = row_first before (tokens cs at n e) (t ∷ []) row in
      let found = AreFound-apart all before (tokens cs at n e) (row_is_found all own) in
      let P : Data → Type 0 = λ d. has_unknown_token all d ≡ false in
      let last : IsLower all t = λ a c. subst P (sym (contains_one (marked cs at n e) a (subst (λ ds. Contains ds a) is c))) (known_value all n e right (found.1)) in
      AreLower-both before (tokens cs at n e) (t ∷ []) (first own) (last, tt)

  with_two : (before : List Token) (n m : ℕ) (x y : Expression) (t : Token) → IsRow (before ++ (tokens cs at n x ++ (tokens cs at m y ++ t ∷ []))) → IsRight cs at x → IsRight cs at y
      → arguments t.form ≡ marked cs at n x ∷ marked cs at m y ∷ [] → (IsRow (before ++ tokens cs at n x) → AreLower before (tokens cs at n x))
      → (IsRow ((before ++ tokens cs at n x) ++ tokens cs at m y) → AreLower (before ++ tokens cs at n x) (tokens cs at m y)) → AreLower before (tokens cs at n x ++ (tokens cs at m y ++ t ∷ []))
  with_two before n m x y t row right_x right_y is first second =
      let ts : List Token = tokens cs at n x in
      let us : List Token = tokens cs at m y in
      let all : List Token = (before ++ ts) ++ us in
      let own : IsRow all = row_first (before ++ ts) us (t ∷ []) (row_next before ts (us ++ t ∷ []) row) in
      let found = AreFound-apart all (before ++ ts) us (row_is_found all own) in
      let found_x = AreFound-apart all before ts (found.0) in
      let P : Data → Type 0 = λ d. has_unknown_token all d ≡ false in
      let known_x : P (marked cs at n x) = known_value all n x right_x (found_x.1) in
      let known_y : P (marked cs at m y) = known_value all m y right_y (found.1) in
      let last : IsLower all t = λ a c. elim (first_or_rest (marked cs at n x) (marked cs at m y ∷ []) a (subst (λ ds. Contains ds a) is c)) [
        | inl same ↦ subst P (sym same) known_x
        | inr more ↦ subst P (sym (contains_one (marked cs at m y) a more)) known_y
      ] in
      AreLower-both before ts (us ++ t ∷ []) (first (row_first before ts (us ++ t ∷ []) row)) (AreLower-both (before ++ ts) us (t ∷ []) (second own) (last, tt))

  mutual
    lower : (before : List Token) (n : ℕ) (e : Expression) → IsRight cs at e → IsRow (before ++ tokens cs at n e) → AreLower before (tokens cs at n e)
    lower before n (expression.text s) right row = tt
    lower before n (expression.whole z) right row = tt
    lower before n (expression.truth b) right row = tt
    lower before n (expression.list es) right row = all_lower before n es right row
    lower before n (expression.object fs) right row = fields_lower before n fs right row
    lower before n (expression.pseudo p) right row = lone before (token_of cs at n (expression.pseudo p) (token.pseudo p)) refl
    lower before n (expression.ref t) right row = lone before (token_of cs at n (expression.ref t) (token.ref (target cs t))) refl
    lower before n (expression.get_att t a) right row = lone before (token_of cs at n (expression.get_att t a) (token.get_att (target cs t) a)) refl
    lower before n (expression.concat es) right row = pieces_lower before n es (right.0) row
    lower before n (expression.join d e) right row =
        with_one before n e (token_of cs at (n + count e) (expression.join d e) (token.join d (marked cs at n e))) row right refl (lower before n e right)
    lower before n (expression.select i e) right row =
        with_one before n e (token_of cs at (n + count e) (expression.select i e) (token.select i (marked cs at n e))) row right refl (lower before n e right)
    lower before n (expression.split d e) right row =
        with_one before n e (token_of cs at (n + count e) (expression.split d e) (token.split d (marked cs at n e))) row right refl (lower before n e right)
    lower before n (expression.choice c x y) right row =
        let t : Token = token_of cs at (n + (count x + count y)) (expression.choice c x y) (token.choice (target cs c) (marked cs at n x) (marked cs at (n + count x) y)) in
        with_two before n (n + count x) x y t row (right.0) (right.1) refl (lower before n x (right.0)) (lower (before ++ tokens cs at n x) (n + count x) y (right.1))
    lower before n (expression.find_in_map m x y) right row =
        let t : Token = token_of cs at (n + (count x + count y)) (expression.find_in_map m x y) (token.find_in_map (target cs m) (marked cs at n x) (marked cs at (n + count x) y)) in
        with_two before n (n + count x) x y t row (right.0) (right.1) refl (lower before n x (right.0)) (lower (before ++ tokens cs at n x) (n + count x) y (right.1))
    lower before n (expression.import_value t) right row = lone before (token_of cs at n (expression.import_value t) (token.import_value t)) refl
    lower before n (expression.context k d) right row = tt
    lower before n (expression.lazy t) right row = lone before (token_of cs at n (expression.lazy t) (token.lazy (target cs t))) refl

    all_lower : (before : List Token) (n : ℕ) (es : Expressions) → AreRight cs at es → IsRow (before ++ all_tokens cs at n es) → AreLower before (all_tokens cs at n es)
    all_lower before n expression.no_expressions right row = tt
    all_lower before n (expression.expression e es) right row =
        both_lower before (tokens cs at n e) (all_tokens cs at (n + count e) es) row (lower before n e (right.0)) (all_lower (before ++ tokens cs at n e) (n + count e) es (right.1))

    pieces_lower : (before : List Token) (n : ℕ) (es : Expressions) → PiecesAreRight cs at es → IsRow (before ++ all_tokens cs at n es) → AreLower before (all_tokens cs at n es)
    pieces_lower before n expression.no_expressions right row = tt
    pieces_lower before n (expression.expression e es) right row =
        both_lower before (tokens cs at n e) (all_tokens cs at (n + count e) es) row (lower before n e (right.3)) (pieces_lower (before ++ tokens cs at n e) (n + count e) es (right.4))

    fields_lower : (before : List Token) (n : ℕ) (fs : Fields) → FieldsAreRight cs at fs → IsRow (before ++ fields_tokens cs at n fs) → AreLower before (fields_tokens cs at n fs)
    fields_lower before n expression.no_fields right row = tt
    fields_lower before n (expression.field k e fs) right row =
        both_lower before (tokens cs at n e) (fields_tokens cs at (n + count e) fs) row (lower before n e (right.0)) (fields_lower (before ++ tokens cs at n e) (n + count e) fs (right.1))

-- ---- the tokens of constructs

module _ (cs : List Placed) where
  list_lower : (before : List Token) (at n : ℕ) (es : List Expression) → ListIsRight cs at es → IsRow (before ++ tokens_of_list cs at n es) → AreLower before (tokens_of_list cs at n es)
  list_lower before at n [] right row = tt
  list_lower before at n (e ∷ es) right row =
      both_lower before (tokens cs at n e) (tokens_of_list cs at (n + count e) es) row (lower cs at before n e (right.0)) (list_lower (before ++ tokens cs at n e) at (n + count e) es (right.1))

  from_lower : (before : List Token) (at n : ℕ) (rest : List Placed) → RightFrom cs at rest → IsRow (before ++ tokens_from cs at n rest) → AreLower before (tokens_from cs at n rest)
  from_lower before at n [] right row = tt
  from_lower before at n (c ∷ rest) right row =
      let here : List Token = tokens_of_list cs at n (expressions_in c.body) in
      both_lower before here (tokens_from cs (at + 1) (n + count_in c.body) rest) row (list_lower before at n (expressions_in c.body) (right.0)) (from_lower (before ++ here) (at + 1) (n + count_in c.body) rest (right.1))

  whole_lower : IsSound cs → AreLower [] (tokens_of cs)
  whole_lower sound =
      let right : RightFrom cs 0 cs = right_from cs 0 cs (λ i j e within.
      let P : ℕ → Type 0 = λ k. ListIsRight cs k (expressions_in (construct_at cs i).body) in
      let same : i ≡ j = omega (arith, e) in subst P same (sound_is_right cs sound i within)) in
      from_lower [] 0 0 cs right (record { numbered = from-numbered cs 0 0 cs; few = sound.few })

-- ---- numbers

-- the token of the number, with those before it
record Lies (all : List Token) (n : ℕ) (t : Token) : Type 0 where
  before : List Token
  after : List Token
  whole : all ≡ before ++ after
  place : length before ≡ n
  lower : IsLower before t

lies : (all before rest : List Token) (i n : ℕ) (t : Token) → all ≡ before ++ rest → length before + i ≡ n → AreLower before rest → slice_get rest i ≡ Some t → Lies all n t
lies all before [] i n t e place h at = absurd (cc at)
lies all before (u ∷ rest) zero n t e place h at =
    let same : u ≡ t = cc at in
    record { before = before; after = u ∷ rest; whole = e; place = omega (arith, place); lower = subst (IsLower before) same (h.0) }
lies all before (u ∷ rest) (suc i) n t e place h at =
    lies all (before ++ u ∷ []) rest i n t (e ∙ sym (append_assoc before (u ∷ []) rest)) (omega (arith, place, length-append before (u ∷ []))) (h.1) at

pub tokens_are_downward : TokensAreDownward
tokens_are_downward cs sound n m t d k at among stands finds =
    let l = lies (tokens_of cs) [] (tokens_of cs) n n t refl (omega arith) (whole_lower cs sound) at in
    let known = value_keys l.before d k (l.lower d among) stands in
    let first = token_known l.before k (known.0) (known.1) in
    let low = lower_position (λ u. bytes_eq k u.key) l.before l.after (first.0) m (first.1).finds (ap (λ ts. find_token ts k) (sym l.whole) ∙ finds) in
    omega (arith, low, l.place)
