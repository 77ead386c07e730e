-- The plain forms of an expression's tokens are its own, where the tokens before it are done.
use Rattle.std.proofs.Common.{◌≡◌, ℕ, ◌+◌, ◌<◌, ◌^◌, List, [], ◌∷◌, ◌++◌, length, refl, sym, ap, ap₂, ◌∙◌, subst, append_assoc, arith}
use Rattle.std.proofs.lemmas.List.{append-nil, length-append}
use Rattle.cdk_language.specs.Expression as expression
use Rattle.cdk_language.specs.Expression.{Expression, Expressions, Fields}
use Rattle.cdk_plain.specs.Plain as plain
use Rattle.cdk_plain.specs.Plain.{Plain}
use Rattle.cdk_tree.specs.Placed.{Placed}
use Rattle.cdk_tokens.specs.Marking.{all_tokens, count, count_all, count_fields, fields_tokens, marked, target, token_of, tokens}
use Rattle.cdk_tokens.specs.Token as token
use Rattle.cdk_tokens.specs.Token.{Form, Token}
use Rattle.cdk_expansion.specs.Expanded.{Known, form_plain, forms_after, known_by, value_plain}
use Rattle.cdk_expansion.specs.Knows.{Knows, all_own_tokens, fields_own_tokens, own_tokens}
use Rattle.cdk_expansion.specs.Own.{own}
use Rattle.cdk_expansion.specs.Right.{AreRight, FieldsAreRight, IsRight, PiecesAreRight}
use Rattle.cdk_expansion.proofs.TokenKeys.{IsRow}
use Rattle.cdk_expansion.proofs.TokenKnows.{Agree, Agree-apart, Agree-rows, agreed, same_length}

-- that a marked value has its own plain form, at numbers below 2^64
abbrev pub FewAreOwn : Type 0
FewAreOwn = (known : Known) (lazies : ℕ → Plain) (cs : List Placed) (at n : ℕ) (e : Expression)
    → n + count e < 2 ^ 64 → IsRight cs at e → Knows known lazies cs at n e → value_plain known (marked cs at n e) ≡ own lazies cs at e

-- the row `all` goes on with ts at the plain forms that are done, and qs are theirs
abbrev pub Fills : (ℕ → Plain) → List Token → List Token → List Plain → Type 0
Fills lazies all ts qs = (before after : List Token) (done : List Plain) → all ≡ before ++ (ts ++ after) → length before ≡ length done
    → forms_after lazies all done (ts ++ after) ≡ forms_after lazies all (done ++ qs) after

pub Fills-none : (lazies : ℕ → Plain) (all : List Token) → Fills lazies all [] []
Fills-none lazies all before after done e l = ap (λ ps. forms_after lazies all ps after) (sym (append-nil done))

pub Fills-both : (lazies : ℕ → Plain) (all ts us : List Token) (qs rs : List Plain) → length ts ≡ length qs → Fills lazies all ts qs → Fills lazies all us rs → Fills lazies all (ts ++ us) (qs ++ rs)
Fills-both lazies all ts us qs rs m first second before after done e l =
    let whole : all ≡ before ++ (ts ++ (us ++ after)) = e ∙ ap (λ xs. before ++ xs) (append_assoc ts us after) in
    let later : all ≡ (before ++ ts) ++ (us ++ after) = whole ∙ sym (append_assoc before ts (us ++ after)) in
    let longer : length (before ++ ts) ≡ length (done ++ qs) = omega (arith, length-append before ts, length-append done qs, l, m) in
    ap (forms_after lazies all done) (append_assoc ts us after) ∙ first before (us ++ after) done whole l ∙ second (before ++ ts) after (done ++ qs) later longer ∙ ap (λ ps. forms_after lazies all ps after) (append_assoc done qs rs)

-- tokens, and one whose form they tell
pub Fills-then : (lazies : ℕ → Plain) (all ts : List Token) (t : Token) (qs : List Plain) (p : Plain) → IsRow all → length ts ≡ length qs → Fills lazies all ts qs
    → ((known : Known) → Agree known ts qs → form_plain known lazies t.form ≡ p) → Fills lazies all (ts ++ t ∷ []) (qs ++ p ∷ [])
Fills-then lazies all ts t qs p row m first told before after done e l =
    let whole : all ≡ before ++ (ts ++ t ∷ after) = e ∙ ap (λ xs. before ++ xs) (append_assoc ts (t ∷ []) after) in
    let known : Known = known_by all (done ++ qs) in
    let agree : Agree known ts qs = Agree-rows all before ts (t ∷ after) (done ++ qs) done qs [] row whole (ap (λ ps. done ++ ps) (sym (append-nil qs))) l m in
    ap (forms_after lazies all done) (append_assoc ts (t ∷ []) after)
    ∙ first before (t ∷ after) done whole l
    ∙ ap (λ q. forms_after lazies all ((done ++ qs) ++ q ∷ []) after) (told known agree)
    ∙ ap (λ ps. forms_after lazies all ps after) (append_assoc done qs (p ∷ []))

pub Fills-lone : (lazies : ℕ → Plain) (all : List Token) (t : Token) (p : Plain) → IsRow all → ((known : Known) → form_plain known lazies t.form ≡ p) → Fills lazies all (t ∷ []) (p ∷ [])
Fills-lone lazies all t p row told = Fills-then lazies all [] t [] p row refl (Fills-none lazies all) (λ known agree. told known)

-- two rows of tokens, and one whose form they tell
pub Fills-two : (lazies : ℕ → Plain) (all ts us : List Token) (t : Token) (qs rs : List Plain) (p : Plain) → IsRow all → length ts ≡ length qs → length us ≡ length rs
    → Fills lazies all ts qs → Fills lazies all us rs
    → ((known : Known) → Agree known ts qs → Agree known us rs → form_plain known lazies t.form ≡ p) → Fills lazies all (ts ++ (us ++ t ∷ [])) (qs ++ (rs ++ p ∷ []))
Fills-two lazies all ts us t qs rs p row l m first second told =
    let both : length (ts ++ us) ≡ length (qs ++ rs) = omega (arith, length-append ts us, length-append qs rs, l, m) in
    let form : (known : Known) → Agree known (ts ++ us) (qs ++ rs) → form_plain known lazies t.form ≡ p = λ known agree. let parts = Agree-apart known ts us qs rs l agree in told known (parts.0) (parts.1) in
    let all_three : Fills lazies all ((ts ++ us) ++ t ∷ []) ((qs ++ rs) ++ p ∷ []) = Fills-then lazies all (ts ++ us) t (qs ++ rs) p row both (Fills-both lazies all ts us qs rs l first second) form in
    let P : List Token → Type 0 = λ xs. Fills lazies all xs (qs ++ (rs ++ p ∷ [])) in
    let Q : List Plain → Type 0 = λ ps. Fills lazies all ((ts ++ us) ++ t ∷ []) ps in
    subst P (append_assoc ts us (t ∷ [])) (subst Q (append_assoc qs rs (p ∷ [])) all_three)

-- ---- by the expression

module _ (same : FewAreOwn) (lazies : ℕ → Plain) (cs : List Placed) (all : List Token) (row : IsRow all) (at : ℕ) where
  -- an argument, once its tokens are done
  told : (known : Known) (n : ℕ) (e : Expression) → n + count e < 2 ^ 64 → IsRight cs at e → Agree known (tokens cs at n e) (own_tokens lazies cs at e) → value_plain known (marked cs at n e) ≡ own lazies cs at e
  told known n e few right agree = same known lazies cs at n e few right (agreed known lazies cs at n e agree)

  lone : (n : ℕ) (e : Expression) (f : Form) → ((known : Known) → form_plain known lazies f ≡ own lazies cs at e) → Fills lazies all (token_of cs at n e f ∷ []) (own lazies cs at e ∷ [])
  lone n e f is = Fills-lone lazies all (token_of cs at n e f) (own lazies cs at e) row is

  with_one : (n : ℕ) (e outer : Expression) (f : Form) (form : Plain → Plain) → ((known : Known) → form_plain known lazies f ≡ form (value_plain known (marked cs at n e)))
      → own lazies cs at outer ≡ form (own lazies cs at e) → n + count e < 2 ^ 64 → IsRight cs at e → Fills lazies all (tokens cs at n e) (own_tokens lazies cs at e)
      → Fills lazies all (tokens cs at n e ++ token_of cs at (n + count e) outer f ∷ []) (own_tokens lazies cs at e ++ own lazies cs at outer ∷ [])
  with_one n e outer f form is own_is few right h =
      Fills-then lazies all (tokens cs at n e) (token_of cs at (n + count e) outer f) (own_tokens lazies cs at e) (own lazies cs at outer) row (same_length lazies cs at n e) h
      (λ known agree. is known ∙ ap form (told known n e few right agree) ∙ sym own_is)

  with_two : (n : ℕ) (x y outer : Expression) (f : Form) (form : Plain → Plain → Plain)
      → ((known : Known) → form_plain known lazies f ≡ form (value_plain known (marked cs at n x)) (value_plain known (marked cs at (n + count x) y)))
      → own lazies cs at outer ≡ form (own lazies cs at x) (own lazies cs at y) → n + (count x + count y) < 2 ^ 64 → IsRight cs at x → IsRight cs at y
      → Fills lazies all (tokens cs at n x) (own_tokens lazies cs at x) → Fills lazies all (tokens cs at (n + count x) y) (own_tokens lazies cs at y)
      → Fills lazies all (tokens cs at n x ++ (tokens cs at (n + count x) y ++ token_of cs at (n + (count x + count y)) outer f ∷ [])) (own_tokens lazies cs at x ++ (own_tokens lazies cs at y ++ own lazies cs at outer ∷ []))
  with_two n x y outer f form is own_is few right_x right_y h k =
      Fills-two lazies all (tokens cs at n x) (tokens cs at (n + count x) y) (token_of cs at (n + (count x + count y)) outer f) (own_tokens lazies cs at x) (own_tokens lazies cs at y) (own lazies cs at outer) row
      (same_length lazies cs at n x) (same_length lazies cs at (n + count x) y) h k
      (λ known agree_x agree_y. is known ∙ ap₂ form (told known n x (omega arith) right_x agree_x) (told known (n + count x) y (omega arith) right_y agree_y) ∙ sym own_is)

  mutual
    pub filled : (n : ℕ) (e : Expression) → n + count e < 2 ^ 64 → IsRight cs at e → Fills lazies all (tokens cs at n e) (own_tokens lazies cs at e)
    filled n (expression.text s) few right = Fills-none lazies all
    filled n (expression.whole z) few right = Fills-none lazies all
    filled n (expression.truth b) few right = Fills-none lazies all
    filled n (expression.list es) few right = all_filled n es few right
    filled n (expression.object fs) few right = fields_filled n fs few right
    filled n (expression.pseudo p) few right = lone n (expression.pseudo p) (token.pseudo p) (λ known. refl)
    filled n (expression.ref t) few right = lone n (expression.ref t) (token.ref (target cs t)) (λ known. refl)
    filled n (expression.get_att t a) few right = lone n (expression.get_att t a) (token.get_att (target cs t) a) (λ known. refl)
    filled n (expression.concat es) few right = pieces_filled n es few (right.0)
    filled n (expression.join d e) few right = with_one n e (expression.join d e) (token.join d (marked cs at n e)) (plain.join d) (λ known. refl) refl (omega arith) right (filled n e (omega arith) right)
    filled n (expression.select i e) few right = with_one n e (expression.select i e) (token.select i (marked cs at n e)) (plain.select i) (λ known. refl) refl (omega arith) right (filled n e (omega arith) right)
    filled n (expression.split d e) few right = with_one n e (expression.split d e) (token.split d (marked cs at n e)) (plain.split d) (λ known. refl) refl (omega arith) right (filled n e (omega arith) right)
    filled n (expression.choice c x y) few right =
        with_two n x y (expression.choice c x y) (token.choice (target cs c) (marked cs at n x) (marked cs at (n + count x) y)) (plain.choice (target cs c)) (λ known. refl) refl (omega arith) (right.0) (right.1)
        (filled n x (omega arith) (right.0)) (filled (n + count x) y (omega arith) (right.1))
    filled n (expression.find_in_map m x y) few right =
        with_two n x y (expression.find_in_map m x y) (token.find_in_map (target cs m) (marked cs at n x) (marked cs at (n + count x) y)) (plain.find_in_map (target cs m)) (λ known. refl) refl (omega arith) (right.0) (right.1)
        (filled n x (omega arith) (right.0)) (filled (n + count x) y (omega arith) (right.1))
    filled n (expression.import_value t) few right = lone n (expression.import_value t) (token.import_value t) (λ known. refl)
    filled n (expression.context k d) few right = Fills-none lazies all
    filled n (expression.lazy t) few right = lone n (expression.lazy t) (token.lazy (target cs t)) (λ known. refl)

    pub all_filled : (n : ℕ) (es : Expressions) → n + count_all es < 2 ^ 64 → AreRight cs at es → Fills lazies all (all_tokens cs at n es) (all_own_tokens lazies cs at es)
    all_filled n expression.no_expressions few right = Fills-none lazies all
    all_filled n (expression.expression e es) few right =
        Fills-both lazies all (tokens cs at n e) (all_tokens cs at (n + count e) es) (own_tokens lazies cs at e) (all_own_tokens lazies cs at es) (same_length lazies cs at n e)
        (filled n e (omega arith) (right.0)) (all_filled (n + count e) es (omega arith) (right.1))

    pub pieces_filled : (n : ℕ) (es : Expressions) → n + count_all es < 2 ^ 64 → PiecesAreRight cs at es → Fills lazies all (all_tokens cs at n es) (all_own_tokens lazies cs at es)
    pieces_filled n expression.no_expressions few right = Fills-none lazies all
    pieces_filled n (expression.expression e es) few right =
        Fills-both lazies all (tokens cs at n e) (all_tokens cs at (n + count e) es) (own_tokens lazies cs at e) (all_own_tokens lazies cs at es) (same_length lazies cs at n e)
        (filled n e (omega arith) (right.3)) (pieces_filled (n + count e) es (omega arith) (right.4))

    pub fields_filled : (n : ℕ) (fs : Fields) → n + count_fields fs < 2 ^ 64 → FieldsAreRight cs at fs → Fills lazies all (fields_tokens cs at n fs) (fields_own_tokens lazies cs at fs)
    fields_filled n expression.no_fields few right = Fills-none lazies all
    fields_filled n (expression.field k e fs) few right =
        Fills-both lazies all (tokens cs at n e) (fields_tokens cs at (n + count e) fs) (own_tokens lazies cs at e) (fields_own_tokens lazies cs at fs) (same_length lazies cs at n e)
        (filled n e (omega arith) (right.0)) (fields_filled (n + count e) fs (omega arith) (right.1))
