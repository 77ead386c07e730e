-- What an expression is, and with its arguments marked, what its own token is and which number it has.
use Rattle.std.proofs.Common.{◌≡◌, ℕ, ℤ, Bool, List, [], ◌∷◌, ◌++◌, ◌+◌, length, Box, Global, Option, option_map, Result, Ok, Err, refl, ap, sym, subst, ◌∙◌, rules, arith}
use Rattle.std.specs.Prelude.{IfOk, OnOk}
use Rattle.std.proofs.lemmas.List.{append-nil}
use Rattle.std.proofs.lemmas.Result.{IfOk-equal, IfOk-weaker}
use Rattle.serde_json.specs.Data.{Data}
use Rattle.serde_json.specs.View as json
use Rattle.serde_json.specs.declared.value.Value.{Value}
use Rattle.cdk_base.specs.declared.text.Text.{Text}
use Rattle.cdk_language.specs.Expression as expression
use Rattle.cdk_language.specs.Expression.{Expression, expressions_view, fields_view, view}
use Rattle.cdk_language.specs.declared.expression.Expr.{Expr, Whole, Truth, Pseudo, Ref, GetAtt, Concat, Join, Select, Split, If, FindInMap, ImportValue, Context, Lazy, the_lemmas}
use Rattle.cdk_language.specs.declared.expression.Expr.TheVariants as exprs
use Rattle.cdk_language.specs.declared.expression.Field.{Field}
use Rattle.cdk_language.specs.declared.expression.Pseudo as pseudos
use Rattle.cdk_tree.specs.Placed.{Placed}
use Rattle.cdk_tokens.specs.Marking.{count, marked, spelled, target, token_of, tokens}
use Rattle.cdk_tokens.specs.Token as token
use Rattle.cdk_tokens.specs.Token.{Token, Form}
use Rattle.cdk_tokens.proofs.CountLemmas.{length_after, tokens_then}

-- With the tokens old before and new now, only the expression's own token is still to come.
abbrev pub IsTokenNext : List Placed → ℕ → List Token → List Token → Expression → Form → Type 0
IsTokenNext cs at old new e f =
    (spelled cs at (length new) e ≡ marked cs at (length old) e)
    × (new ++ token_of cs at (length new) e f ∷ [] ≡ old ++ tokens cs at (length old) e)

pub view-Text : (s : Text) → view (exprs.Text s) ≡ expression.text s
view-Text s = search (rules, the_lemmas)

pub view-Whole : (z : ℤ) → view (Whole z) ≡ expression.whole z
view-Whole z = search (rules, the_lemmas)

pub view-Truth : (b : Bool) → view (Truth b) ≡ expression.truth b
view-Truth b = search (rules, the_lemmas)

pub view-List : (xs : List Expr) → view (exprs.List xs) ≡ expression.list (expressions_view xs)
view-List xs = search (rules, the_lemmas)

pub view-Object : (fs : List Field) → view (exprs.Object fs) ≡ expression.object (fields_view fs)
view-Object fs = search (rules, the_lemmas)

pub view-Concat : (xs : List Expr) → view (Concat xs) ≡ expression.concat (expressions_view xs)
view-Concat xs = search (rules, the_lemmas)

pub view-Context : (k : Text) (d : Option Value) → view (Context k d) ≡ expression.context k (option_map json.view d)
view-Context k d = search (rules, the_lemmas)

pub view-Ref : (t : Text) → view (Ref t) ≡ expression.ref t
view-Ref t = search (rules, the_lemmas)

pub view-Lazy : (t : Text) → view (Lazy t) ≡ expression.lazy t
view-Lazy t = search (rules, the_lemmas)

pub view-Pseudo : (p : pseudos.Pseudo) → view (Pseudo p) ≡ expression.pseudo p
view-Pseudo p = search (rules, the_lemmas)

pub view-Join : (d : Text) (x : Box Expr Global) → view (Join d x) ≡ expression.join d (view x.value)
view-Join d x = search (rules, the_lemmas)

pub view-Select : (n : ℕ) (x : Box Expr Global) → view (Select n x) ≡ expression.select n (view x.value)
view-Select n x = search (rules, the_lemmas)

pub view-Split : (d : Text) (x : Box Expr Global) → view (Split d x) ≡ expression.split d (view x.value)
view-Split d x = search (rules, the_lemmas)

pub view-If : (c : Text) (x y : Box Expr Global) → view (If c x y) ≡ expression.choice c (view x.value) (view y.value)
view-If c x y = search (rules, the_lemmas)

pub view-FindInMap : (m : Text) (x y : Box Expr Global) → view (FindInMap m x y) ≡ expression.find_in_map m (view x.value) (view y.value)
view-FindInMap m x y = search (rules, the_lemmas)

pub view-GetAtt : (t a : Text) → view (GetAtt t a) ≡ expression.get_att t a
view-GetAtt t a = search (rules, the_lemmas)

pub view-ImportValue : (t : Text) → view (ImportValue t) ≡ expression.import_value t
view-ImportValue t = search (rules, the_lemmas)

in_any_case : {V E P : Type 0} (r : Result V E) → P → OnOk r P
in_any_case (Ok v) p = p
in_any_case (Err e) p = tt

module _ (cs : List Placed) (at : ℕ) (old : List Token) where
  -- what is known of an expression's value and tokens is known of what it is
  pub seen_value : {V E : Type 0} (g : V → Data) (r : Result V E) (e e2 : Expression) → e ≡ e2 → IfOk r (λ v. g v ≡ marked cs at (length old) e2) → IfOk r (λ v. g v ≡ marked cs at (length old) e)
  seen_value g r e e2 seen h = subst (λ x. IfOk r (λ v. g v ≡ marked cs at (length old) x)) (sym seen) h

  pub seen_tokens : {V E : Type 0} (r : Result V E) (new : List Token) (e e2 : Expression) → e ≡ e2 → OnOk r (new ≡ old ++ tokens cs at (length old) e2) → OnOk r (new ≡ old ++ tokens cs at (length old) e)
  seen_tokens r new e e2 seen h = subst (λ x. OnOk r (new ≡ old ++ tokens cs at (length old) x)) (sym seen) h

  -- an expression with no tokens
  pub no_tokens : {V E : Type 0} (r : Result V E) (e e2 : Expression) → e ≡ e2 → tokens cs at (length old) e2 ≡ [] → OnOk r (old ≡ old ++ tokens cs at (length old) e)
  no_tokens r e e2 seen none = in_any_case r (sym (append-nil old) ∙ ap (λ ts. old ++ ts) (sym none) ∙ ap (λ x. old ++ tokens cs at (length old) x) (sym seen))

  -- the expression's own token is put last
  pub put_value : {V E : Type 0} (g : V → Data) (r : Result V E) (new : List Token) (e : Expression) (f : Form) → IsTokenNext cs at old new e f → IfOk r (λ v. g v ≡ spelled cs at (length new) e) → IfOk r (λ v. g v ≡ marked cs at (length old) e)
  put_value g r new e f next h = IfOk-weaker r (λ v. g v ≡ spelled cs at (length new) e) (λ v. g v ≡ marked cs at (length old) e) (λ v is. is ∙ next.0) h

  pub put_tokens : {V E : Type 0} (r : Result V E) (new all : List Token) (e : Expression) (f : Form) → IsTokenNext cs at old new e f → OnOk r (all ≡ new ++ token_of cs at (length new) e f ∷ []) → OnOk r (all ≡ old ++ tokens cs at (length old) e)
  put_tokens r new all e f next h = IfOk-equal r all (new ++ token_of cs at (length new) e f ∷ []) (old ++ tokens cs at (length old) e) h next.1

  -- the same of what is the same
  same_next : (new : List Token) (e e2 : Expression) (f f2 : Form) → e ≡ e2 → f ≡ f2 → IsTokenNext cs at old new e2 f2 → IsTokenNext cs at old new e f
  same_next new e e2 f f2 seen same h =
      let P : Expression → Type 0 = λ x. IsTokenNext cs at old new x f in
      let Q : Form → Type 0 = λ g. IsTokenNext cs at old new e2 g in
      subst P (sym seen) (subst Q (sym same) h)

  -- with no argument
  no_argument : (e : Expression) (f : Form) → marked cs at (length old) e ≡ spelled cs at (length old) e → tokens cs at (length old) e ≡ token_of cs at (length old) e f ∷ []
      → IsTokenNext cs at old old e f
  no_argument e f m ts = (sym m, ap (λ xs. old ++ xs) (sym ts))

  -- after one argument
  one_argument : (new : List Token) (x e : Expression) (f : Form) → new ≡ old ++ tokens cs at (length old) x
      → marked cs at (length old) e ≡ spelled cs at (length old + count x) e
      → tokens cs at (length old) e ≡ tokens cs at (length old) x ++ token_of cs at (length old + count x) e f ∷ []
      → IsTokenNext cs at old new e f
  one_argument new x e f more m ts =
      let rest : ℕ → List Token = λ k. token_of cs at k e f ∷ [] in (
        ap (λ k. spelled cs at k e) (length_after cs at x old new more) ∙ sym m,
        sym (tokens_then cs at x old new rest more) ∙ ap (λ xs. old ++ xs) (sym ts),
      )

  -- after two arguments
  two_arguments : (mid new : List Token) (x y e : Expression) (f : Form) → mid ≡ old ++ tokens cs at (length old) x → new ≡ mid ++ tokens cs at (length mid) y
      → marked cs at (length old) e ≡ spelled cs at (length old + (count x + count y)) e
      → tokens cs at (length old) e ≡ tokens cs at (length old) x ++ (tokens cs at (length old + count x) y ++ token_of cs at (length old + (count x + count y)) e f ∷ [])
      → IsTokenNext cs at old new e f
  two_arguments mid new x y e f first second m ts =
      let here : length mid ≡ length old + count x = length_after cs at x old mid first in
      let there : length new ≡ length mid + count y = length_after cs at y mid new second in
      let last : length new ≡ length old + (count x + count y) = omega (arith, here, there) in
      let own : List Token = token_of cs at (length old + (count x + count y)) e f ∷ [] in
      let rest : ℕ → List Token = λ k. tokens cs at k y ++ own in (
        ap (λ k. spelled cs at k e) last ∙ sym m,
        ap (λ k. new ++ token_of cs at k e f ∷ []) last ∙ sym (tokens_then cs at y mid new (λ k. own) second) ∙ sym (tokens_then cs at x old mid rest first)
            ∙ ap (λ xs. old ++ xs) (sym ts),
      )

  pub next-pseudo : (e : Expression) (p : pseudos.Pseudo) → e ≡ expression.pseudo p → IsTokenNext cs at old old e (token.pseudo p)
  next-pseudo e p seen =
      same_next old e (expression.pseudo p) (token.pseudo p) (token.pseudo p) seen refl (no_argument (expression.pseudo p) (token.pseudo p) refl refl)

  pub next-ref : (e : Expression) (t : List ℕ) (n : ℕ) → e ≡ expression.ref t → n ≡ target cs t → IsTokenNext cs at old old e (token.ref n)
  next-ref e t n seen at_t =
      same_next old e (expression.ref t) (token.ref n) (token.ref (target cs t)) seen (ap token.ref at_t) (no_argument (expression.ref t) (token.ref (target cs t)) refl refl)

  pub next-lazy : (e : Expression) (t : List ℕ) (n : ℕ) → e ≡ expression.lazy t → n ≡ target cs t → IsTokenNext cs at old old e (token.lazy n)
  next-lazy e t n seen at_t =
      same_next old e (expression.lazy t) (token.lazy n) (token.lazy (target cs t)) seen (ap token.lazy at_t) (no_argument (expression.lazy t) (token.lazy (target cs t)) refl refl)

  pub next-get_att : (e : Expression) (t a : List ℕ) → e ≡ expression.get_att t a → IsTokenNext cs at old old e (token.get_att (target cs t) a)
  next-get_att e t a seen =
      same_next old e (expression.get_att t a) (token.get_att (target cs t) a) (token.get_att (target cs t) a) seen refl
      (no_argument (expression.get_att t a) (token.get_att (target cs t) a) refl refl)

  pub next-import_value : (e : Expression) (t : List ℕ) → e ≡ expression.import_value t → IsTokenNext cs at old old e (token.import_value t)
  next-import_value e t seen =
      same_next old e (expression.import_value t) (token.import_value t) (token.import_value t) seen refl
      (no_argument (expression.import_value t) (token.import_value t) refl refl)

  module _ (new : List Token) (e x : Expression) (v : Data) (value : v ≡ marked cs at (length old) x) (more : new ≡ old ++ tokens cs at (length old) x) where
    pub next-join : (d : List ℕ) → e ≡ expression.join d x → IsTokenNext cs at old new e (token.join d v)
    next-join d seen =
        let d_x = marked cs at (length old) x in
        same_next new e (expression.join d x) (token.join d v) (token.join d d_x) seen (ap (λ u. token.join d u) value)
        (one_argument new x (expression.join d x) (token.join d d_x) more refl refl)

    pub next-split : (d : List ℕ) → e ≡ expression.split d x → IsTokenNext cs at old new e (token.split d v)
    next-split d seen =
        let d_x = marked cs at (length old) x in
        same_next new e (expression.split d x) (token.split d v) (token.split d d_x) seen (ap (λ u. token.split d u) value)
        (one_argument new x (expression.split d x) (token.split d d_x) more refl refl)

    pub next-select : (n : ℕ) → e ≡ expression.select n x → IsTokenNext cs at old new e (token.select n v)
    next-select n seen =
        let d_x = marked cs at (length old) x in
        same_next new e (expression.select n x) (token.select n v) (token.select n d_x) seen (ap (λ u. token.select n u) value)
        (one_argument new x (expression.select n x) (token.select n d_x) more refl refl)

  module _ (mid new : List Token) (e x y : Expression) (v w : Data) (n : ℕ) (t : List ℕ) (at_t : n ≡ target cs t) (first_value : v ≡ marked cs at (length old) x) (first : mid ≡ old ++ tokens cs at (length old) x) (second_value : w ≡ marked cs at (length mid) y) (second : new ≡ mid ++ tokens cs at (length mid) y) where
    second_in : w ≡ marked cs at (length old + count x) y
    second_in = second_value ∙ ap (λ k. marked cs at k y) (length_after cs at x old mid first)

    pub next-choice : e ≡ expression.choice t x y → IsTokenNext cs at old new e (token.choice n v w)
    next-choice seen =
        let d_x = marked cs at (length old) x in
        let d_y = marked cs at (length old + count x) y in
        same_next new e (expression.choice t x y) (token.choice n v w) (token.choice (target cs t) d_x d_y) seen
        (ap (λ k. token.choice k v w) at_t ∙ ap (λ u. token.choice (target cs t) u w) first_value ∙ ap (λ u. token.choice (target cs t) d_x u) second_in)
        (two_arguments mid new x y (expression.choice t x y) (token.choice (target cs t) d_x d_y) first second refl refl)

    pub next-find_in_map : e ≡ expression.find_in_map t x y → IsTokenNext cs at old new e (token.find_in_map n v w)
    next-find_in_map seen =
        let d_x = marked cs at (length old) x in
        let d_y = marked cs at (length old + count x) y in
        same_next new e (expression.find_in_map t x y) (token.find_in_map n v w) (token.find_in_map (target cs t) d_x d_y) seen
        (ap (λ k. token.find_in_map k v w) at_t ∙ ap (λ u. token.find_in_map (target cs t) u w) first_value ∙ ap (λ u. token.find_in_map (target cs t) d_x u) second_in)
        (two_arguments mid new x y (expression.find_in_map t x y) (token.find_in_map (target cs t) d_x d_y) first second refl refl)
