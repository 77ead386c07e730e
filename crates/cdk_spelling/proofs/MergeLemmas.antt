-- Merging from the left gives what merging from the right is defined to give.
use Rattle.std.proofs.Common.{◌≡◌, ◌==◌, ℕ, true, false, List, length, Result, Ok, Err, OnOk, is_ok, if◌then◌else◌, [], ◌∷◌, ◌++◌, Some, None, refl, sym, ap, ◌∙◌, append_assoc, arith}
use Rattle.std.proofs.lemmas.Bool.Decides.{nat_tests}
use Rattle.std.proofs.lemmas.List.{append-nil}
use Rattle.serde_json.specs.Data.{Data, null, boolean, number, string, array, object, Items, no_items, item}
use Rattle.serde_json.specs.View.{view, items_view}
use Rattle.serde_json.specs.declared.value.Value.{Value}
use Rattle.cdk_base.specs.Json.{text_of}
use Rattle.cdk_plain.specs.Rendered.{and_items, glued, merged, merged_onto}
use Rattle.cdk_spelling.specs.Merging.{continued}

pub and_items-assoc : (xs ys zs : Items) → and_items (and_items xs ys) zs ≡ and_items xs (and_items ys zs)
and_items-assoc no_items ys zs = refl
and_items-assoc (item d xs) ys zs = ap (item d) (and_items-assoc xs ys zs)

pub and_items-none : (xs : Items) → and_items xs no_items ≡ xs
and_items-none no_items = refl
and_items-none (item d xs) = ap (item d) (and_items-none xs)

pub items_view-push : (vs : List Value) (v : Value) → items_view (vs ++ v ∷ []) ≡ and_items (items_view vs) (item (view v) no_items)
items_view-push [] v = refl
items_view-push (w ∷ vs) v = ap (item (view w)) (items_view-push vs v)

-- ---- texts that meet

glued-glued : (s t : List ℕ) (ds : Items) → glued s (glued t ds) ≡ glued (s ++ t) ds
glued-glued s t no_items = refl
glued-glued s t (item null ds) = refl
glued-glued s t (item (boolean b) ds) = refl
glued-glued s t (item (number n) ds) = refl
glued-glued s t (item (string u) ds) = ap (λ v. item (string v) ds) (sym (append_assoc s t u))
glued-glued s t (item (array es) ds) = refl
glued-glued s t (item (object ms) ds) = refl

texts_meet : (s t : List ℕ) (d e f : Data) (ds : Items) → merged_onto (Some s) d (merged_onto (Some t) e ds) ≡ merged_onto (Some (s ++ t)) f ds
texts_meet [] [] d e f ds = refl
texts_meet [] (c ∷ t) d e f ds = refl
texts_meet (c ∷ s) [] d e f ds = ap (λ v. glued (c ∷ v) ds) (sym (append-nil s))
texts_meet (c ∷ s) (k ∷ t) d e f ds = glued-glued (c ∷ s) (k ∷ t) ds

-- the open text with a literal's text behind it
literal_added : (done : Items) (s t new : List ℕ) (d : Data) → text_of d ≡ Some t → new ≡ s ++ t → (more : Items) → continued done new more ≡ continued done s (item d more)
literal_added done s t new d is grown more =
    let ds = merged more in
    ap (λ u. and_items done (merged_onto (Some u) (string u) ds)) grown
    ∙ ap (and_items done) (sym (texts_meet s t (string s) d (string (s ++ t)) ds))
    ∙ ap (λ o. and_items done (merged_onto (Some s) (string s) (merged_onto o d ds))) (sym is)

pub literal_pushed : {X E : Type 0} (r : Result X E) (done : Items) (s t new : List ℕ) (d : Data) → text_of d ≡ Some t → new ≡ (if is_ok r then s ++ t else s)
    → OnOk r ((more : Items) → continued done new more ≡ continued done s (item d more))
literal_pushed (Ok x) done s t new d is grown = literal_added done s t new d is grown
literal_pushed (Err e) done s t new d is grown = tt

-- ---- a value that is no literal

closes : (s : List ℕ) (d e : Data) (ds : Items) → text_of e ≡ None → merged_onto (Some s) d (item e ds) ≡ and_items (merged_onto (Some s) d no_items) (item e ds)
closes [] d e ds h = refl
closes (c ∷ s) d null ds h = refl
closes (c ∷ s) d (boolean b) ds h = refl
closes (c ∷ s) d (number n) ds h = refl
closes (c ∷ s) d (string u) ds h = cc
closes (c ∷ s) d (array es) ds h = refl
closes (c ∷ s) d (object ms) ds h = refl

-- the open text goes behind what is done, and then the value; the text is empty again
pub value_added : (done closed all : Items) (s new : List ℕ) (e : Data) → text_of e ≡ None → closed ≡ continued done s no_items
    → all ≡ and_items closed (item e no_items) → new ≡ [] → (more : Items) → continued all new more ≡ continued done s (item e more)
value_added done closed all s new e none is pushed empty more =
    let ds = merged more in
    let before = merged_onto (Some s) (string s) no_items in
    ap (λ u. and_items all (merged_onto (Some u) (string u) ds)) empty
    ∙ ap (λ xs. and_items xs ds) pushed
    ∙ and_items-assoc closed (item e no_items) ds
    ∙ ap (λ xs. and_items xs (item e ds)) is
    ∙ and_items-assoc done before (item e ds)
    ∙ ap (and_items done) (sym (closes s (string s) e ds none))
    ∙ ap (λ o. and_items done (merged_onto (Some s) (string s) (merged_onto o e ds))) (sym none)

-- ---- the text that is put behind the items

pub no_text_pushed : (done : Items) (t : List ℕ) → t ≡ [] → done ≡ continued done t no_items
no_text_pushed done t empty = sym (and_items-none done) ∙ ap (λ u. continued done u no_items) (sym empty)

pub text_pushed : (vs : List Value) (v : Value) (t : List ℕ) → view v ≡ string t → (t ≡ [] → ⊥) → items_view (vs ++ v ∷ []) ≡ continued (items_view vs) t no_items
text_pushed vs v [] is some = absurd (some refl)
text_pushed vs v (c ∷ t) is some = items_view-push vs v ∙ ap (λ d. and_items (items_view vs) (item d no_items)) is

-- ---- what calls answer

pub on_ok : {X E P Q : Type 0} (r : Result X E) → (P → Q) → OnOk r P → OnOk r Q
on_ok (Ok x) f h = f h
on_ok (Err e) f h = tt

is_zero : (n : ℕ) → (n == 0) ≡ true → n ≡ 0
is_zero n h = grind (arith, nat_tests)

pub is_nothing : (s : List ℕ) → (length s == 0) ≡ true → s ≡ []
is_nothing [] h = refl
is_nothing (c ∷ s) h = absurd (omega (arith, is_zero (length (c ∷ s)) h))

pub is_something : (s : List ℕ) → (length s == 0) ≡ false → s ≡ [] → ⊥
is_something [] h e = cc
is_something (c ∷ s) h e = cc
