-- The text of a list marker holds no text marker: none of its characters is a `$`.
use Rattle.std.proofs.Common.{◌≡◌, ℕ, zero, suc, ◌-◌, ◌==◌, ◌&&◌, Bool, List, [], ◌∷◌, length, take, drop, get_or, true, false, not, inl, inr, codes, nat_eq, Option, Some, None, is_some, refl, sym, ap, ◌∙◌, if◌then◌else◌}
use Rattle.std.specs.List.{list_all, starts_with, ends_with}
use Rattle.std.proofs.lemmas.Bool.{and_parts, and_from, true≢false, cases_eq, ne_eqb}
use Rattle.std.proofs.lemmas.Bool.Decides.{Decides-eqb}
use Rattle.std.proofs.lemmas.List.Folds.{list_all-append}
use Rattle.std.proofs.lemmas.Slice.Eq.{starts_is, ends_is}
use Rattle.cdk_markers.specs.Cut.{cut_after, cut_of, first_key, literal_before, marker_rest, piece_before}
use Rattle.cdk_markers.specs.Key.{is_key_byte, is_key}
use Rattle.cdk_markers.specs.ListKey.{key_closed, list_text_key}
use Rattle.cdk_markers.specs.Pieces.{Piece, literal, key}
use Rattle.cdk_markers.proofs.FirstKey.{first_key-some}
use Rattle.cdk_expansion.specs.Mentions.{piece_keys}

abbrev is_no_dollar : ℕ → Bool
is_no_dollar x = not (x == 36)

no_dollar : (x : ℕ) → is_key_byte x ≡ true → is_no_dollar x ≡ true
no_dollar x h = elim (cases_eq x 36) [
  | inl e ↦ absurd (true≢false (sym h ∙ ap is_key_byte e))
  | inr n ↦ ap not (ne_eqb x 36 n)
]

no_dollars : (s : List ℕ) → list_all is_key_byte s ≡ true → list_all is_no_dollar s ≡ true
no_dollars [] h = refl
no_dollars (x ∷ xs) h = let parts = and_parts (is_key_byte x) (list_all is_key_byte xs) h in and_from (is_no_dollar x) (list_all is_no_dollar xs) (no_dollar x parts.0) (no_dollars xs parts.1)

some_if : {A : Type 0} (b : Bool) (o : Option A) (x : A) → (if b then o else None) ≡ Some x → (b ≡ true) × (o ≡ Some x)
some_if true o x e = (refl, e)
some_if false o x e = absurd (true≢false (sym (ap is_some e)))

closed_has_none : (s k : List ℕ) → key_closed s ≡ Some k → list_all is_no_dollar s ≡ true
closed_has_none s k e =
    let f : List ℕ = take (length s - 2) s in
    let test = some_if (ends_with nat_eq s (codes "]}") && is_key f) (Some f) k e in
    let both = and_parts (ends_with nat_eq s (codes "]}")) (is_key f) test.0 in
    let all : list_all is_no_dollar f ≡ true = no_dollars f ((and_parts (list_all is_key_byte f) _ both.1).0) in
    ap (list_all is_no_dollar) ((ends_is Decides-eqb s (codes "]}") _ refl).0 both.0) ∙ (list_all-append is_no_dollar f (codes "]}") ∙ and_from _ _ all refl)

marker_has_none : (s k : List ℕ) → list_text_key s ≡ Some k → list_all is_no_dollar s ≡ true
marker_has_none s k e =
    let test = some_if (starts_with nat_eq s (codes "#{Token[")) (key_closed (drop 8 s)) k e in
    ap (list_all is_no_dollar) ((starts_is Decides-eqb s (codes "#{Token[") _ refl).0 test.0) ∙ closed_has_none (drop 8 s) k test.1

none_first : (x : ℕ) (xs : List ℕ) (o : Option (List ℕ)) → is_no_dollar x ≡ true → first_key (x ∷ xs) ≡ o → o ≡ None
none_first x xs None free e = refl
none_first x xs (Some k) free e =
    let dollar : x ≡ 36 = ap (λ s. get_or s 0 0) ((first_key-some (x ∷ xs) k e).spelled) in
    absurd (true≢false (sym free ∙ ap is_no_dollar dollar))

literal_before_keys : (x : ℕ) (ps : List Piece) → piece_keys (literal_before x ps) ≡ piece_keys ps
literal_before_keys x [] = refl
literal_before_keys x (literal l ∷ ps) = refl
literal_before_keys x (key k ∷ ps) = refl

cut_has_none : (s : List ℕ) (n : ℕ) → list_all is_no_dollar s ≡ true → piece_keys (cut_after s n) ≡ []
cut_has_none [] n free = refl
cut_has_none (x ∷ xs) zero free =
    let parts = and_parts (is_no_dollar x) (list_all is_no_dollar xs) free in
    ap (λ o. piece_keys (piece_before o x (cut_after xs (marker_rest o)))) (none_first x xs (first_key (x ∷ xs)) parts.0 refl)
    ∙ (literal_before_keys x (cut_after xs 0) ∙ cut_has_none xs 0 parts.1)
cut_has_none (x ∷ xs) (suc n) free = cut_has_none xs n ((and_parts (is_no_dollar x) (list_all is_no_dollar xs) free).1)

pub list_marker_has_no_keys : (s k : List ℕ) → list_text_key s ≡ Some k → piece_keys (cut_of s) ≡ []
list_marker_has_no_keys s k e = cut_has_none s 0 (marker_has_none s k e)
