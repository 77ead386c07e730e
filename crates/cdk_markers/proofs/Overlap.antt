-- Two whole markers never overlap: a marker's only `$` is its first character.
use Rattle.std.proofs.Common.{◌≡◌, ℕ, ◌==◌, Bool, List, [], ◌∷◌, ◌++◌, drop, get_or, true, not, codes, IsTrue, Option, Some, None, ◌⊎◌, inl, inr, refl, sym, ap, ap₂, ◌∙◌, subst}
use Rattle.std.specs.List.{list_all}
use Rattle.std.proofs.lemmas.Bool.{and_parts, and_from, true≢false, cases_eq, ne_eqb}
use Rattle.std.proofs.lemmas.List.Folds.{list_all-append}
use Rattle.cdk_markers.specs.Key.{is_key_byte, is_key, text_marker}
use Rattle.cdk_markers.specs.Cut.{first_key}
use Rattle.cdk_markers.specs.Pieces.{HoldsNoMarker}
use Rattle.cdk_markers.proofs.FirstKey.{first_key-some}

-- of two texts written in two parts, one first part goes past the other
abbrev Meet : (a b c d : List ℕ) → Type 0
Meet a b c d = ((e : List ℕ) × (a ≡ c ++ e)) ⊎ ((y : ℕ) × (e : List ℕ) × (c ≡ a ++ (y ∷ e)) × (b ≡ (y ∷ e) ++ d))

meet_more : (x z : ℕ) (a b c d : List ℕ) → x ≡ z → Meet a b c d → Meet (x ∷ a) b (z ∷ c) d
meet_more x z a b c d e (inl (r, f)) = inl (r, ap₂ (λ n t. n ∷ t) e f)
meet_more x z a b c d e (inr (y, r, f, g)) = inr (y, r, ap₂ (λ n t. n ∷ t) (sym e) f, g)

meet : (a b c d : List ℕ) → a ++ b ≡ c ++ d → Meet a b c d
meet a b [] d e = inl (a, refl)
meet [] b (z ∷ c) d e = inr (z, c, refl, e)
meet (x ∷ a) b (z ∷ c) d e = meet_more x z a b c d (ap (λ s. get_or s 0 0) e) (meet a b c d (ap (drop 1) e))

abbrev is_no_dollar : ℕ → Bool
is_no_dollar x = not (x == 36)

no_dollar : (x : ℕ) → is_key_byte x ≡ true → is_no_dollar x ≡ true
no_dollar x h = elim (cases_eq x 36) [
  | inl e ↦ absurd (true≢false (sym h ∙ ap is_key_byte e))
  | inr n ↦ ap not (ne_eqb x 36 n)
]

no_dollars : (s : List ℕ) → list_all is_key_byte s ≡ true → list_all is_no_dollar s ≡ true
no_dollars [] h = refl
no_dollars (x ∷ xs) h = let parts = and_parts _ _ h in and_from _ _ (no_dollar x (parts.0)) (no_dollars xs (parts.1))

marker_rest-no_dollars : (k : List ℕ) → IsTrue (is_key k) → list_all is_no_dollar (codes "{Token[" ++ (k ++ codes "]}")) ≡ true
marker_rest-no_dollars k right = list_all-append is_no_dollar k (codes "]}") ∙ and_from _ _ (no_dollars k ((and_parts _ _ right).0)) refl

-- the text is empty or begins with `$`
abbrev pub BeginsDollar : List ℕ → Type 0
BeginsDollar [] = Unit {0}
BeginsDollar (x ∷ xs) = x ≡ 36

straddles : (k l e : List ℕ) (x y : ℕ) → IsTrue (is_key k) → text_marker k ≡ (x ∷ l) ++ (y ∷ e) → y ≡ 36 → ⊥
straddles k l e x y right shape dollar =
    let rest : codes "{Token[" ++ (k ++ codes "]}") ≡ l ++ (y ∷ e) = ap (drop 1) shape in
    let all : list_all is_no_dollar (l ++ (y ∷ e)) ≡ true = ap (list_all is_no_dollar) (sym rest) ∙ marker_rest-no_dollars k right in
    let parts = and_parts (list_all is_no_dollar l) (list_all is_no_dollar (y ∷ e)) (sym (list_all-append is_no_dollar l (y ∷ e)) ∙ all) in
    true≢false (sym ((and_parts (is_no_dollar y) (list_all is_no_dollar e) (parts.1)).0) ∙ ap is_no_dollar dollar)

met : (x : ℕ) (l r k rest : List ℕ) → IsTrue (is_key k) → HoldsNoMarker (x ∷ l) → BeginsDollar r → Meet (x ∷ l) r (text_marker k) rest → ⊥
met x l r k rest right none begins (inl (e, f)) = none [] k e right f
met x l r k rest right none begins (inr (y, e, f, g)) = straddles k l e x y right f (subst BeginsDollar g begins)

starts_not : (x : ℕ) (l r : List ℕ) (o : Option (List ℕ)) → HoldsNoMarker (x ∷ l) → BeginsDollar r → first_key ((x ∷ l) ++ r) ≡ o → o ≡ None
starts_not x l r None none begins e = refl
starts_not x l r (Some k) none begins e =
    let b = first_key-some ((x ∷ l) ++ r) k e in
    absurd (met x l r k b.rest b.right none begins (meet (x ∷ l) r (text_marker k) b.rest b.spelled))

-- no marker starts in a literal, also with what follows it
pub no_start : (x : ℕ) (l r : List ℕ) → HoldsNoMarker (x ∷ l) → BeginsDollar r → first_key ((x ∷ l) ++ r) ≡ None
no_start x l r none begins = starts_not x l r (first_key ((x ∷ l) ++ r)) none begins refl
