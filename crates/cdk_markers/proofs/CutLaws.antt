-- Each text has one cut: the one that is computed.
use Rattle.std.proofs.Common.{◌≡◌, ◌≢◌, ℕ, zero, suc, ◌+◌, List, [], ◌∷◌, ◌++◌, length, take, drop, false, codes, Option, Some, None, is_some, refl, sym, ap, ap₂, ◌∙◌, append_assoc}
use Rattle.std.proofs.lemmas.Bool.{true≢false}
use Rattle.std.proofs.Math.Seq.{take-append_seam, drop-append_seam}
use Rattle.cdk_markers.specs.Key.{text_marker}
use Rattle.cdk_markers.specs.Pieces.{Piece, literal, key, joined, HoldsNoMarker, ArePieces, begins_with_literal, LiteralsApart, IsCut, CutsAreUnique}
use Rattle.cdk_markers.specs.Cut.{first_key, marker_rest, literal_before, piece_before, cut_after, cut_of, literal_len, CutsExist}
use Rattle.cdk_markers.proofs.FirstKey.{BeginsWith, first_key-marker, first_key-some}
use Rattle.cdk_markers.proofs.CutSteps.{past_marker, cut-marker, cut-literal, literal_len-none, literal_len-some}
use Rattle.cdk_markers.proofs.Overlap.{BeginsDollar, no_start}

-- Existence

some_is_none : {A : Type 0} (o : Option A) (x : A) → o ≡ Some x → o ≡ None → ⊥
some_is_none o x e f = true≢false (ap is_some (sym e ∙ f))

none_in_empty : HoldsNoMarker []
none_in_empty [] k b right e = cc e
none_in_empty (y ∷ a) k b right e = cc e

none_in_more : (x : ℕ) (l r : List ℕ) → first_key (x ∷ (l ++ r)) ≡ None → HoldsNoMarker l → HoldsNoMarker (x ∷ l)
none_in_more x l r none inner [] k b right e =
    let shape : x ∷ (l ++ r) ≡ text_marker k ++ (b ++ r) = ap (λ s. s ++ r) e ∙ append_assoc (text_marker k) b r in
    some_is_none (first_key (x ∷ (l ++ r))) k (ap first_key shape ∙ first_key-marker k (b ++ r) right) none
none_in_more x l r none inner (y ∷ a) k b right e = inner a k b right (ap (drop 1) e)

cut_before : (x : ℕ) (xs : List ℕ) (ps : List Piece) → first_key (x ∷ xs) ≡ None → IsCut xs ps → IsCut (x ∷ xs) (literal_before x ps)
cut_before x xs [] none c =
    record { spelled = ap (λ s. x ∷ s) c.spelled; right = ((λ e. cc e, none_in_more x [] xs none none_in_empty), tt); apart = (refl, tt) }
cut_before x xs (literal l ∷ ps) none c =
    let whole : first_key (x ∷ (l ++ joined ps)) ≡ None = ap (λ s. first_key (x ∷ s)) c.spelled ∙ none in
    record { spelled = ap (λ s. x ∷ s) c.spelled; right = ((λ e. cc e, none_in_more x l (joined ps) whole ((c.right.0).1)), c.right.1); apart = c.apart }
cut_before x xs (key k ∷ ps) none c =
    record { spelled = ap (λ s. x ∷ s) c.spelled; right = ((λ e. cc e, none_in_more x [] xs none none_in_empty), c.right); apart = (refl, c.apart) }

cut_key : (x : ℕ) (xs k : List ℕ) (ps : List Piece) → BeginsWith (x ∷ xs) k → IsCut (drop (length k + 9) xs) ps → IsCut (x ∷ xs) (key k ∷ ps)
cut_key x xs k ps b c =
    let after : drop (length k + 9) xs ≡ b.rest = ap (λ s. drop (length k + 9) (drop 1 s)) b.spelled ∙ past_marker k b.rest in
    record { spelled = ap (λ s. text_marker k ++ s) (c.spelled ∙ after) ∙ sym b.spelled; right = (b.right, c.right); apart = c.apart }

cut_first : (x : ℕ) (xs : List ℕ) (o : Option (List ℕ)) (ps : List Piece) → first_key (x ∷ xs) ≡ o → IsCut (drop (marker_rest o) xs) ps → IsCut (x ∷ xs) (piece_before o x ps)
cut_first x xs None ps e c = cut_before x xs ps e c
cut_first x xs (Some k) ps e c = cut_key x xs k ps (first_key-some (x ∷ xs) k e) c

no_pieces : IsCut [] []
no_pieces = record { spelled = refl; right = tt; apart = tt }

cut_of_rest : (xs : List ℕ) (n : ℕ) → IsCut (drop n xs) (cut_after xs n)
cut_of_rest [] zero = no_pieces
cut_of_rest [] (suc n) = no_pieces
cut_of_rest (x ∷ xs) zero = cut_first x xs (first_key (x ∷ xs)) (cut_after xs (marker_rest (first_key (x ∷ xs)))) refl (cut_of_rest xs (marker_rest (first_key (x ∷ xs))))
cut_of_rest (x ∷ xs) (suc n) = cut_of_rest xs n

pub cuts_exist : CutsExist
cuts_exist text = cut_of_rest text 0

-- Uniqueness

-- no marker starts in a literal: up to its end the text is literal
literal_len-whole : (l r : List ℕ) → HoldsNoMarker l → BeginsDollar r → literal_len r ≡ 0 → literal_len (l ++ r) ≡ length l
literal_len-whole [] r none begins zero_after = zero_after
literal_len-whole (x ∷ l) r none begins zero_after =
    let inner : HoldsNoMarker l = λ a k b right e. none (x ∷ a) k b right (ap (λ s. x ∷ s) e) in
    literal_len-none x (l ++ r) (no_start x l r none begins) ∙ ap suc (literal_len-whole l r inner begins zero_after)

abbrev Bound : List Piece → Type 0
Bound ps = BeginsDollar (joined ps) × (literal_len (joined ps) ≡ 0)

bound : (ps : List Piece) → ArePieces ps → begins_with_literal ps ≡ false → Bound ps
bound [] right apart = (tt, refl)
bound (literal l ∷ ps) right apart = absurd (true≢false apart)
bound (key k ∷ ps) right apart = (refl, literal_len-some 36 (codes "{Token[" ++ (k ++ codes "]}") ++ joined ps) k (first_key-marker k (joined ps) (right.0)))

cut-literal_whole : (l r : List ℕ) → l ≢ [] → HoldsNoMarker l → BeginsDollar r → literal_len r ≡ 0 → cut_of (l ++ r) ≡ literal l ∷ cut_of r
cut-literal_whole [] r full none begins zero_after = absurd (full refl)
cut-literal_whole (x ∷ l) r full none begins zero_after =
    let n : literal_len ((x ∷ l) ++ r) ≡ length (x ∷ l) = literal_len-whole (x ∷ l) r none begins zero_after in
    let s : List ℕ = (x ∷ l) ++ r in
    cut-literal x (l ++ r) (no_start x l r none begins) ∙ (ap (λ i. literal (take i s) ∷ cut_of (drop i s)) n ∙ ap₂ (λ t u. literal t ∷ cut_of u) (take-append_seam (x ∷ l) r) (drop-append_seam (x ∷ l) r))

cut-joined : (ps : List Piece) → ArePieces ps → LiteralsApart ps → cut_of (joined ps) ≡ ps
cut-joined [] right apart = refl
cut-joined (literal l ∷ ps) right apart =
    let b : Bound ps = bound ps (right.1) (apart.0) in
    cut-literal_whole l (joined ps) ((right.0).0) ((right.0).1) (b.0) (b.1) ∙ ap (λ qs. literal l ∷ qs) (cut-joined ps (right.1) (apart.1))
cut-joined (key k ∷ ps) right apart = cut-marker k (joined ps) (right.0) ∙ ap (λ qs. key k ∷ qs) (cut-joined ps (right.1) apart)

-- a cut is the one that is computed
pub cut_of-IsCut : (text : List ℕ) (ps : List Piece) → IsCut text ps → cut_of text ≡ ps
cut_of-IsCut text ps c = ap cut_of (sym c.spelled) ∙ cut-joined ps c.right c.apart

pub cuts_are_unique : CutsAreUnique
cuts_are_unique text ps qs c d = sym (cut_of-IsCut text ps c) ∙ cut_of-IsCut text qs d
