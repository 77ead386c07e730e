-- The first piece of a cut, and the cut of the rest.
use Rattle.std.proofs.Common.{◌≡◌, ℕ, zero, suc, ◌+◌, List, [], ◌∷◌, ◌++◌, length, take, drop, codes, IsTrue, Option, Some, None, refl, sym, ap, ◌∙◌, length-append, arith}
use Rattle.std.proofs.Math.Seq.{drop-append_seam}
use Rattle.cdk_markers.specs.Key.{is_key, text_marker}
use Rattle.cdk_markers.specs.Pieces.{Piece, literal, key}
use Rattle.cdk_markers.specs.Cut.{first_key, marker_rest, literal_before, piece_before, cut_after, cut_of, literal_len}
use Rattle.cdk_markers.proofs.FirstKey.{first_key-marker}

pub cut_after-drop : (xs : List ℕ) (n : ℕ) → cut_after xs n ≡ cut_of (drop n xs)
cut_after-drop [] zero = refl
cut_after-drop [] (suc n) = refl
cut_after-drop (x ∷ xs) zero = refl
cut_after-drop (x ∷ xs) (suc n) = cut_after-drop xs n

-- a marker's rest ends where what follows it begins
pub past_marker : (k rest : List ℕ) → drop (length k + 9) (codes "{Token[" ++ (k ++ codes "]}") ++ rest) ≡ rest
past_marker k rest =
    let m : List ℕ = codes "{Token[" ++ (k ++ codes "]}") in
    let n : length m ≡ length k + 9 = omega (arith, length-append k (codes "]}")) in
    ap (λ i. drop i (m ++ rest)) (sym n) ∙ drop-append_seam m rest

cut_with : (x : ℕ) (xs : List ℕ) (o : Option (List ℕ)) → first_key (x ∷ xs) ≡ o → cut_of (x ∷ xs) ≡ piece_before o x (cut_of (drop (marker_rest o) xs))
cut_with x xs o e = ap (λ v. piece_before v x (cut_after xs (marker_rest v))) e ∙ ap (piece_before o x) (cut_after-drop xs (marker_rest o))

-- a marker is cut off as a key
pub cut-marker : (k rest : List ℕ) → IsTrue (is_key k) → cut_of (text_marker k ++ rest) ≡ key k ∷ cut_of rest
cut-marker k rest right =
    cut_with 36 (codes "{Token[" ++ (k ++ codes "]}") ++ rest) (Some k) (first_key-marker k rest right) ∙ ap (λ t. key k ∷ cut_of t) (past_marker k rest)

abbrev first_literal : List ℕ → List Piece
first_literal s = literal (take (literal_len s) s) ∷ cut_of (drop (literal_len s) s)

abbrev literal_more : ℕ → ℕ → List ℕ → List Piece
literal_more x n xs = literal (x ∷ take n xs) ∷ cut_of (drop n xs)

pub literal_len-none : (x : ℕ) (xs : List ℕ) → first_key (x ∷ xs) ≡ None → literal_len (x ∷ xs) ≡ suc (literal_len xs)
literal_len-none x xs e = rw e (omega arith)

pub literal_len-some : (x : ℕ) (xs k : List ℕ) → first_key (x ∷ xs) ≡ Some k → literal_len (x ∷ xs) ≡ 0
literal_len-some x xs k e = rw e refl

cut_more : (x y : ℕ) (ys : List ℕ) (o : Option (List ℕ)) → first_key (y ∷ ys) ≡ o → (first_key (y ∷ ys) ≡ None → cut_of (y ∷ ys) ≡ first_literal (y ∷ ys)) → literal_before x (cut_of (y ∷ ys)) ≡ literal_more x (literal_len (y ∷ ys)) (y ∷ ys)
cut_more x y ys None e more = ap (literal_before x) (more e)
cut_more x y ys (Some k) e more =
    let first : cut_of (y ∷ ys) ≡ key k ∷ cut_of (drop (marker_rest (Some k)) ys) = cut_with y ys (Some k) e in
    ap (literal_before x) first ∙ (ap (λ ps. literal (x ∷ []) ∷ ps) (sym first) ∙ ap (λ n. literal_more x n (y ∷ ys)) (sym (literal_len-some y ys k e)))

cut_literal_from : (x : ℕ) (xs : List ℕ) → first_key (x ∷ xs) ≡ None → literal_before x (cut_of xs) ≡ literal_more x (literal_len xs) xs
cut_literal_from x [] e = refl
cut_literal_from x (y ∷ ys) e =
    cut_more x y ys (first_key (y ∷ ys)) refl (λ f. cut_with y ys None f ∙ cut_literal_from y ys f ∙ ap (λ n. literal (take n (y ∷ ys)) ∷ cut_of (drop n (y ∷ ys))) (sym (literal_len-none y ys f)))

-- where no marker stands first, the text before the first marker is cut off as a literal
pub cut-literal : (x : ℕ) (xs : List ℕ) → first_key (x ∷ xs) ≡ None → cut_of (x ∷ xs) ≡ first_literal (x ∷ xs)
cut-literal x xs e = cut_with x xs None e ∙ cut_literal_from x xs e ∙ ap (λ n. literal (take n (x ∷ xs)) ∷ cut_of (drop n (x ∷ xs))) (sym (literal_len-none x xs e))
