-- Merged pieces are spelled as before, no two of their literals stand side by side, and where no run of literals holds the
-- beginning of a marker they have the form of pieces.
use Rattle.std.proofs.Common.{◌≡◌, ℕ, List, [], ◌∷◌, ◌++◌, map, false, refl, sym, ap, ◌∙◌, subst, append_assoc, append-nil}
use Rattle.std.proofs.lemmas.Bool.{or_parts}
use Rattle.cdk_base.specs.Marker.{has_marker}
use Rattle.cdk_language.specs.Runs.{is_marked_run}
use Rattle.cdk_markers.specs.Key.{text_marker}
use Rattle.cdk_markers.specs.Pieces.{Piece, literal, key, joined, ArePieces, begins_with_literal, LiteralsApart}
use Rattle.cdk_expansion.specs.Pieces.{merge_literal, merged, piece_literal, HaveKeys}
use Rattle.cdk_expansion.proofs.CutRuns.{holds_no_marker}

-- one literal after another merges as both in one
pub merge_literal-append : (s t : List ℕ) (ps : List Piece) → merge_literal s (merge_literal t ps) ≡ merge_literal (s ++ t) ps
merge_literal-append [] t ps = refl
merge_literal-append (x ∷ s) [] ps = ap (λ r. merge_literal (x ∷ r) ps) (sym (append-nil s))
merge_literal-append (x ∷ s) (y ∷ t) [] = refl
merge_literal-append (x ∷ s) (y ∷ t) (literal u ∷ ps) = ap (λ r. literal r ∷ ps) (sym (append_assoc (x ∷ s) (y ∷ t) u))
merge_literal-append (x ∷ s) (y ∷ t) (key k ∷ ps) = refl

joined-merge_literal : (s : List ℕ) (ps : List Piece) → joined (merge_literal s ps) ≡ s ++ joined ps
joined-merge_literal [] ps = refl
joined-merge_literal (x ∷ s) [] = refl
joined-merge_literal (x ∷ s) (literal t ∷ ps) = append_assoc (x ∷ s) t (joined ps)
joined-merge_literal (x ∷ s) (key k ∷ ps) = refl

pub joined-merged : (ps : List Piece) → joined (merged ps) ≡ joined ps
joined-merged [] = refl
joined-merged (literal s ∷ ps) = joined-merge_literal s (merged ps) ∙ ap (λ t. s ++ t) (joined-merged ps)
joined-merged (key k ∷ ps) = ap (λ t. text_marker k ++ t) (joined-merged ps)

apart-merge_literal : (s : List ℕ) (ps : List Piece) → LiteralsApart ps → LiteralsApart (merge_literal s ps)
apart-merge_literal [] ps apart = apart
apart-merge_literal (x ∷ s) [] apart = (refl, tt)
apart-merge_literal (x ∷ s) (literal t ∷ ps) apart = apart
apart-merge_literal (x ∷ s) (key k ∷ ps) apart = (refl, apart)

pub apart-merged : (ps : List Piece) → LiteralsApart (merged ps)
apart-merged [] = tt
apart-merged (literal s ∷ ps) = apart-merge_literal s (merged ps) (apart-merged ps)
apart-merged (key k ∷ ps) = apart-merged ps

-- before no other literal
pieces-merge_literal : (s : List ℕ) (ps : List Piece) → has_marker s ≡ false → begins_with_literal ps ≡ false → ArePieces ps → ArePieces (merge_literal s ps)
pieces-merge_literal [] ps free apart right = right
pieces-merge_literal (x ∷ s) [] free apart right = (((λ e. cc e), holds_no_marker (x ∷ s) free), right)
pieces-merge_literal (x ∷ s) (literal t ∷ ps) free apart right = cc apart
pieces-merge_literal (x ∷ s) (key k ∷ ps) free apart right = (((λ e. cc e), holds_no_marker (x ∷ s) free), right)

-- `run` is the run so far
pub pieces-merged : (ps : List Piece) (run : List ℕ) → HaveKeys ps → is_marked_run run (map piece_literal ps) ≡ false → ArePieces (merge_literal run (merged ps))
pieces-merged [] run keys free = pieces-merge_literal run [] free refl tt
pieces-merged (literal s ∷ ps) run keys free = subst ArePieces (sym (merge_literal-append run s (merged ps))) (pieces-merged ps (run ++ s) keys free)
pieces-merged (key k ∷ ps) run keys free =
    let parts = or_parts (has_marker run) (is_marked_run [] (map piece_literal ps)) free in
    pieces-merge_literal run (key k ∷ merged ps) (parts.0) refl (keys.0, pieces-merged ps [] (keys.1) (parts.1))
