-- The text of pieces is cut into them again, and so are a text in which no marker begins and the marker of one key.
use Rattle.std.proofs.Common.{◌≡◌, ℕ, List, [], ◌∷◌, false, IsTrue, sym, ap, ◌∙◌, append-nil}
use Rattle.cdk_base.specs.Marker.{has_marker}
use Rattle.cdk_markers.specs.Cut.{cut_of}
use Rattle.cdk_markers.specs.Key.{is_key, text_marker}
use Rattle.cdk_markers.specs.Pieces.{literal, key, joined}
use Rattle.cdk_markers.proofs.CutLaws.{cut_of-IsCut}
use Rattle.cdk_markers.proofs.CutSteps.{cut-marker}
use Rattle.cdk_expansion.specs.Pieces.{merged, PiecesAreCutAgain}
use Rattle.cdk_expansion.proofs.CutMerged.{joined-merged, apart-merged, pieces-merged}

pub pieces_are_cut_again : PiecesAreCutAgain
pieces_are_cut_again ps keys free =
    cut_of-IsCut (joined ps) (merged ps) (record { spelled = joined-merged ps; right = pieces-merged ps [] keys free; apart = apart-merged ps })

pub unmarked_is_cut : (s : List ℕ) → has_marker s ≡ false → cut_of s ≡ merged (literal s ∷ [])
unmarked_is_cut s free = ap cut_of (sym (append-nil s)) ∙ pieces_are_cut_again (literal s ∷ []) tt free

pub one_key_is_cut : (k : List ℕ) → IsTrue (is_key k) → cut_of (text_marker k) ≡ key k ∷ []
one_key_is_cut k right = ap cut_of (sym (append-nil (text_marker k))) ∙ cut-marker k [] right
