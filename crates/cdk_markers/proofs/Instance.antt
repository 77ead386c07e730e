-- A text with a marker: its cut is shown by hand, is its only one, and is the one that is computed.
use Rattle.std.proofs.Common.{◌≡◌, ℕ, List, [], ◌∷◌, get_or, codes, refl, sym, ap, true≢false, arith}
use Rattle.cdk_markers.specs.Cut.{cut_of}
use Rattle.cdk_markers.specs.Pieces.{Piece, literal, key, HoldsNoMarker, IsCut}
use Rattle.cdk_markers.proofs.CutLaws.{cuts_exist, cuts_are_unique}

abbrev text : List ℕ
text = codes "${Token[Ref.0]}:x"

abbrev cut : List Piece
cut = key (codes "Ref.0") ∷ literal (codes ":x") ∷ []

no_marker : HoldsNoMarker (codes ":x")
no_marker [] k b right e = absurd (omega (arith, ap (λ s. get_or s 0 0) e))
no_marker (y ∷ []) k b right e = absurd (omega (arith, ap (λ s. get_or s 1 0) e))
no_marker (y ∷ z ∷ []) k b right e = absurd (omega (arith, ap (λ s. get_or s 2 0) e))
no_marker (y ∷ z ∷ w ∷ a) k b right e = cc e

is_cut : IsCut text cut
is_cut = record { spelled = refl; right = (refl, (((λ e. cc e), no_marker), tt)); apart = (refl, tt) }

only : (ps : List Piece) → IsCut text ps → ps ≡ cut
only ps c = cuts_are_unique text ps cut c is_cut

computed : cut_of text ≡ cut
computed = only (cut_of text) (cuts_exist text)

-- a marker is no literal
marker_inside : IsCut (codes "${Token[Ref.0]}") (literal (codes "${Token[Ref.0]}") ∷ []) → ⊥
marker_inside c = (c.right.0).1 [] (codes "Ref.0") [] refl refl

-- what has no number is no key
no_number : IsCut (codes "${Token[X.]}") (key (codes "X.") ∷ []) → ⊥
no_number c = true≢false (sym c.right.0)

side_by_side : IsCut (codes "ab") (literal (codes "a") ∷ literal (codes "b") ∷ []) → ⊥
side_by_side c = true≢false c.apart.0

empty : IsCut (codes "a") (literal (codes "a") ∷ literal [] ∷ []) → ⊥
empty c = ((c.right.1).0).0 refl
