-- Pieces that are merged and assembled have the plain form of their parts merged and assembled.
use Rattle.std.proofs.Common.{◌≡◌, ℕ, List, [], ◌∷◌, map, refl, sym, ap, ap₂, ◌∙◌, unwrap_or}
use Rattle.cdk_markers.specs.Key.{text_marker}
use Rattle.cdk_markers.specs.Pieces.{Piece, literal, key}
use Rattle.cdk_plain.specs.Plain as plain
use Rattle.cdk_plain.specs.Plain.{Plain, text}
use Rattle.cdk_expansion.specs.Expanded as expanded
use Rattle.cdk_expansion.specs.Expanded.{Known, piece_plain, pieces_plain}
use Rattle.cdk_expansion.specs.Own as own
use Rattle.cdk_expansion.specs.Own.{Part, part_plain, parts_plain}
use Rattle.cdk_expansion.specs.Pieces as pieces

-- the part that a piece stands for
abbrev pub part_of : Known → Piece → Part
part_of known (literal s) = own.literal s
part_of known (key k) = own.other (unwrap_or (known k) (text (text_marker k)))

part_plain-part_of : (known : Known) (p : Piece) → part_plain (part_of known p) ≡ piece_plain known p
part_plain-part_of known (literal s) = refl
part_plain-part_of known (key k) = refl

parts_plain-map : (known : Known) (ps : List Piece) → parts_plain (map (part_of known) ps) ≡ pieces_plain known ps
parts_plain-map known [] = refl
parts_plain-map known (p ∷ ps) = ap₂ plain.plain (part_plain-part_of known p) (parts_plain-map known ps)

assembled-map : (known : Known) (ps : List Piece) → own.assembled (map (part_of known) ps) ≡ expanded.assembled known ps
assembled-map known [] = refl
assembled-map known (p ∷ []) = part_plain-part_of known p
assembled-map known (p ∷ q ∷ ps) = ap plain.concat (parts_plain-map known (p ∷ q ∷ ps))

merge_literal-map : (known : Known) (s : List ℕ) (ps : List Piece) → own.merge_literal s (map (part_of known) ps) ≡ map (part_of known) (pieces.merge_literal s ps)
merge_literal-map known [] ps = refl
merge_literal-map known (x ∷ s) [] = refl
merge_literal-map known (x ∷ s) (literal t ∷ ps) = refl
merge_literal-map known (x ∷ s) (key k ∷ ps) = refl

merged-map : (known : Known) (ps : List Piece) → own.merged (map (part_of known) ps) ≡ map (part_of known) (pieces.merged ps)
merged-map known [] = refl
merged-map known (literal s ∷ ps) = ap (own.merge_literal s) (merged-map known ps) ∙ merge_literal-map known s (pieces.merged ps)
merged-map known (key k ∷ ps) = ap (λ qs. part_of known (key k) ∷ qs) (merged-map known ps)

pub assembled-merged : (known : Known) (ps : List Piece) → expanded.assembled known (pieces.merged ps) ≡ own.assembled (own.merged (map (part_of known) ps))
assembled-merged known ps = sym (ap own.assembled (merged-map known ps) ∙ assembled-map known (pieces.merged ps))
