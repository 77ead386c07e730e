-- The pieces that the code's pieces stand for.
use Rattle.std.specs.Prelude.{List}
use Rattle.cdk_markers.specs.Cut.{cut_of}
use Rattle.cdk_markers.specs.Pieces as cut
use Rattle.cdk_markers.specs.declared.cutting.Piece.{Piece}
use Rattle.cdk_markers.specs.declared.cutting.Piece.TheVariants.{Literal, Key}
use Rattle.cdk_markers.specs.declared.cutting.Pieces.{Pieces}

abbrev pub piece_view : Piece → cut.Piece
piece_view (Literal l) = cut.literal l.now
piece_view (Key k) = cut.key k.now

-- what the iterator still gives
abbrev pub left : Pieces → List cut.Piece
left s = cut_of s.rest.now
