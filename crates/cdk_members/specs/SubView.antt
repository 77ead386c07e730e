-- The pieces that the code's pieces of a Sub's text stand for.
use Rattle.std.specs.Prelude.{◌++◌, codes}
use Rattle.cdk_language.specs.Sub as sub
use Rattle.cdk_members.specs.declared.sub.FirstPiece.{FirstPiece}
use Rattle.cdk_members.specs.declared.sub.FirstPiece.TheVariants as firsts
use Rattle.cdk_members.specs.declared.sub.SubPiece.{SubPiece}
use Rattle.cdk_members.specs.declared.sub.SubPiece.TheVariants as pieces

abbrev pub piece_view : SubPiece → sub.Piece
piece_view (pieces.Kept x) = sub.literal (codes "${" ++ (x.now ++ codes "}"))
piece_view (pieces.Name x) = sub.name x.now
piece_view (pieces.Attribute x a) = sub.attribute x.now a.now

abbrev pub first_view : FirstPiece → sub.FirstPiece
first_view firsts.Literal = sub.no_piece
first_view firsts.Wrong = sub.wrong_piece
first_view (firsts.Piece before piece after) = sub.first_piece before.now (piece_view piece) after.now
