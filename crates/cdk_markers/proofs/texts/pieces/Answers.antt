use Rattle.std.proofs.Common.{sym, subst, List}
use Rattle.cdk_markers.specs.Pieces.{Piece, IsCut}
use Rattle.cdk_markers.proofs.CutLaws.{cuts_exist}
use Rattle.cdk_markers.proofs.texts.pieces.Goals as goal

pub returns-clause-cut : goal.returns-clause-cut
returns-clause-cut c =
    let P : List Piece → Type 0 = λ ps. IsCut c.args.text.now ps in
    subst P (sym c.of.ensures) (cuts_exist c.args.text.now)
