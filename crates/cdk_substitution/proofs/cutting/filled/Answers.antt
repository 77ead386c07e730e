use Rattle.std.proofs.Common.{◌<◌, length, option_map, Some, arith, sym, ap, ◌∙◌, rules}
use Rattle.cdk_language.specs.Sub.{pieces_of}
use Rattle.cdk_members.specs.SubView.{piece_view}
use Rattle.cdk_language.proofs.Pieces.{after-shorter}
use Rattle.cdk_substitution.specs.Steps.{before}
use Rattle.cdk_substitution.proofs.Pieces.{whole_of, none_found, wrong_found, piece_found, all_found, concat_of, no_concat}
use Rattle.cdk_substitution.proofs.Seen.{view-Concat}
use Rattle.cdk_substitution.proofs.cutting.filled.Goals as goal

pub pieces-init : goal.pieces-init
pieces-init c =
    let text = c.args.text.now in
    (search rules, λ fs have. none_found fs (whole_of fs (pieces_of text)) ∙ ap (λ es. option_map (before es) (whole_of fs (pieces_of text))) (sym c.new-found.ensures))

pub returns-in-Literal : goal.returns-in-Literal
returns-in-Literal c = λ fs have.
    let ps = pieces_of c.args.text.now in
    concat_of fs ps _ (all_found fs (whole_of fs ps) c.pieces.found c.push_literal.new.found c.pieces.rest.now (c.pieces.invariant.1 fs have) (sym c.in-Literal.ensures) c.in_ok-push_literal-in-Literal.ensures)
    ∙ ap Some (sym (view-Concat c.push_literal.new.found))

pub returns-in-Wrong : goal.returns-in-Wrong
returns-in-Wrong c = λ fs have.
    let ps = pieces_of c.args.text.now in
    no_concat fs ps (wrong_found fs (whole_of fs ps) c.pieces.found c.pieces.rest.now (c.pieces.invariant.1 fs have) (sym c.in-Wrong.ensures))

pub pieces-smaller : goal.pieces-smaller
pieces-smaller c =
    let less : length c.in-Piece.after.now < length c.pieces.rest.now =
    after-shorter c.pieces.rest.now c.in-Piece.before.now (piece_view c.in-Piece.piece) c.in-Piece.after.now (sym c.in-Piece.ensures) in
    omega arith

pub pieces-preserved : goal.pieces-preserved
pieces-preserved c = (
  search rules,
  λ fs have. piece_found c.args.variables.now fs (whole_of fs (pieces_of c.args.text.now)) c.pieces.found c.push_piece.new.found c.pieces.rest.now c.in-Piece.before.now (piece_view c.in-Piece.piece) c.in-Piece.after.now
      have (c.pieces.invariant.1 fs have) (sym c.in-Piece.ensures) c.in_ok-push_piece-in-Piece.ensures,
)
