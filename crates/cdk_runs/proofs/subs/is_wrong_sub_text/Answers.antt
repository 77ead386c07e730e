use Rattle.std.proofs.Common.{◌≡◌, ℕ, ◌||◌, List, [], ◌∷◌, false, Option, Some, None, option_map, refl, sym, ap, ◌∙◌}
use Rattle.std.specs.List.{list_any}
use Rattle.cdk_language.specs.Sub.{Piece, literal_before, pieces_of}
use Rattle.cdk_language.specs.Schema.{are_wrong_pieces, is_barred_piece}
use Rattle.cdk_members.specs.SubView.{piece_view}
use Rattle.cdk_language.specs.declared.schema.Within.{Within}
use Rattle.cdk_language.specs.declared.schema.Within.TheVariants as within
use Rattle.cdk_language.proofs.Pieces.{pieces-step, after-shorter, after-text}
use Rattle.cdk_runs.proofs.subs.is_wrong_sub_text.Goals as goal

before_text : (w : Within) (b : List ℕ) (ps : List Piece) → list_any (is_barred_piece w) (literal_before b ps) ≡ list_any (is_barred_piece w) ps
before_text within.Construct [] ps = refl
before_text within.Condition [] ps = refl
before_text within.Construct (x ∷ xs) ps = refl
before_text within.Condition (x ∷ xs) ps = refl

next_piece : (w : Within) (b : List ℕ) (p : Piece) (o : Option (List Piece)) → is_barred_piece w p ≡ false → are_wrong_pieces w (option_map (λ ps. literal_before b (p ∷ ps)) o) ≡ are_wrong_pieces w o
next_piece w b p None e = refl
next_piece w b p (Some ps) e = before_text w b (p ∷ ps) ∙ ap (λ x. x || list_any (is_barred_piece w) ps) e

pub loop-piece-smaller : goal.loop-piece-smaller
loop-piece-smaller c = after-shorter c.loop-piece.rest.now c.in-Piece.before.now (piece_view c.in-Piece.piece) c.in-Piece.after.now (sym c.in-Piece.ensures)

pub loop-piece-preserved : goal.loop-piece-preserved
loop-piece-preserved c =
    let w = c.args.within in
    let p = piece_view c.in-Piece.piece in (
      c.loop-piece.invariant.0 ∙ ap (are_wrong_pieces w) (pieces-step c.loop-piece.rest.now c.in-Piece.before.now p c.in-Piece.after.now (sym c.in-Piece.ensures))
          ∙ next_piece w c.in-Piece.before.now p (pieces_of c.in-Piece.after.now) (sym c.if-is_barred_piece.ensures),
      after-text c.loop-piece.rest.now c.in-Piece.before.now p c.in-Piece.after.now c.loop-piece.invariant.1 (sym c.in-Piece.ensures),
    )
