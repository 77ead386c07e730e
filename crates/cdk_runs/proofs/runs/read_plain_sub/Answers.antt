use Rattle.std.proofs.Common.{[], sym, subst, ◌∙◌}
use Rattle.cdk_language.specs.Runs.{sub_literals}
use Rattle.cdk_members.specs.SubView.{piece_view}
use Rattle.cdk_language.proofs.Pieces.{after-shorter, after-text}
use Rattle.cdk_runs.specs.Reads.{Reads}
use Rattle.cdk_runs.proofs.SubRuns.{uncut, next_cut, next_same, last_same}
use Rattle.cdk_runs.proofs.runs.read_plain_sub.Goals as goal

pub returns-then-is_wrong_sub_text : goal.returns-then-is_wrong_sub_text
returns-then-is_wrong_sub_text c = subst (λ o. Reads c.args.matched (sub_literals [] o) c.read_other.result) (sym (uncut c.args.text.now (sym c.if-is_wrong_sub_text.ensures))) c.read_other.ensures

pub returns-in-Literal : goal.returns-in-Literal
returns-in-Literal c =
    let l = c.loop-before in
    record { bound = c.read_text.ensures.bound; same = λ more. l.invariant.same more ∙ last_same l.matched c.read_text.result l.rest.now [] more (sym c.in-Literal.ensures) c.read_text.ensures }

pub loop-before-smaller : goal.loop-before-smaller
loop-before-smaller c = after-shorter c.loop-before.rest.now c.in-Piece.before.now (piece_view c.in-Piece.piece) c.in-Piece.after.now (sym c.in-Piece.ensures)

pub loop-before-preserved : goal.loop-before-preserved
loop-before-preserved c =
    let l = c.loop-before in
    let p = piece_view c.in-Piece.piece in
    let first = sym c.in-Piece.ensures in
    let m = c.read_text-in-Piece.result in
    let k = c.read_plain_piece-matched.result in
    record {
      bound = c.read_plain_piece-matched.ensures.bound;
      cut = next_cut l.rest.now c.in-Piece.before.now c.in-Piece.after.now p first l.invariant.cut;
      same = λ more. l.invariant.same more ∙ next_same l.matched m k l.rest.now c.in-Piece.before.now c.in-Piece.after.now p [] more first l.invariant.cut c.read_text-in-Piece.ensures c.read_plain_piece-matched.ensures;
      text = after-text l.rest.now c.in-Piece.before.now p c.in-Piece.after.now l.invariant.text first;
    }
