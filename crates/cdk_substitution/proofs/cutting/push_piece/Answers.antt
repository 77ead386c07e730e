use Rattle.std.proofs.Common.{◌≡◌, ap, ◌∙◌}
use Rattle.cdk_members.specs.SubView.{piece_view}
use Rattle.cdk_substitution.specs.Steps.{before}
use Rattle.cdk_substitution.proofs.Pieces.{pushed_piece, on_ok}
use Rattle.cdk_substitution.proofs.cutting.push_piece.Goals as goal

pub returns : goal.returns
returns c =
    let vs = c.args.variables.now in
    let found = c.args.found.now in
    let pushed = c.push_literal.new.found in
    let e = c.in_ok-expression.expression in
    let p = piece_view c.args.piece in
    on_ok c.push.result (λ h. λ rest. ap (λ es. before es rest) h ∙ pushed_piece vs found pushed c.args.literal.now p e c.in_ok-push_literal.ensures c.in_ok-expression.ensures rest) c.push.ensures.ok
