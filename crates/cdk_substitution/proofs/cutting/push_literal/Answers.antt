use Rattle.std.proofs.Common.{◌≡◌, length, ap, sym, ◌∙◌}
use Rattle.cdk_language.specs.Expression as expression
use Rattle.cdk_language.specs.Expression.{view}
use Rattle.cdk_language.specs.declared.expression.Expr.{Text}
use Rattle.cdk_substitution.specs.Steps.{before}
use Rattle.cdk_substitution.proofs.Pieces.{pushed_literal, on_ok}
use Rattle.cdk_substitution.proofs.Seen.{view-Text, not_none}
use Rattle.cdk_substitution.proofs.cutting.push_literal.Goals as goal

pub returns : goal.returns
returns c =
    let s = c.args.literal.now in
    let e = Text c.in_ok-new.field-0 in
    let is : view e ≡ expression.text s = view-Text c.in_ok-new.field-0 ∙ ap expression.text c.in_ok-new.ensures in
    on_ok c.push.result (λ h. λ rest. ap (λ es. before es rest) h ∙ pushed_literal c.args.found.now e s (not_none (length s) (sym c.if-is_empty.ensures)) is rest) c.push.ensures.ok
