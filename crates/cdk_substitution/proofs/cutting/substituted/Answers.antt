use Rattle.std.proofs.Common.{List, subst}
use Rattle.cdk_language.specs.Expression.{fields_view}
use Rattle.cdk_language.specs.declared.expression.Field.{Field}
use Rattle.cdk_substitution.specs.Steps.{Have}
use Rattle.cdk_substitution.proofs.cutting.substituted.Goals as goal

pub returns : goal.returns
returns c =
    let vs = c.in_ok-variables.variables in
    let have : Have vs (fields_view c.args.fields.now) = subst (λ (fs : List Field). Have vs (fields_view fs)) c.as_slice.ensures c.in_ok-variables.ensures in
    c.filled.ensures (fields_view c.args.fields.now) have
