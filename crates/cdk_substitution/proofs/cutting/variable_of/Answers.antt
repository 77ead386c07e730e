use Rattle.std.proofs.Common.{Bor, Option, ap}
use Rattle.std.specs.Option.{unwrap_or, option_map}
use Rattle.cdk_language.specs.Application.{ref_of}
use Rattle.cdk_language.specs.Expression.{view}
use Rattle.cdk_language.specs.declared.expression.Expr.{Expr}
use Rattle.cdk_substitution.proofs.Pieces.{told}
use Rattle.cdk_substitution.proofs.cutting.variable_of.Goals as goal

pub returns-in-Some : goal.returns-in-Some
returns-in-Some c = told c.copy_of.result _ _ c.copy_of.ensures (ap (λ (o : Option (Bor Expr)). unwrap_or (option_map (λ e. view e.now) o) (ref_of c.args.name.now)) c.in-Some.ensures)

pub returns-in-None : goal.returns-in-None
returns-in-None c = told c.reference_of.result _ _ c.reference_of.ensures (ap (λ (o : Option (Bor Expr)). unwrap_or (option_map (λ e. view e.now) o) (ref_of c.args.name.now)) c.in-None.ensures)
