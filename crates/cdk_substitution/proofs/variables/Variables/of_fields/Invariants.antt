use Rattle.std.proofs.Common.{drop}
use Rattle.cdk_language.specs.Expression.{fields_view}
use Rattle.cdk_substitution.specs.Steps.{Have}
use Rattle.cdk_substitution.proofs.variables.Variables.of_fields.Given as goal

abbrev pub invariant-loop-number : goal.invariant-loop-number
invariant-loop-number l = Have (record { expressions = l.expressions }) (fields_view (drop l.number l.fields))
