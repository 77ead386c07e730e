-- The arguments of forms: an array that begins with a text, and the expressions behind that.
use Rattle.std.specs.Prelude.{ℕ, List, Option, option_map, option_and_then}
use Rattle.serde_json.specs.Data.{Data}
use Rattle.cdk_language.specs.Application.{expression_of}
use Rattle.cdk_language.specs.Expression.{Expression}
use Rattle.cdk_members.specs.Arrays.{text_then, text_then_two}

-- both, where both are there
abbrev pub both : {X Y : Type 0} → Option X → Option Y → Option (X × Y)
both a b = option_and_then (λ x. option_map (λ y. (x, y)) b) a

abbrev pub text_then_expression : Data → Option (List ℕ × Expression)
text_then_expression d = option_and_then (λ p. option_map (λ e. (p.0, e)) (expression_of p.1)) (text_then d)

abbrev pub text_then_two_expressions : Data → Option (List ℕ × (Expression × Expression))
text_then_two_expressions d = option_and_then (λ p. option_map (λ e. (p.0, e)) (both (expression_of p.1.0) (expression_of p.1.1))) (text_then_two d)
