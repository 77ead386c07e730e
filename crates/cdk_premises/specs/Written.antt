-- Expressions as they are written (own).
use Rattle.std.specs.Prelude.{⊤}
use Rattle.cdk_language.specs.Expression as expression
use Rattle.cdk_language.specs.Expression.{Expression}

-- an object that is no form
abbrev pub IsObject : Expression → Type 0
IsObject (expression.object fs) = ⊤
IsObject e = ⊥
