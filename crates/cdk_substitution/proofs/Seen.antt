-- What expressions are seen as, one level at a time.
use Rattle.std.proofs.Common.{◌≡◌, ℕ, zero, suc, ◌<◌, ◌==◌, List, false, rules, arith}
use Rattle.cdk_base.specs.declared.text.Text.{Text as BaseText}
use Rattle.cdk_language.specs.Expression as expression
use Rattle.cdk_language.specs.Expression.{view, expressions_view, field_view}
use Rattle.cdk_language.specs.declared.expression.Expr.{Expr, Text, Concat, the_lemmas}
use Rattle.cdk_language.specs.declared.expression.Field.{Field, the_lemmas as field_lemmas}

pub view-Text : (t : BaseText) → view (Text t) ≡ expression.text t
view-Text t = search (rules, the_lemmas)

pub view-Concat : (es : List Expr) → view (Concat es) ≡ expression.concat (expressions_view es)
view-Concat es = search (rules, the_lemmas)

pub seen_field : (f : Field) → field_view f ≡ (f.key, view f.value)
seen_field f = search (rules, field_lemmas)

pub not_none : (n : ℕ) → (n == 0) ≡ false → 0 < n
not_none zero h = cc
not_none (suc n) h = omega arith
