-- What a field of an object stands for.
use Rattle.std.proofs.Common.{◌≡◌, rules}
use Rattle.cdk_language.specs.Expression.{field_view, view}
use Rattle.cdk_language.specs.declared.expression.Field.{Field, the_lemmas}

pub seen_field : (f : Field) → field_view f ≡ (f.key, view f.value)
seen_field f = search (rules, the_lemmas)
