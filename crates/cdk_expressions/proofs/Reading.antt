-- Reading a list of values one after another.
use Rattle.std.proofs.Common.{◌≡◌, ℕ, List, [], ◌∷◌, ◌++◌, Option, Some, None, option_map, option_and_then, refl, ap, ◌∙◌}
use Rattle.cdk_language.specs.Expression as expression
use Rattle.cdk_language.specs.Expression.{Expression, Expressions, no_expressions, Fields, no_fields, field, view, field_view, expressions_view, fields_view, expression_step, field_step}
use Rattle.cdk_language.specs.declared.expression.Expr.{Expr}
use Rattle.cdk_language.specs.declared.expression.Field.{Field, roll-Field, fold-roll-Field}
use Rattle.cdk_substitution.specs.Steps.{before}
use Rattle.cdk_substitution.proofs.Pieces.{before-push, before-none}

one_more : (es : List Expr) (e : Expr) (r : Option Expressions) → option_map (before es) (option_map (expression.expression (view e)) r) ≡ option_map (before (es ++ e ∷ [])) r
one_more es e None = refl
one_more es e (Some rest) = ap Some (before-push es e rest)

pub nothing_before : (r : Option Expressions) → r ≡ option_map (before []) r
nothing_before None = refl
nothing_before (Some rest) = refl

pub all_read : (es : List Expr) (all : Option Expressions) → all ≡ option_map (before es) (Some no_expressions) → all ≡ Some (expressions_view es)
all_read es all e = e ∙ ap Some (before-none es)

-- one more item: where the first of the rest reads as e
pub read_next : (es : List Expr) (e : Expr) (first : Option Expression) (r : Option Expressions) (whole : Option Expressions)
    → whole ≡ option_map (before es) (option_and_then (λ c. option_map (expression.expression c) r) first) → first ≡ Some (view e) → whole ≡ option_map (before (es ++ e ∷ [])) r
read_next es e first r whole was here = was ∙ ap (λ o. option_map (before es) (option_and_then (λ c. option_map (expression.expression c) r) o)) here ∙ one_more es e r

-- ---- fields

abbrev pub fields_before : List Field → Fields → Fields
fields_before [] rest = rest
fields_before (f ∷ fs) rest = field (field_view f).0 (field_view f).1 (fields_before fs rest)

fields_before-no_fields : (fs : List Field) → fields_before fs no_fields ≡ fields_view fs
fields_before-no_fields [] = refl
fields_before-no_fields (f ∷ fs) = ap (field (field_view f).0 (field_view f).1) (fields_before-no_fields fs)

fields_before-push : (fs : List Field) (f : Field) (rest : Fields) → fields_before fs (field (field_view f).0 (field_view f).1 rest) ≡ fields_before (fs ++ f ∷ []) rest
fields_before-push [] f rest = refl
fields_before-push (x ∷ fs) f rest = ap (field (field_view x).0 (field_view x).1) (fields_before-push fs f rest)

one_more_field : (fs : List Field) (f : Field) (r : Option Fields) → option_map (fields_before fs) (option_map (field (field_view f).0 (field_view f).1) r) ≡ option_map (fields_before (fs ++ f ∷ [])) r
one_more_field fs f None = refl
one_more_field fs f (Some rest) = ap Some (fields_before-push fs f rest)

pub no_field_before : (r : Option Fields) → r ≡ option_map (fields_before []) r
no_field_before None = refl
no_field_before (Some rest) = refl

pub all_fields_read : (fs : List Field) (all : Option Fields) → all ≡ option_map (fields_before fs) (Some no_fields) → all ≡ Some (fields_view fs)
all_fields_read fs all e = e ∙ ap Some (fields_before-no_fields fs)

paired : (k : List ℕ) (first : Option Expression) (f : Field) → option_map (λ e. (k, e)) first ≡ Some (field_view f) → (k ≡ (field_view f).0) × (first ≡ Some (field_view f).1)
paired k None f h = absurd (cc)
paired k (Some e) f h = let same : (k, e) ≡ field_view f = cc in (ap (λ p. p.0) same, ap (λ p. Some p.1) same)

pub read_next_field : (fs : List Field) (f : Field) (k : List ℕ) (first : Option Expression) (r : Option Fields) (whole : Option Fields)
    → whole ≡ option_map (fields_before fs) (option_and_then (λ c. option_map (field k c) r) first) → option_map (λ e. (k, e)) first ≡ Some (field_view f) → whole ≡ option_map (fields_before (fs ++ f ∷ [])) r
read_next_field fs f k first r whole was is =
    let pair = paired k first f is in
    was ∙ ap (λ o. option_map (fields_before fs) (option_and_then (λ c. option_map (field k c) r) o)) pair.1
    ∙ ap (λ n. option_map (fields_before fs) (option_map (field n (field_view f).1) r)) pair.0 ∙ one_more_field fs f r

-- the field that the code makes
abbrev pub made : List ℕ → Expr → Field
made k e = roll-Field (record { key = k; value = e })

pub field_view-made : (k : List ℕ) (e : Expr) → field_view (made k e) ≡ (k, view e)
field_view-made k e = fold-roll-Field Expression (List ℕ × Expression) expression_step field_step (record { key = k; value = e })
