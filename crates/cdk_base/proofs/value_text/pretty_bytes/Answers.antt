use Rattle.std.proofs.Common.{Result, Ok, Err, ap, ◌∙◌}
use Rattle.std.specs.Prelude.{IfOk}
use Rattle.serde_json.proofs.Texts.{tokens_from_order}
use Rattle.json.specs.Layout.{pretty}
use Rattle.serde_json.specs.View.{view}
use Rattle.cdk_base.proofs.Laid.{pretty-outline}
use Rattle.cdk_base.proofs.value_text.pretty_bytes.Goals as goal

-- what holds of a value by two facts of it
from_both : {T E : Type 0} (r : Result T E) (P Q R : T → Type 0) → ((x : T) → P x → Q x → R x) → IfOk r P → IfOk r Q → IfOk r R
from_both (Ok x) P Q R f p q = f x p q
from_both (Err e) P Q R f p q = tt

pub returns-clause-text : goal.returns-clause-text
returns-clause-text c =
    let d = view c.args.value.now in
    from_both c.to_vec_pretty.result _ _ _ (λ b laid order. laid ∙ ap pretty (tokens_from_order b.items d order c.requires.no_float) ∙ pretty-outline d c.requires.shallow)
    c.to_vec_pretty.ensures.layout c.to_vec_pretty.ensures.order
