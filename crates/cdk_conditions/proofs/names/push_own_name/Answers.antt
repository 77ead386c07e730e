use Rattle.std.proofs.Common.{◌≡◌, ◌++◌, sym, ap, ◌∙◌, append-nil}
use Rattle.std.proofs.lemmas.Result.{IfOk-weaker}
use Rattle.serde_json.specs.View.{view}
use Rattle.cdk_eval.specs.Conditions.{one_name}
use Rattle.cdk_conditions.specs.Kept.{texts_of, form_names}
use Rattle.cdk_conditions.proofs.Forms.{names_of_name, names_of_others}
use Rattle.cdk_conditions.proofs.names.push_own_name.Goals as goal

pub returns-then-eq : goal.returns-then-eq
returns-then-eq c =
    let k = c.args.key.now in
    let d = view c.args.part.now in
    let old = texts_of c.args.names.now.items in
    let new = texts_of c.push_one.new.names.items in
    IfOk-weaker c.push_one.result (λ _. new ≡ old ++ one_name d) (λ _. new ≡ old ++ form_names k d) (λ _ h. h ∙ ap (λ ns. old ++ ns) (sym (names_of_name k d (sym c.if-eq.ensures)))) c.push_one.ensures

pub returns : goal.returns
returns c =
    let old = texts_of c.args.names.now.items in
    sym (ap (λ ns. old ++ ns) (names_of_others c.args.key.now (view c.args.part.now) c.requires (sym c.if-eq.ensures)) ∙ append-nil old)
