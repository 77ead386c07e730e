use Rattle.std.proofs.Common.{◌∷◌, ◌++◌, [], map, ap, ◌∙◌}
use Rattle.std.proofs.lemmas.List.{map-append}
use Rattle.serde_json.specs.View.{view as json_view}
use Rattle.cdk_tokens.proofs.whole.push_operand.Goals as goal

pub returns-clause-value : goal.returns-clause-value
returns-clause-value c =
    let old = c.args.values.now.items in
    let value = c.in_ok-value.value in
    ap (map json_view) c.in_ok-push.ensures.items ∙ map-append json_view old (value ∷ []) ∙ ap (λ v. map json_view old ++ v ∷ []) c.in_ok-value.ensures.value
