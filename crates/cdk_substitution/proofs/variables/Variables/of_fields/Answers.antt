use Rattle.std.proofs.Common.{◌≡◌, ◌+◌, ◌-◌, ◌∷◌, drop, sym, ap, ◌∙◌, arith}
use Rattle.std.proofs.lemmas.List.{drop_more}
use Rattle.std.proofs.lemmas.Map.Text.{btree_map_updates_str}
use Rattle.cdk_language.specs.Application.{find_field}
use Rattle.cdk_language.specs.Expression as expression
use Rattle.cdk_language.specs.Expression.{fields_view, view}
use Rattle.cdk_substitution.proofs.Pieces.{put_over}
use Rattle.cdk_substitution.proofs.Seen.{seen_field}
use Rattle.cdk_substitution.proofs.variables.Variables.of_fields.Goals as goal

pub loop-number-preserved : goal.loop-number-preserved
loop-number-preserved c n =
    let fields = c.args.fields.now in
    let i = c.loop-number.number - 1 in
    let x = c.index-fields-number.result in
    let rest = fields_view (drop c.loop-number.number fields) in
    let more : i + 1 ≡ c.loop-number.number = omega arith in
    let here : drop i fields ≡ x ∷ drop (i + 1) fields = drop_more fields i x (omega arith) ∙ ap (λ y. y ∷ drop (i + 1) fields) (sym c.index-fields-number.is) in
    let all : fields_view (drop i fields) ≡ expression.field x.key (view x.value) rest =
    ap fields_view here ∙ ap (λ m. fields_view (x ∷ drop m fields)) more ∙ ap (λ p. expression.field p.0 p.1 rest) (seen_field x) in
    let k = c.as_str.result.now in
    put_over _ _ k _ n rest (btree_map_updates_str k c.loop-number.expressions c.insert.new.self _ c.in_ok-insert.ensures.updates n) (c.loop-number.invariant n)
    ∙ ap (λ l. find_field n (expression.field l (view x.value) rest)) c.as_str.ensures ∙ sym (ap (find_field n) all)
