use Rattle.std.proofs.Common.{◌≡◌, [], Some, map, option_map, sym, ap, ◌∙◌}
use Rattle.std.proofs.lemmas.Result.{IfOk-weaker}
use Rattle.cdk_eval.specs.SubText.{sub_parts}
use Rattle.cdk_eval.specs.Template.{sub_outcome}
use Rattle.cdk_texts.specs.Steps.{part_view}
use Rattle.cdk_scopes.specs.Scopes.{scope_view}
use Rattle.cdk_intrinsics.specs.Substitution.{look, or_found, items_by, joined_items}
use Rattle.cdk_intrinsics.proofs.Parts.{no_names}
use Rattle.cdk_intrinsics.proofs.substitution.plain_sub.Goals as goal

pub returns : goal.returns
returns c =
    let s = scope_view c.args.scope.now in
    let by = look c.new-none.result in
    let ps = map part_view c.in-Some.parts.items in
    let found : Some ps ≡ sub_parts c.args.text.now = ap (option_map (λ v. map part_view v.items)) (sym c.in-Some.is) ∙ c.in_ok-parts.ensures in
    IfOk-weaker c.sub_outcome.result _ _
    (λ o h. h ∙ ap (λ qs. joined_items (items_by s by (map part_view qs))) c.as_slice.ensures.value ∙ ap joined_items (no_names s by (λ n o. ap (or_found o) (c.new-none.ensures n)) ps) ∙ ap (sub_outcome s []) found)
    c.sub_outcome.ensures
