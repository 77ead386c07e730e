use Rattle.std.proofs.Common.{◌≡◌, ◌+◌, [], ◌∷◌, ◌++◌, drop, map, sym, ap, ◌∙◌, arith, append_assoc}
use Rattle.std.specs.Option.{option_or}
use Rattle.std.proofs.lemmas.List.{drop_more, map-append}
use mathlib.Core.Path.{fun_ext}
use Rattle.cdk_eval.specs.Assembly.{stack_outcomes}
use Rattle.cdk_eval.specs.Stack.{lookup, stack_outcome, exports_after}
use Rattle.cdk_eval.specs.Views.{values_view, stack_view, stack_out_view}
use Rattle.cdk_scopes.specs.Scopes.{exports_view}
use Rattle.cdk_evaluator.specs.Made.{export_pair}
use Rattle.cdk_evaluator.proofs.report.eval.Goals as goal

pub loop-stack-preserved : goal.loop-stack-preserved
loop-stack-preserved c =
    let l = c.loop-stack in
    let v = values_view c.args.values.now in
    let f = exports_view l.exports in
    let xs = c.stacks-stack-items.result.now in
    let x = c.stack-item.result in
    let s = stack_view x in
    let rest = map stack_view (drop (l.stack-index + 1) xs) in
    let here : drop l.stack-index xs ≡ x ∷ drop (l.stack-index + 1) xs = drop_more xs l.stack-index x (omega arith) ∙ ap (λ y. y ∷ drop (l.stack-index + 1) xs) (sym c.stack-item.is) in
    let after : exports_view c.add_all.new.exports ≡ exports_after v f s =
    fun_ext (λ e. c.in_ok-add_all.ensures e ∙ ap (λ ys. option_or (f e) (lookup e (map export_pair ys))) c.as_slice.ensures ∙ ap (λ ps. option_or (f e) (lookup e ps)) c.in_ok-out.ensures.exports) in
    let pushed = ap (map stack_out_view) c.in_ok-push.ensures.ok ∙ map-append stack_out_view l.stacks (c.in_ok-out.field-0.out ∷ []) ∙ ap (λ o. map stack_out_view l.stacks ++ o ∷ []) c.in_ok-out.ensures.out in
    l.invariant ∙ ap (λ ys. map stack_out_view l.stacks ++ stack_outcomes v f (map stack_view ys)) here
    ∙ sym (append_assoc (map stack_out_view l.stacks) (stack_outcome v f s ∷ []) (stack_outcomes v (exports_after v f s) rest))
    ∙ ap (λ os. os ++ stack_outcomes v (exports_after v f s) rest) (sym pushed)
    ∙ ap (λ g. map stack_out_view c.push.new.self ++ stack_outcomes v g rest) (sym after)
