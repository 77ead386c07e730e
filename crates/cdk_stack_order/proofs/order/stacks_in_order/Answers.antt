use Rattle.std.proofs.Common.{◌≡◌, List, map, sym, ap, ◌∙◌, subst}
use Rattle.std.proofs.lemmas.Result.{IfOk-weaker}
use Rattle.serde_json.specs.Data.{Data}
use Rattle.serde_json.specs.View.{view}
use Rattle.cdk_eval.specs.Manifest.{AreApart, stacks_of}
use Rattle.cdk_artifacts.specs.Found.{stack_view}
use Rattle.cdk_stack_order.specs.Order.{IsOrder}
use Rattle.cdk_artifacts.specs.declared.stacks.Stack.{Stack}
use Rattle.cdk_stack_order.proofs.order.stacks_in_order.Goals as goal

pub order_of-requires : goal.order_of-requires
order_of-requires c = subst (λ (xs : List Stack). AreApart (map stack_view xs)) (sym c.as_slice.ensures.value) c.in_ok-stacks.ensures.apart

pub returns : goal.returns
returns c =
    let d = view c.args.manifest.now in
    let same : map stack_view c.as_slice.result.now ≡ stacks_of d = ap (map stack_view) c.as_slice.ensures.value ∙ c.in_ok-stacks.ensures.stacks in
    IfOk-weaker c.order_of.result (λ o. (m : Data) → map stack_view c.as_slice.result.now ≡ stacks_of m → IsOrder m o) (IsOrder d) (λ o h. h d same) c.order_of.ensures
