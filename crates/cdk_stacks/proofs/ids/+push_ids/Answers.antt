use Rattle.std.proofs.Common.{◌≡◌, ◌<◌, ◌∷◌, ◌++◌, [], sym, ap, ◌∙◌}
use Rattle.std.specs.Option.{option_map_or}
use Rattle.cdk_tree.specs.Placed.{construct_at}
use Rattle.cdk_tree.specs.TreeView.{constructs}
use Rattle.cdk_stacks.specs.Names.{scope_of}
use Rattle.cdk_stacks.proofs.Within.{apart, ids_more}
use Rattle.cdk_stacks.proofs.ids.+push_ids.Goals as goal

pub returns : goal.returns
returns t c most fits =
    let cs = constructs c.args.tree.now in
    let outer = c.in-Some.outer in
    let below : outer < c.args.at = c.in-Some.ensures.below in
    let scope : scope_of cs c.args.at ≡ outer = ap (λ o. option_map_or (λ m. m) o 0) (sym c.in-Some.ensures.value) in
    let id : c.in_ok-id.id ≡ (construct_at cs c.args.at).head.id = c.in_ok-id.ensures ∙ c.as_str.ensures ∙ ap (λ h. h.id) c.node.ensures.head in
    ids_more most cs c.args.scope c.args.at outer (apart c.args.at c.args.scope outer (λ e. c.if-number.false (c.number.ensures ∙ e ∙ sym c.number-2.ensures)) below) scope below fits
    c.args.ids.now c.push_ids.new.ids c.push.new.self c.in_ok-push_ids.ensures
    (c.in_ok-push.ensures.ok ∙ ap (λ i. c.push_ids.new.ids ++ i ∷ []) id)
