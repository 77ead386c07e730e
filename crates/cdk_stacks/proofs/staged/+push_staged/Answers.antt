use Rattle.std.proofs.Common.{◌≡◌, ◌<◌, ◌∷◌, ◌++◌, [], string_bytes, sym, ap, ◌∙◌, arith}
use Rattle.cdk_tree.specs.Placed.{construct_at}
use Rattle.cdk_tree.specs.TreeView.{constructs}
use Rattle.cdk_stacks.proofs.Within.{not_zero, staged_more}
use Rattle.cdk_stacks.proofs.staged.+push_staged.Goals as goal

pub returns : goal.returns
returns t c most fits =
    let cs = constructs c.args.tree.now in
    let outer = c.assembly_of-assembly.result in
    let positive : 0 < outer = omega (arith, c.number.ensures, c.if-number-eq0.false) in
    let below : outer < c.args.at = c.assembly_of-assembly.ensures.before positive in
    let id : c.as_str-id.result.now ≡ (construct_at cs c.args.at).head.id = c.as_str-id.ensures ∙ ap (λ h. h.id) c.node.ensures.head in
    staged_more most cs c.args.at outer (sym c.assembly_of-assembly.ensures.value) (not_zero outer positive) below fits
    (string_bytes c.args.name.now) (string_bytes c.push_staged.new.name) (string_bytes c.push_str-3.new.self) c.in_ok-push_staged.ensures
    (c.in_ok-push_str-3.ensures.bytes ∙ ap (λ l. l ++ c.as_str-id.result.now) c.in_ok-push_str-2.ensures.bytes ∙ ap (λ i. (string_bytes c.push_staged.new.name ++ 45 ∷ []) ++ i) id)
