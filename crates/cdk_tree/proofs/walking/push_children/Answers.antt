use Rattle.std.proofs.Common.{◌++◌, sym, ap, ◌∙◌}
use Rattle.cdk_language.specs.Construct.{nodes_view}
use Rattle.cdk_tree.specs.Walking.{children_of, waiting}
use Rattle.cdk_tree.proofs.WalkLemmas.{waiting-push, children_of-push}
use Rattle.cdk_tree.proofs.walking.push_children.Goals as goal

pub loop-node-preserved : goal.loop-node-preserved
loop-node-preserved c =
    let l = c.loop-node in
    let m = c.args.parent in
    let node = c.in-Some.node in
    l.invariant
    ∙ ap (λ ns. children_of m (nodes_view ns) ++ waiting l.pending) c.in-Some.ensures
    ∙ children_of-push m c.pop.new.self node (waiting l.pending)
    ∙ ap (λ ws. children_of m (nodes_view c.pop.new.self) ++ ws) (sym (waiting-push l.pending (record { node = node; parent = m })))
    ∙ ap (λ ps. children_of m (nodes_view c.pop.new.self) ++ waiting ps) (sym c.in_ok-push.ensures.ok)
