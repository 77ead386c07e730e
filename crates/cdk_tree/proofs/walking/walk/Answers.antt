use Rattle.std.proofs.Common.{◌≡◌, [], ap, subst}
use Rattle.cdk_language.specs.Construct.{node_view}
use Rattle.cdk_tree.specs.Walking.{waiting, Completes}
use Rattle.cdk_tree.proofs.SoundLemmas.{root_below, root_all}
use Rattle.cdk_tree.proofs.walking.walk.Goals as goal

pub enter_all-requires-clause-below : goal.enter_all-requires-clause-below
enter_all-requires-clause-below c =
    let none : waiting c.new-pending.result ≡ [] = ap waiting c.new-pending.ensures in
    root_below c.in-Ok.nodes (node_view c.args.root) (waiting c.new-pending.result) (waiting c.enter_root.new.pending) none c.in-Ok.ensures

pub returns-in-Ok : goal.returns-in-Ok
returns-in-Ok c =
    let none : waiting c.new-pending.result ≡ [] = ap waiting c.new-pending.ensures in
    subst (Completes c.enter_all.result) (root_all c.in-Ok.nodes (node_view c.args.root) (waiting c.new-pending.result) (waiting c.enter_root.new.pending) none c.in-Ok.ensures) c.enter_all.ensures
