use Rattle.std.proofs.Common.{◌≡◌, ◌<◌, ◌∷◌, length, Err, ap, sym, ◌∙◌, subst}
use Rattle.std.proofs.lemmas.List.{append-nil}
use Rattle.cdk_language.specs.Construct.{node_view}
use Rattle.cdk_tree.specs.NodesView.{placed_nodes}
use Rattle.cdk_tree.specs.Walking.{all_placed, pending_view, size_of_all, waiting, AreBelow, Completes, IsSound}
use Rattle.cdk_tree.proofs.WalkLemmas.{waiting-push}
use Rattle.cdk_tree.proofs.SoundLemmas.{next_ok, next_err}
use Rattle.cdk_tree.proofs.walking.enter_all.Goals as goal

pub loop-next-preserved : goal.loop-next-preserved
loop-next-preserved c =
    let cs = placed_nodes c.loop-next.nodes in
    let next = c.in-Some.next in
    let first : waiting c.loop-next.pending ≡ pending_view next ∷ waiting c.pop.new.self = ap waiting c.in-Some.ensures ∙ waiting-push c.pop.new.self next in
    let below = subst (AreBelow (length cs)) first c.loop-next.invariant.below in
    let step = next_ok c.in-Ok.more cs next.parent (node_view next.node) (waiting c.pop.new.self) (waiting c.enter.new.pending) c.loop-next.invariant.sound below.0 below.1 c.in-Ok.ensures in
    record {
      sound = step.sound;
      below = step.below;
      all = c.loop-next.invariant.all ∙ ap (all_placed cs) first ∙ step.all;
    }

pub loop-next-smaller : goal.loop-next-smaller
loop-next-smaller c =
    let cs = placed_nodes c.loop-next.nodes in
    let next = c.in-Some.next in
    let first : waiting c.loop-next.pending ≡ pending_view next ∷ waiting c.pop.new.self = ap waiting c.in-Some.ensures ∙ waiting-push c.pop.new.self next in
    let below = subst (AreBelow (length cs)) first c.loop-next.invariant.below in
    let step = next_ok c.in-Ok.more cs next.parent (node_view next.node) (waiting c.pop.new.self) (waiting c.enter.new.pending) c.loop-next.invariant.sound below.0 below.1 c.in-Ok.ensures in
    subst (λ n. size_of_all (waiting c.enter.new.pending) < n) (sym (ap size_of_all first)) step.smaller

pub returns-in-Err : goal.returns-in-Err
returns-in-Err c =
    let cs = placed_nodes c.loop-next.nodes in
    let next = c.in-Some.next in
    let first : waiting c.loop-next.pending ≡ pending_view next ∷ waiting c.pop.new.self = ap waiting c.in-Some.ensures ∙ waiting-push c.pop.new.self next in
    let below = subst (AreBelow (length cs)) first c.loop-next.invariant.below in
    let step = next_err c.in-Err.fault cs next.parent (node_view next.node) (waiting c.pop.new.self) (waiting c.enter.new.pending) c.loop-next.invariant.sound below.0 c.in-Err.ensures in
    subst (Completes (Err c.in-Err.fault)) (sym (c.loop-next.invariant.all ∙ ap (all_placed cs) first)) step

pub enter-requires : goal.enter-requires
enter-requires c =
    let cs = placed_nodes c.loop-next.nodes in
    let next = c.in-Some.next in
    let first : waiting c.loop-next.pending ≡ pending_view next ∷ waiting c.pop.new.self = ap waiting c.in-Some.ensures ∙ waiting-push c.pop.new.self next in
    (subst (AreBelow (length cs)) first c.loop-next.invariant.below).0

pub returns : goal.returns
returns c =
    let cs = placed_nodes c.loop-next.nodes in
    let all : all_placed (placed_nodes c.args.nodes) (waiting c.args.pending) ≡ cs = c.loop-next.invariant.all ∙ ap (λ ps. all_placed cs (waiting ps)) c.in_default.ensures.0 ∙ append-nil cs in
    (sym all, subst IsSound (sym all) c.loop-next.invariant.sound)
