use Rattle.std.proofs.Common.{length, reverse, take, sym, subst, ◌∙◌, List, ℕ}
use Rattle.cdk_graphs.specs.Graph.{graph_view}
use Rattle.cdk_graphs.specs.Marks.{mark_at}
use Rattle.cdk_graphs.specs.Walks.{IsEntered, group_at, groups_at}
use Rattle.cdk_graphs.proofs.Closing.{members_within}
use Rattle.cdk_graphs.proofs.Marked.{rest_told}
use Rattle.cdk_graphs.proofs.Walking.{leaves, passed, joins_with, enters_with, waits_within}
use Rattle.cdk_graphs.proofs.search.step.Goals as goal

pub leave-requires-clause-within : goal.leave-requires-clause-within
leave-requires-clause-within c =
    let w = c.args.walk.now in
    let last = c.args.last in
    let members = w.members.items in
    let waiting = w.waiting.items in
    members_within (graph_view c.args.graph.now) w.marks (length members) (group_at last members waiting) (groups_at (reverse w.groups) (take last.first members) (take last.waiting waiting)) c.requires.walk.stands

pub returns-in_default : goal.returns-in_default
returns-in_default c = leaves (graph_view c.args.graph.now) c.args.walk.now c.leave.new.self c.args.last c.next_waiting.new.waiting c.requires.walk c.in_default.ensures.none c.in_default.ensures.same c.leave.ensures

pub returns-in-Open : goal.returns-in-Open
returns-in-Open c = joins_with (graph_view c.args.graph.now) c.args.walk.now c.args.last c.next_waiting.new.waiting c.in-Some.number c.in-Some.ensures.more c.in-Some.ensures.popped c.requires.walk c.join.new.groups c.in-Open.position (sym c.in-Open.ensures) c.in_ok-join.ensures

pub enter-requires : goal.enter-requires
enter-requires c = waits_within (graph_view c.args.graph.now) c.args.walk.now c.args.last c.next_waiting.new.waiting c.in-Some.number c.in-Some.ensures.more c.in-Some.ensures.popped c.requires.walk c.requires.closed

pub returns-in-New : goal.returns-in-New
returns-in-New c =
    let w = c.args.walk.now in
    let entered = subst (λ (row : List ℕ). IsEntered c.in-Some.number row (record w { groups = c.push.new.self; waiting = c.next_waiting.new.waiting }) c.enter.new.self) c.row_of.ensures c.in_ok-enter.ensures in
    enters_with (graph_view c.args.graph.now) w c.args.last c.next_waiting.new.waiting c.in-Some.number c.in-Some.ensures.more c.in-Some.ensures.popped c.requires.walk c.push.new.self c.enter.new.self c.in_ok-push.ensures.ok c.requires.closed (sym c.in-New.ensures) entered

pub returns : goal.returns
returns c =
    let w = c.args.walk.now in
    let told = rest_told (mark_at w.marks c.in-Some.number) (λ e. c.in_default-mark-2.not-New (c.mark_of-mark.ensures ∙ e)) (λ k e. c.in_default-mark.not-Open k (c.mark_of-mark.ensures ∙ e)) in
    passed (graph_view c.args.graph.now) w c.args.last c.next_waiting.new.waiting c.in-Some.number c.in-Some.ensures.more c.in-Some.ensures.popped c.requires.walk c.push.new.self c.in_ok-push.ensures.ok told
