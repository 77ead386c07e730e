use Rattle.std.proofs.Common.{◌≡◌, length, false, Some, sym, ap, ◌∙◌}
use Rattle.std.specs.List.{list_any}
use Rattle.cdk_graphs.specs.Graph.{graph_view}
use Rattle.cdk_tokens.specs.TableView.{marked_in, tokens_in}
use Rattle.cdk_tree.specs.PlaceFindings.{first}
use Rattle.cdk_tree.specs.TreeView.{constructs}
use Rattle.cdk_lazies.specs.Told.{told_findings_from}
use Rattle.cdk_lazies.proofs.Orders.{is_closed, lazies_picked, loops_told, orders, told_first, told_length}
use Rattle.cdk_lazies.proofs.ordering.lazy_order.Goals as goal

pub loops-requires : goal.loops-requires
loops-requires c =
    is_closed (constructs c.args.tree.now) (tokens_in c.args.table.now) (marked_in c.args.marked.now) (graph_view c.as_slice.result.now) (ap graph_view c.as_slice.ensures.value ∙ c.in-Ok.ensures)

pub first_cycle-requires : goal.first_cycle-requires
first_cycle-requires c =
    let cs = constructs c.args.tree.now in
    let ts = tokens_in c.args.table.now in
    let ms = marked_in c.args.marked.now in
    let told = c.in-Ok-loops.told.items in
    let are = loops_told cs ts ms (graph_view c.as_slice.result.now) (ap graph_view c.as_slice.ensures.value ∙ c.in-Ok.ensures) told c.in-Ok-loops.ensures in
    ap length c.as_slice-2.ensures.value ∙ told_length cs ts ms told are

pub returns-in-Some : goal.returns-in-Some
returns-in-Some c =
    let cs = constructs c.args.tree.now in
    let ts = tokens_in c.args.table.now in
    let ms = marked_in c.args.marked.now in
    let told = c.in-Ok-loops.told.items in
    let are = loops_told cs ts ms (graph_view c.as_slice.result.now) (ap graph_view c.as_slice.ensures.value ∙ c.in-Ok.ensures) told c.in-Ok-loops.ensures in
    told_first cs ts ms told are c.loops_are_found.ensures (Some c.in-Some.found) (c.in-Some.ensures ∙ ap (λ bs. first (told_findings_from ts bs 0 cs)) c.as_slice-2.ensures.value)

pub ordered_lazies-requires : goal.ordered_lazies-requires
ordered_lazies-requires c =
    is_closed (constructs c.args.tree.now) (tokens_in c.args.table.now) (marked_in c.args.marked.now) (graph_view c.as_slice-4.result.now) (ap graph_view c.as_slice-4.ensures.value ∙ c.in-Ok.ensures)

pub returns-in-Ok-ordered_lazies : goal.returns-in-Ok-ordered_lazies
returns-in-Ok-ordered_lazies c =
    let cs = constructs c.args.tree.now in
    let ts = tokens_in c.args.table.now in
    let ms = marked_in c.args.marked.now in
    let told = c.in-Ok-loops.told.items in
    let are = loops_told cs ts ms (graph_view c.as_slice.result.now) (ap graph_view c.as_slice.ensures.value ∙ c.in-Ok.ensures) told c.in-Ok-loops.ensures in
    let clean = c.in_default.ensures ∙ ap (λ bs. first (told_findings_from ts bs 0 cs)) c.as_slice-2.ensures.value in
    let none : list_any (λ b. b) told ≡ false = sym (c.any_holds.ensures ∙ ap (list_any (λ b. b)) c.as_slice-3.ensures.value) ∙ c.if-any_holds.false in
    let lazies = c.in-Ok-ordered_lazies.lazies in
    let picked = lazies_picked cs ts ms (graph_view c.as_slice-4.result.now) (ap graph_view c.as_slice-4.ensures.value ∙ c.in-Ok.ensures) lazies c.in-Ok-ordered_lazies.ensures in
    orders cs ts ms told are c.loops_are_found.ensures c.orders_are_whole.ensures clean none lazies picked
