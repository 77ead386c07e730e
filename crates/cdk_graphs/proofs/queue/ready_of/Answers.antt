use Rattle.std.proofs.Common.{◌≡◌, length, sym, ap, ◌∙◌, arith}
use Rattle.std.specs.Prelude.{◌||◌, ◌&&◌, nat_eq}
use Rattle.cdk_graphs.specs.Graph.{graph_view, leads}
use Rattle.cdk_graphs.proofs.Counts.{row_at, test_step}
use Rattle.cdk_graphs.proofs.queue.ready_of.Goals as goal

pub loop-number-preserved : goal.loop-number-preserved
loop-number-preserved c k =
    let graph = c.args.graph.now in
    let i = c.loop-number.number in
    let row = c.index-graph-number.result in
    let here : leads (graph_view graph) i ≡ row.items = row_at graph i row (omega arith) ∙ sym (ap (λ r. r.items) c.index-graph-number.is) in
    let count : length (leads (graph_view graph) i) ≡ c.len.result = omega (arith, ap length here) in
    c.in_ok-put_if.ensures k
    ∙ ap (λ b. b || (nat_eq c.len.result 0 && nat_eq i k)) (c.loop-number.invariant k)
    ∙ test_step i k (nat_eq (length (leads (graph_view graph) k)) 0) (nat_eq c.len.result 0) (λ e. ap (λ m. nat_eq m 0) (sym count ∙ ap (λ m. length (leads (graph_view graph) m)) e))
