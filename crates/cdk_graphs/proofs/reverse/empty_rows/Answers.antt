use Rattle.std.proofs.Common.{length, ap, ◌∙◌, arith}
use Rattle.std.proofs.lemmas.List.{length-append}
use Rattle.cdk_graphs.specs.Graph.{graph_view, leads}
use Rattle.cdk_graphs.proofs.Counts.{row_push}
use Rattle.cdk_graphs.proofs.reverse.empty_rows.Goals as goal

pub loop-row-preserved : goal.loop-row-preserved
loop-row-preserved c =
    let rows = c.loop-row.rows.items in
    record {
      size = omega (arith, simp length-append at (ap length c.in_ok-push.ensures.items), c.loop-row.invariant.size);
      empty = λ n. ap (λ rs. leads (graph_view rs) n) c.in_ok-push.ensures.items ∙ row_push rows n c.new.result c.new.ensures.items (c.loop-row.invariant.empty n);
    }
