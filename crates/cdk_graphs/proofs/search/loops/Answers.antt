use Rattle.std.proofs.Common.{◌≡◌, ℕ, ◌<◌, length, map, arith}
use Rattle.std.proofs.lemmas.List.{length-map}
use Rattle.std.proofs.lemmas.Result.{IfOk-weaker}
use Rattle.cdk_graphs.specs.Graph.{AreLoops, graph_view}
use Rattle.cdk_graphs.specs.Marks.{says_loop}
use Rattle.cdk_graphs.proofs.Walking.{answers}
use Rattle.cdk_graphs.proofs.search.loops.Goals as goal

pub returns : goal.returns
returns c =
    let l = c.loop-number in
    let g = graph_view c.args.graph.now in
    let met = λ (n : ℕ) (h : n < length g). l.invariant.1 n (omega (arith, h, length-map c.args.graph.now (λ row. row.items))) in
    IfOk-weaker c.told.result (λ told. told.items ≡ map (λ m. says_loop m) l.walk.marks) (λ told. AreLoops g told.items) (λ told is. answers g l.walk told.items l.invariant.0 met is) c.told.ensures
