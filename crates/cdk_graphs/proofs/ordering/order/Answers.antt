use Rattle.std.proofs.Common.{◌≡◌, ◌<◌, ◌≤◌, ◌+◌, ℕ, List, Some, Global, length, get_or, sym, ap, subst, ◌∙◌, arith}
use Rattle.std.specs.declared.vec.Vec.{Vec}
use Rattle.std.proofs.lemmas.List.{length-map}
use Rattle.cdk_graphs.specs.Graph.{Graph, graph_view, leads}
use Rattle.cdk_graphs.specs.Queued.{IsReversed, occurrences, Pops, Releases, waits}
use Rattle.cdk_graphs.specs.declared.queue.Queue.{Queue}
use Rattle.cdk_graphs.proofs.Counts.{row_at}
use Rattle.cdk_graphs.proofs.Placing.{begins, ends, enough, next, Places, steps, stops}
use Rattle.cdk_graphs.proofs.ordering.order.Goals as goal

pub placing-init : goal.placing-init
placing-init c = begins (graph_view c.args.graph.now) c.new-numbers.result.items c.in_ok-queue.queue c.new-numbers.ensures.items c.in_ok-queue.ensures

pub returns-in_default : goal.returns-in_default
returns-in_default c = stops (graph_view c.args.graph.now) c.placing._turn c.placing.numbers.items c.placing.queue c.placing.invariant c.in_default.ensures

-- the row of the next number, from which what is released is read
row_here : (g : Graph) (rows : List (Vec ℕ Global)) (turn : ℕ) (order : List ℕ) (q p : Queue) (n : ℕ) (row : Vec ℕ Global) → Places g turn order q → Pops (Some n) q p → IsReversed g (graph_view rows) → row ≡ get_or rows n row
    → leads (graph_view rows) n ≡ row.items
row_here g rows turn order q p n row state popped turned is =
    let next_one = next g turn order q p (graph_view rows) n state popped turned in
    let within = next_one.within in
    let inside : n < length rows = omega (arith, within, turned.size, length-map rows (λ r. r.items)) in
    row_at rows n row inside ∙ sym (ap (λ r. r.items) is)

pub release-requires : goal.release-requires
release-requires c k =
    let g = graph_view c.args.graph.now in
    let rows = c.in_ok-rows.rows.items in
    let n = c.in-Some.number in
    let p = c.next.new.self in
    let here = row_here g rows c.placing._turn c.placing.numbers.items c.placing.queue p n c.index.result.now c.placing.invariant c.in-Some.ensures c.in_ok-rows.ensures c.index.ensures ∙ sym c.as_slice.ensures.value in
    subst (λ (xs : List ℕ). occurrences k xs ≤ waits p k) here
    (enough g c.placing._turn c.placing.numbers.items c.placing.queue p (graph_view rows) n c.placing.invariant c.in-Some.ensures c.in_ok-rows.ensures k)

pub placing-preserved : goal.placing-preserved
placing-preserved c =
    let g = graph_view c.args.graph.now in
    let rows = c.in_ok-rows.rows.items in
    let n = c.in-Some.number in
    let p = c.next.new.self in
    let s = c.release.new.self in
    let here = row_here g rows c.placing._turn c.placing.numbers.items c.placing.queue p n c.index.result.now c.placing.invariant c.in-Some.ensures c.in_ok-rows.ensures c.index.ensures ∙ sym c.as_slice.ensures.value in
    let released = subst (λ (xs : List ℕ). Releases xs p s) (sym here) c.in_ok-release.ensures in
    subst (λ (xs : List ℕ). Places g (c.placing._turn + 1) xs s) (sym c.in_ok-push.ensures.items)
    (steps g c.placing._turn c.placing.numbers.items c.placing.queue p (graph_view rows) n c.placing.invariant c.in-Some.ensures c.in_ok-rows.ensures s released)

pub returns : goal.returns
returns c =
    let long = length-map c.args.graph.now (λ r. r.items) in
    ends (graph_view c.args.graph.now) c.placing._turn c.placing.numbers.items c.placing.queue c.placing.invariant (omega (arith, long))
