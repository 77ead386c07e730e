use Rattle.std.proofs.Common.{◌≡◌, ◌∷◌, ◌+◌, drop, get_or, false, sym, ap, ◌∙◌, arith}
use Rattle.std.proofs.lemmas.List.{drop_more}
use Rattle.cdk_tokens.specs.TableView.{tokens_in}
use Rattle.cdk_tree.specs.PlaceFindings.{first}
use Rattle.cdk_tree.specs.Placed.{construct_at, nowhere}
use Rattle.cdk_tree.specs.TreeView.{constructs}
use Rattle.cdk_lazies.specs.MentionGraph.{construct_node}
use Rattle.cdk_lazies.specs.Told.{told_findings_from}
use Rattle.cdk_lazies.proofs.Findings.{not_told}
use Rattle.cdk_lazies.proofs.faults.first_cycle.Goals as goal

-- a construct that isn't told to reach itself
pub loop-number-preserved : goal.loop-number-preserved
loop-number-preserved c =
    let cs = constructs c.args.tree.now in
    let ts = tokens_in c.args.table.now in
    let told = c.args.loops.now in
    let n = c.loop-number.number in
    let rest = drop (n + 1) cs in
    let here : drop n cs ≡ construct_at cs n ∷ rest = drop_more cs n nowhere (omega (arith, c.len-number-end.ensures)) in
    let own : get_or told (construct_node ts n) false ≡ false = ap (λ k. get_or told (k + n) false) (sym c.len.ensures) ∙ c.if-loops-len.false in
    c.loop-number.invariant ∙ ap (λ ps. first (told_findings_from ts told n ps)) here ∙ ap first (not_told ts told n (construct_at cs n) rest own)
