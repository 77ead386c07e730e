use Rattle.std.proofs.Common.{◌≡◌, length, sym, ap, subst, ◌∙◌}
use Rattle.std.proofs.lemmas.Result.{IfOk-weaker}
use Rattle.cdk_tree.specs.Needed.{all_needed}
use Rattle.cdk_needs.specs.Needs.{met_after, AreWithin}
use Rattle.cdk_tree.specs.NodesView.{placed_nodes}
use Rattle.cdk_tree.proofs.NeededLemmas.{list_lazies-needed, needs_within}
use Rattle.cdk_tree.proofs.lists.list_lazies.Goals as goal

pub met_needs-requires : goal.met_needs-requires
met_needs-requires c =
    let cs = placed_nodes c.args.nodes.now in
    let same : c.as_slice.result.now ≡ all_needed cs = c.as_slice.ensures ∙ c.in_ok-needs.ensures in
    subst AreWithin (sym same) (needs_within cs)

pub returns : goal.returns
returns c =
    let cs = placed_nodes c.args.nodes.now in
    let same : c.as_slice.result.now ≡ all_needed cs = c.as_slice.ensures ∙ c.in_ok-needs.ensures in
    IfOk-weaker c.met_needs.result _ _ (λ v h. h ∙ ap (λ ns. met_after (length ns) ns) same ∙ list_lazies-needed cs) c.met_needs.ensures
