use Rattle.std.proofs.Common.{◌≡◌, ap, sym, ◌∙◌, Some, None, slice_get}
use Rattle.cdk_tree.specs.NodesView.{placed_nodes}
use Rattle.cdk_tree.proofs.Numbered.{path_at, entry_there}
use Rattle.cdk_tree.proofs.nodes.Nodes.path_of.Goals as goal

pub unreachable-requires : goal.unreachable-requires
unreachable-requires c =
    let es = c.args.self.now.paths.entries in
    let none : slice_get es c.args.at ≡ None = ap (slice_get es) (sym c.number.ensures) ∙ sym c.in_default.ensures.entry in
    entry_there es (placed_nodes c.args.self.now) c.args.at c.args.self.now.indexed c.requires none

pub returns : goal.returns
returns c =
    let es = c.args.self.now.paths.entries in
    let here : slice_get es c.args.at ≡ Some (c.in-Some.path.now, c.in-Some._at.now) = ap (slice_get es) (sym c.number.ensures) ∙ sym c.in-Some.ensures.entry in
    c.as_str.ensures.value ∙ path_at es (placed_nodes c.args.self.now) c.args.at (c.in-Some.path.now, c.in-Some._at.now) c.args.self.now.indexed c.requires here
