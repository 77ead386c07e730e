use Rattle.std.proofs.Common.{◌≡◌, None, length, ap, sym, subst, ◌∙◌}
use Rattle.std.specs.Prelude.{string_bytes}
use Rattle.cdk_language.specs.Construct.{Construct, kind_view, nodes_view}
use Rattle.cdk_tree.specs.NodesView.{placed_nodes}
use Rattle.cdk_tree.specs.Placed.{find_path, root_placed}
use Rattle.cdk_tree.specs.Slots.{fits_parent, head_of, placed_of}
use Rattle.cdk_tree.specs.Walking.{waiting, EntersRoot}
use Rattle.cdk_tree.specs.declared.slot.Slot.{Slot}
use Rattle.cdk_tree.proofs.EnterLemmas.{enters_root}
use Rattle.cdk_tree.proofs.walking.enter_root.Goals as goal

pub place-requires-clause-new : goal.place-requires-clause-new
place-requires-clause-new c = ap (λ cs. find_path cs (string_bytes c.new-2.result)) c.new.ensures

pub place-requires-clause-parent : goal.place-requires-clause-parent
place-requires-clause-parent c =
    ap (λ (s : Slot). fits_parent (length (placed_nodes c.new.result)) s.parent) c.root_slot.ensures ∙ ap (λ cs. fits_parent (length cs) None) c.new.ensures

pub returns : goal.returns
returns c =
    let cs = placed_nodes c.new.result in
    let part = c.take_apart-part.result.0 in
    let before = waiting c.args.pending.now in
    let after = waiting c.place.new.pending in
    let is : placed_of cs c.root_slot.result ≡ root_placed (head_of part) (kind_view part.kind) = ap (placed_of cs) c.root_slot.ensures in
    let P : Construct → Type 0 = λ k. EntersRoot c.place.result k before after in
    subst P (sym c.take_apart-part.ensures)
    (enters_root c.place.result cs (placed_of cs c.root_slot.result) (head_of part) (kind_view part.kind) (nodes_view c.take_apart-part.result.1) before after c.new.ensures is c.place.ensures)
