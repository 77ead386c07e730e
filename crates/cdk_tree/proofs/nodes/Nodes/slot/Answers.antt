use Rattle.std.proofs.Common.{◌≡◌, ◌<◌, ap, sym, ◌∙◌, length, get_or, slice_get, Some, None, zero-add, arith}
use Rattle.cdk_tree.specs.Slots.{fits_parent, placed_of}
use Rattle.cdk_tree.specs.NodesView.{placed_nodes}
use Rattle.cdk_tree.proofs.SlotLemmas.{placed_at, fits_at, length-constructs_in}
use Rattle.cdk_tree.proofs.Tests.{slice_get-at, not_none, same_some}
use Rattle.cdk_tree.proofs.nodes.Nodes.slot.Goals as goal

pub unreachable-requires : goal.unreachable-requires
unreachable-requires c =
    let ss = c.args.self.now.slots in
    let none : slice_get ss c.number.result ≡ None = sym c.in_default.ensures.value in
    not_none ss c.number.result (omega (arith, length-constructs_in ss, c.requires, c.number.ensures)) none

pub returns : goal.returns
returns c =
    let ss = c.args.self.now.slots in
    let s = c.in-Some.slot.now in
    let within : c.args.at < length ss = omega (arith, length-constructs_in ss, c.requires) in
    let here : slice_get ss c.args.at ≡ Some s = ap (slice_get ss) (sym c.number.ensures) ∙ sym c.in-Some.ensures.value in
    let is : get_or ss c.args.at s ≡ s = same_some (get_or ss c.args.at s) s (sym (slice_get-at ss c.args.at s within) ∙ here) in
    record {
      placed = ap (placed_of (placed_nodes c.args.self.now)) (sym is) ∙ placed_at ss c.args.at s c.args.self.now.rooted within;
      below = ap (λ x. fits_parent c.args.at x.parent) (sym is) ∙ ap (λ n. fits_parent n (get_or ss c.args.at s).parent) (sym (zero-add c.args.at)) ∙ fits_at 0 ss c.args.at s c.args.self.now.rooted within;
      scopes = c.args.self.now.scoped c.args.at c.requires;
    }
