use Rattle.std.proofs.Common.{◌≡◌, Some, option_and_then, sym, ap, ◌∙◌}
use Rattle.cdk_leaves.specs.Slots.{slot_json, slot_of}
use Rattle.cdk_leaves.specs.declared.results.Slot.TheVariants.{Same}
use Rattle.cdk_leaves.proofs.results.Results.get.Goals as goal

pub returns-in-Same : goal.returns-in-Same
returns-in-Same c =
    let slots = c.args.self.now.slots in
    let found : slot_of slots c.args.lazy ≡ Some (Same c.in-Same.other) = ap (slot_of slots) (sym c.number.ensures) ∙ (sym c.in_ok-value.ensures.value ∙ ap Some c.in-Same.is) in
    c.own.ensures ∙ sym (ap (option_and_then (slot_json slots)) found)
