-- The root is kept as its own, so it stays as it was.
use Rattle.std.proofs.Common.{◌==◌, ap, ◌∙◌, if◌then◌else◌}
use Rattle.cdk_leaves.proofs.SlotLemmas.{added_results, adds_by, root_has_result, root_is_own, settled_by}
use Rattle.cdk_leaves.specs.Slots.{result_of}
use Rattle.cdk_leaves.specs.declared.results.Slot.TheVariants.{Same}
use Rattle.cdk_leaves.proofs.results.Results.put_same.Goals as goal

pub invariant_of-self : goal.invariant_of-self
invariant_of-self c =
    let slots = c.args.self.now.slots in
    let right = root_is_own slots c.args.self.now.settled c.args.other c.root-root.result c.requires.kept c.root-root.ensures in
    record {
      settled = settled_by slots c.insert.new.self c.args.lazy c.number.result (Same c.root-root.result) c.insert.result c.args.self.now.settled c.requires.new right c.number.ensures c.insert.ensures.updates c.insert.ensures.err;
    }

pub returns-clause-ok : goal.returns-clause-ok
returns-clause-ok c n =
    let slots = c.args.self.now.slots in
    let right = root_is_own slots c.args.self.now.settled c.args.other c.root-root.result c.requires.kept c.root-root.ensures in
    added_results slots c.insert.new.self c.args.lazy (Same c.root-root.result)
    (adds_by slots c.insert.new.self c.args.lazy c.number.result (Same c.root-root.result) c.args.self.now.settled c.requires.new right c.number.ensures c.in_ok-insert.ensures.updates) n
    ∙ ap (λ o. if n == c.args.lazy then o else result_of slots n) (root_has_result slots c.args.other c.root-root.result c.requires.kept c.root-root.ensures)
