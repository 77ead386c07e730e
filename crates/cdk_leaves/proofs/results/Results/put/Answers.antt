use Rattle.cdk_leaves.proofs.SlotLemmas.{added_results, adds_by, settled_by}
use Rattle.cdk_leaves.specs.declared.results.Slot.TheVariants.{Own}
use Rattle.cdk_leaves.proofs.results.Results.put.Goals as goal

pub invariant_of-self : goal.invariant_of-self
invariant_of-self c = record {
  settled = settled_by c.args.self.now.slots c.insert.new.self c.args.lazy c.number.result (Own c.args.value) c.insert.result c.args.self.now.settled c.requires tt c.number.ensures c.insert.ensures.updates c.insert.ensures.err;
}

pub returns-clause-ok : goal.returns-clause-ok
returns-clause-ok c =
    added_results c.args.self.now.slots c.insert.new.self c.args.lazy (Own c.args.value)
    (adds_by c.args.self.now.slots c.insert.new.self c.args.lazy c.number.result (Own c.args.value) c.args.self.now.settled c.requires tt c.number.ensures c.in_ok-insert.ensures.updates)
