use Rattle.cdk_needs.proofs.marking.Marking.new.Goals as goal

pub returns : goal.returns
returns c = record {
  passed = c.in_ok-vec.ensures.items_if_clones_equal (λ y same. same);
  met = c.in_ok-vec-2.ensures.items_if_clones_equal (λ y same. same);
  waiting_count = c.in_ok-empty_lists.ensures;
  ready = c.new.ensures.items;
}
