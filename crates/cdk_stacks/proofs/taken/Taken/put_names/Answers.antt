use Rattle.std.proofs.Common.{None}
use Rattle.cdk_tree.specs.TreeView.{constructs}
use Rattle.cdk_stacks.specs.Claims.{artifact_claim, logical_claim, stack_claim, tree_claim}
use Rattle.cdk_stacks.proofs.ClaimLemmas.{takes_more}
use Rattle.cdk_stacks.proofs.taken.Taken.put_names.Goals as goal

pub returns : goal.returns
returns c =
    let cs = constructs c.args.tree.now in
    let t = c.args.self.now in
    let h = c.requires.taken in
    record {
      logical = takes_more t.logical c.put.new.self None (logical_claim cs) c.args.at _ h.logical c.logical_claim.ensures c.in_ok-put.ensures;
      stacks = takes_more t.stacks c.put-2.new.self None (stack_claim cs) c.args.at _ h.stacks (c.stack_claim.ensures cs c.requires.names) c.in_ok-put-2.ensures;
      artifacts = takes_more t.artifacts c.put-3.new.self tree_claim (artifact_claim cs) c.args.at _ h.artifacts c.artifact_claim.ensures c.in_ok-put-3.ensures;
    }
