use Rattle.std.proofs.Common.{sym, ◌∙◌}
use Rattle.cdk_tree.proofs.SlotLemmas.{length-constructs_in}
use Rattle.cdk_tree.proofs.nodes.Nodes.len.Goals as goal

pub returns : goal.returns
returns c = c.len.ensures ∙ sym (length-constructs_in c.args.self.now.slots)
