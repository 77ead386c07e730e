use Rattle.cdk_members.proofs.Around.{around-split_once}
use Rattle.cdk_members.proofs.sub.around.Goals as goal

pub returns : goal.returns
returns c = around-split_once c.args.mark.now c.args.text.now c.split_once.result c.requires c.split_once.ensures.cases
