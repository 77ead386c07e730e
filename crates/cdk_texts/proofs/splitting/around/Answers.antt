use Rattle.cdk_texts.proofs.FirstPlace.{around-split_once, shorter-split_once}
use Rattle.cdk_texts.proofs.splitting.around.Goals as goal

pub returns-clause-value : goal.returns-clause-value
returns-clause-value c = around-split_once c.args.mark.now c.args.text.now c.split_once.result c.requires c.split_once.ensures.cases

pub returns-clause-shorter : goal.returns-clause-shorter
returns-clause-shorter c = shorter-split_once c.args.mark.now c.args.text.now c.split_once.result c.requires c.split_once.ensures.cases
