use Rattle.cdk_words.proofs.Cuts.{around_equals-split_once}
use Rattle.cdk_words.proofs.settings.around_equals.Goals as goal

pub returns : goal.returns
returns c = around_equals-split_once c.args.word.now c.split_once.result c.split_once.ensures.cases
