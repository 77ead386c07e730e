use Rattle.cdk_tree_meaning.proofs.Law.{trees_keep_meaning_law}
use Rattle.cdk_tree_meaning.proofs.laws.trees_keep_meaning.Goals as goal

pub returns : goal.returns
returns c = trees_keep_meaning_law c.values_fit.ensures c.conditions_are_free.ensures
