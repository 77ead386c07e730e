use Rattle.cdk_homes.proofs.EntryLemmas.{others_keep_theirs, put_is_spelled}
use Rattle.cdk_homes.proofs.laws.put_changes_one_pair.Goals as goal

pub returns-clause-put : goal.returns-clause-put
returns-clause-put c = put_is_spelled

pub returns-clause-others : goal.returns-clause-others
returns-clause-others c = others_keep_theirs
