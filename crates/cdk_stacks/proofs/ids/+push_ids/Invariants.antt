use Rattle.cdk_stacks.proofs.ids.+push_ids.Given as goal

abbrev pub decreases-push_ids : goal.decreases-push_ids
decreases-push_ids l = l.at
