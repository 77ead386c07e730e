use Rattle.cdk_stacks.proofs.staged.+push_staged.Given as goal

abbrev pub decreases-push_staged : goal.decreases-push_staged
decreases-push_staged l = l.at
