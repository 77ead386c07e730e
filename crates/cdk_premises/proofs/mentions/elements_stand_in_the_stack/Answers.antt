use Rattle.cdk_premises.proofs.ElementStacks.{elements_stand_in_the_stack}
use Rattle.cdk_premises.proofs.mentions.elements_stand_in_the_stack.Goals as goal

pub returns : goal.returns
returns c = elements_stand_in_the_stack
