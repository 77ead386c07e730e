use Rattle.cdk_premises.proofs.FitMappings.{mappings_are_well}
use Rattle.cdk_premises.proofs.formed.mappings_are_well.Goals as goal

pub returns : goal.returns
returns c = mappings_are_well
