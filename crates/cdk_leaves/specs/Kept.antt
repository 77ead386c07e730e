-- What a store of results keeps.
use Rattle.cdk_leaves.specs.Lazies as lazies
use Rattle.cdk_leaves.specs.Slots.{result_of}
use Rattle.cdk_leaves.specs.declared.results.Results.{Results}

abbrev pub results_in : Results → lazies.Results
results_in r n = result_of r.slots n
