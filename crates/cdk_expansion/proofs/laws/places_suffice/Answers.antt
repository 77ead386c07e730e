use Rattle.cdk_expansion.proofs.OrderPlaces.{places_suffice}
use Rattle.cdk_expansion.proofs.laws.places_suffice.Goals as goal

pub returns : goal.returns
returns c = places_suffice
