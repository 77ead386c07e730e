use Rattle.cdk_expansion.proofs.OrderPlaces.{orders_suffice}
use Rattle.cdk_expansion.proofs.laws.orders_suffice.Goals as goal

pub returns : goal.returns
returns c = orders_suffice
