-- What a `Homes` holds.
use Rattle.std.specs.Prelude.{List, map}
use Rattle.cdk_homes.specs.Homes as homes
use Rattle.cdk_homes.specs.Views.{entry_view}
use Rattle.cdk_homes.specs.declared.homes.Homes.{Homes}

abbrev pub entries_in : Homes → List homes.Entry
entries_in h = map entry_view h.entries.items
