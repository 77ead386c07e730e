-- The entries that are kept, and the spelling that is answered.
use Rattle.std.specs.Prelude.{ℕ, List}
use Rattle.cdk_homes.specs.Homes as homes
use Rattle.cdk_homes.specs.declared.entry.Entry.{Entry}
use Rattle.cdk_homes.specs.declared.target.Home.{Home}
use Rattle.cdk_homes.specs.declared.target.Home.TheVariants as ways
use Rattle.cdk_homes.specs.declared.target.Spelling.{Spelling}
use Rattle.cdk_homes.specs.declared.target.Spelling.TheVariants as spellings

abbrev pub entry_view : Entry → homes.Entry
entry_view e = record { consumer = e.consumer; at = e.target.at; attribute = e.target.attribute; name = e.name; how = e.how }

abbrev pub spelling_view : Spelling → List ℕ × Home
spelling_view (spellings.Local s) = (s.now, ways.Local)
spelling_view (spellings.Import s) = (s.now, ways.Import)
spelling_view (spellings.ImportList s) = (s.now, ways.ImportList)
