-- What a new entry changes: its pair has its spelling, and every other pair keeps its own (own).
use Rattle.std.specs.Prelude.{◌≡◌, ℕ, List, [], ◌∷◌, ◌++◌, Option, Some, None}
use Rattle.cdk_homes.specs.Homes.{Entry, spelled, spelling_of}

-- a pair that wasn't put has the spelling of the entry that is put for it
abbrev pub PutIsSpelled : Type 0
PutIsSpelled = (es : List Entry) (e : Entry) → spelled es e.consumer e.at e.attribute ≡ None → spelled (es ++ e ∷ []) e.consumer e.at e.attribute ≡ Some (spelling_of e)

-- a pair of another consumer, of another construct or of another attribute has the spelling that it had, or none
abbrev pub OthersKeepTheirs : Type 0
OthersKeepTheirs = (es : List Entry) (e : Entry) (consumer at : ℕ) (attribute : Option (List ℕ)) → ((e.consumer ≡ consumer) × (e.at ≡ at) × (e.attribute ≡ attribute) → ⊥) → spelled (es ++ e ∷ []) consumer at attribute ≡ spelled es consumer at attribute
