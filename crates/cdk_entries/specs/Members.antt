-- Members that are there only where they are given (own).
use Rattle.std.specs.Prelude.{ℕ, List, [], ◌∷◌, Option, Some, None}
use Rattle.serde_json.specs.Data.{Data, string, array, object, Items, no_items, item, Members, no_members, member, put}

-- the member where it is given, before the rest
abbrev pub if_given : List ℕ → Option Data → Members → Members
if_given k None rest = rest
if_given k (Some d) rest = member k d rest

-- the same, in its place by its key
abbrev pub put_given : List ℕ → Option Data → Members → Members
put_given k None ms = ms
put_given k (Some d) ms = put k d ms

-- the object of these members, where there are any
abbrev pub unless_empty : Members → Option Data
unless_empty no_members = None
unless_empty (member k d ms) = Some (object (member k d ms))

abbrev pub texts : List (List ℕ) → Items
texts [] = no_items
texts (t ∷ ts) = item (string t) (texts ts)

abbrev pub unless_none : List (List ℕ) → Option Data
unless_none [] = None
unless_none (t ∷ ts) = Some (array (texts (t ∷ ts)))

abbrev pub non_empty : Option (List ℕ) → Option Data
non_empty None = None
non_empty (Some []) = None
non_empty (Some (c ∷ s)) = Some (string (c ∷ s))

-- the members of an object
abbrev pub members_of : Data → Members
members_of (object ms) = ms
members_of d = no_members
