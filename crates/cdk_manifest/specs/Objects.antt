-- Parts of JSON objects, and the constructs that they are made of.
use Rattle.std.specs.Prelude.{ℕ, List, [], ◌∷◌, Bool, if◌then◌else◌, Option, Some, None}
use Rattle.serde_json.specs.Data.{Data, string, object, Items, no_items, item, Members, no_members, member, put}

-- the member where it is given, before the rest
abbrev pub if_given : List ℕ → Option Data → Members → Members
if_given k None rest = rest
if_given k (Some d) rest = member k d rest

-- the object of these members, where there are any
abbrev pub unless_empty : Members → Option Data
unless_empty no_members = None
unless_empty (member k d ms) = Some (object (member k d ms))

abbrev pub texts : List (List ℕ) → Items
texts [] = no_items
texts (t ∷ ts) = item (string t) (texts ts)

-- the entries of constructs put in, one after another, by their names
abbrev pub filled : (ℕ → List ℕ) → (ℕ → Data) → List ℕ → Members → Members
filled name entry [] ms = ms
filled name entry (n ∷ ns) ms = filled name entry ns (put (name n) (entry n) ms)

-- the entry of one construct put in, if it has one
abbrev pub put_where : (ℕ → List ℕ) → (ℕ → Data) → (ℕ → Bool) → ℕ → Members → Members
put_where name entry test n ms = if test n then put (name n) (entry n) ms else ms
