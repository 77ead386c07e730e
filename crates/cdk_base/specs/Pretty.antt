-- The pretty text of a value that has no float: two spaces a level, keys in order, no newline at the end.
use Rattle.std.specs.Prelude.{◌≡◌, ◌<◌, ◌^◌, ℕ, ◌+◌, List, [], ◌∷◌, ◌++◌, Bool, true, false, if◌then◌else◌, pos, negsuc, ⊤}
use Rattle.std.specs.Ordering.{nat_cmp}
use Rattle.std.specs.declared.cmp.Ordering.TheVariants.{Greater}
use Rattle.std.specs.Cmp.Lexicographic.{slice_cmp}
use Rattle.json.specs.Token.{Token}
use Rattle.json.specs.Print.{quoted, token_text}
use Rattle.json.specs.Layout.{line}
use Rattle.serde_json.specs.Data.{Num, unsigned, negative, float, Data, null, boolean, number, string, array, object, Items, no_items, item, Members, no_members, member}
use Rattle.serde_json.specs.Written.{number_text, comma_if}

abbrev mutual
  -- the value at level n
  pub pretty_value : ℕ → Data → List ℕ
  pretty_value n null = token_text Token.null
  pretty_value n (boolean b) = token_text (Token.boolean b)
  pretty_value n (number x) = number_text x
  pretty_value n (string s) = quoted s
  pretty_value n (array ds) = 91 ∷ pretty_items n false ds
  pretty_value n (object ms) = 123 ∷ pretty_members n false ms

  -- the items and the closing bracket of an array at level n
  pub pretty_items : ℕ → Bool → Items → List ℕ
  pretty_items n later no_items = (if later then line n else []) ++ 93 ∷ []
  pretty_items n later (item d ds) = comma_if later ++ (line (n + 1) ++ (pretty_value (n + 1) d ++ pretty_items n true ds))

  pub pretty_members : ℕ → Bool → Members → List ℕ
  pretty_members n later no_members = (if later then line n else []) ++ 125 ∷ []
  pretty_members n later (member k d ms) = comma_if later ++ (line (n + 1) ++ (quoted k ++ 58 ∷ 32 ∷ (pretty_value (n + 1) d ++ pretty_members n true ms)))

abbrev pub pretty_text : Data → List ℕ
pretty_text = pretty_value 0

-- ---- the values that JSON can hold, with no float

abbrev pub IsWhole : Num → Type 0
IsWhole (unsigned n) = n < 2 ^ 64
IsWhole (negative (pos n)) = ⊥
IsWhole (negative (negsuc n)) = n < 2 ^ 63
IsWhole (float x) = ⊥

-- each key is above k
abbrev pub AllAbove : List ℕ → Members → Type 0
AllAbove k no_members = ⊤
AllAbove k (member l d ms) = (slice_cmp nat_cmp l k ≡ Greater) × AllAbove k ms

-- the keys of each object ascend, and each number is one of these
module _ (IsNumber : Num → Type 0) where
  abbrev mutual
    pub IsOrdered : Data → Type 0
    IsOrdered null = ⊤
    IsOrdered (boolean b) = ⊤
    IsOrdered (number x) = IsNumber x
    IsOrdered (string s) = ⊤
    IsOrdered (array ds) = ItemsAreOrdered ds
    IsOrdered (object ms) = MembersAreOrdered ms

    pub ItemsAreOrdered : Items → Type 0
    ItemsAreOrdered no_items = ⊤
    ItemsAreOrdered (item d ds) = IsOrdered d × ItemsAreOrdered ds

    pub MembersAreOrdered : Members → Type 0
    MembersAreOrdered no_members = ⊤
    MembersAreOrdered (member k d ms) = IsOrdered d × (AllAbove k ms × MembersAreOrdered ms)

abbrev pub IsCanonical : Data → Type 0
IsCanonical = IsOrdered IsWhole

abbrev pub ItemsAreCanonical : Items → Type 0
ItemsAreCanonical = ItemsAreOrdered IsWhole

abbrev pub MembersAreCanonical : Members → Type 0
MembersAreCanonical = MembersAreOrdered IsWhole
