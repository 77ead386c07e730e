-- The unique id of components (AWS CDK's makeUniqueId): the rules as functions on lists of texts.
use Rattle.std.specs.Prelude.{ℕ, ◌+◌, ◌/◌, ◌%◌, List, [], ◌∷◌, ◌++◌, length, take, filter, flat_map, Bool, not, codes, nat_lt, nat_le, nat_eq, if◌then◌else◌, Option, Some, None}
use Rattle.std.specs.Char.{is_ascii_alphanumeric}
use Rattle.std.specs.List.{ends_with, join_with_byte}
use Rattle.std.specs.Str.{bytes_eq}
use Rattle.md5.specs.Md5.{md5}

-- a component `Default` is hidden: it counts nowhere in the name
abbrev pub is_visible : List ℕ → Bool
is_visible c = not (bytes_eq c (codes "Default"))

abbrev pub visible : List (List ℕ) → List (List ℕ)
visible cs = filter is_visible cs

-- the letters and digits of ASCII alone
abbrev pub alphanumerics : List ℕ → List ℕ
alphanumerics c = filter is_ascii_alphanumeric c

-- ---- the hash

abbrev pub upper_digit : ℕ → ℕ
upper_digit n = if nat_lt n 10 then 48 + n else 55 + n

-- a byte's two hex digits, upper case
abbrev pub upper_hex : ℕ → List ℕ
upper_hex b = upper_digit (b / 16) ∷ upper_digit (b % 16) ∷ []

-- the first 8 hex digits of a text's MD5
abbrev pub hash : List ℕ → List ℕ
hash text = flat_map upper_hex (take 4 (md5 text))

-- ---- the human part

-- the components of which none is an end of the one that was taken before it, where `last` was the first taken
abbrev pub unrepeated_after : List ℕ → List (List ℕ) → List (List ℕ)
unrepeated_after last [] = []
unrepeated_after last (c ∷ cs) = if ends_with nat_eq last c then unrepeated_after last cs else c ∷ unrepeated_after c cs

-- the same of all: the first component is always taken
abbrev pub unrepeated : List (List ℕ) → List (List ℕ)
unrepeated [] = []
unrepeated (c ∷ cs) = c ∷ unrepeated_after c cs

-- a component `Resource` is not shown to a human
abbrev pub is_shown : List ℕ → Bool
is_shown c = not (bytes_eq c (codes "Resource"))

abbrev pub human : List (List ℕ) → List ℕ
human cs = take 240 (flat_map alphanumerics (filter is_shown (unrepeated cs)))

-- ---- the name

-- the human part, and the hash of the components joined by `/`
abbrev pub hashed_name : List (List ℕ) → List ℕ
hashed_name cs = human cs ++ hash (join_with_byte 47 cs)

-- the name of visible components: a single one stands for itself where it fits, and none has no name
abbrev pub name_of_visible : List (List ℕ) → Option (List ℕ)
name_of_visible [] = None
name_of_visible (c ∷ []) = Some (if nat_le (length (alphanumerics c)) 255 then alphanumerics c else hashed_name (c ∷ []))
name_of_visible (c ∷ d ∷ cs) = Some (hashed_name (c ∷ d ∷ cs))

abbrev pub unique_id : List (List ℕ) → Option (List ℕ)
unique_id cs = name_of_visible (visible cs)
