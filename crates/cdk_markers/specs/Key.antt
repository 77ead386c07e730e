-- The keys of tokens: a token's key is its hint, `.` and its number in decimals.
use Rattle.std.specs.Prelude.{ℕ, ◌==◌, ◌||◌, ◌&&◌, List, [], ◌∷◌, ◌++◌, length, Bool, false, not, codes}
use Rattle.std.specs.List.{list_all}
use Rattle.std.specs.Char.{is_ascii_alphanumeric, is_ascii_digit}
use Rattle.serde_json.specs.Data.{Data, string, array, no_items, item}

-- a character that a key may hold: `A-Z a-z 0-9 : . _ -`
abbrev pub is_key_byte : ℕ → Bool
is_key_byte x = is_ascii_alphanumeric x || ((x == 58) || ((x == 46) || ((x == 95) || (x == 45))))

-- one or more digits
abbrev pub is_number : List ℕ → Bool
is_number s = not (length s == 0) && list_all is_ascii_digit s

-- `.` and a number stand at the end
abbrev pub ends_in_number : List ℕ → Bool
ends_in_number [] = false
ends_in_number (x ∷ xs) = ((x == 46) && is_number xs) || ends_in_number xs

-- the form of a key
abbrev pub is_key : List ℕ → Bool
is_key s = list_all is_key_byte s && ends_in_number s

-- how the token of the key is written inside a text: `${Token[KEY]}`
abbrev pub text_marker : List ℕ → List ℕ
text_marker k = codes "${Token[" ++ (k ++ codes "]}")

-- how the token of the key is written as a list: `["#{Token[KEY]}"]`
abbrev pub list_marker : List ℕ → Data
list_marker k = array (item (string (codes "#{Token[" ++ (k ++ codes "]}"))) no_items)
