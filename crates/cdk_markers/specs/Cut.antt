-- The cut of a text, computed.
use Rattle.std.specs.Prelude.{ℕ, zero, suc, ◌+◌, ◌&&◌, List, [], ◌∷◌, drop, length, Option, Some, None, is_some, codes, nat_eq, if◌then◌else◌}
use Rattle.std.specs.List.{starts_with, prefix_len, take_while}
use Rattle.cdk_markers.specs.Key.{is_key_byte, is_key}
use Rattle.cdk_markers.specs.Pieces.{Piece, literal, key, IsCut}

-- the key, where it is one and `]}` comes after it
abbrev pub closed_key : List ℕ → List ℕ → Option (List ℕ)
closed_key k after = if is_key k && starts_with nat_eq after (codes "]}") then Some k else None

-- of what comes after `${Token[`: the key ends at the first character that no key may hold
abbrev pub opened_key : List ℕ → Option (List ℕ)
opened_key s = closed_key (take_while is_key_byte s) (drop (prefix_len is_key_byte s) s)

-- the key of the whole text marker that the text begins with
abbrev pub first_key : List ℕ → Option (List ℕ)
first_key s = if starts_with nat_eq s (codes "${Token[") then opened_key (drop 8 s) else None

-- how many characters of a marker come after its first
abbrev pub marker_rest : Option (List ℕ) → ℕ
marker_rest None = 0
marker_rest (Some k) = length k + 9

abbrev pub literal_before : ℕ → List Piece → List Piece
literal_before x [] = literal (x ∷ []) ∷ []
literal_before x (literal l ∷ ps) = literal (x ∷ l) ∷ ps
literal_before x (key k ∷ ps) = literal (x ∷ []) ∷ (key k ∷ ps)

-- the character begins the marker of the key, or is literal
abbrev pub piece_before : Option (List ℕ) → ℕ → List Piece → List Piece
piece_before None x ps = literal_before x ps
piece_before (Some k) x ps = key k ∷ ps

-- the cut of what comes after the first n characters
abbrev pub cut_after : List ℕ → ℕ → List Piece
cut_after [] n = []
cut_after (x ∷ xs) zero = let k = first_key (x ∷ xs) in piece_before k x (cut_after xs (marker_rest k))
cut_after (x ∷ xs) (suc n) = cut_after xs n

abbrev pub cut_of : List ℕ → List Piece
cut_of s = cut_after s 0

-- how many characters stand before the first whole text marker
abbrev pub literal_len : List ℕ → ℕ
literal_len [] = 0
literal_len (x ∷ xs) = if is_some (first_key (x ∷ xs)) then 0 else 1 + literal_len xs

-- each text has a cut
abbrev pub CutsExist : Type 0
CutsExist = (text : List ℕ) → IsCut text (cut_of text)
