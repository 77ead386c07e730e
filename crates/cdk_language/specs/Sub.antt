-- The pieces of the text of an `Fn::Sub` (CloudFormation reference), and what each stands for in an application.
use Rattle.std.specs.Prelude.{ℕ, zero, suc, ◌==◌, ◌||◌, ◌&&◌, List, [], ◌∷◌, ◌++◌, length, drop, Bool, not, codes, nat_eq, if◌then◌else◌, Option, Some, None, option_map}
use Rattle.std.specs.List.{starts_with, list_all}
use Rattle.std.specs.Char.{is_ascii_alphanumeric}

pub data Piece : Type 0 where
  literal : List ℕ → Piece
  -- `${X}`
  name : List ℕ → Piece
  -- `${X.A}`
  attribute : List ℕ → List ℕ → Piece

-- an attribute of a resource: 1 or more letters, digits and dots
abbrev pub is_attribute : List ℕ → Bool
is_attribute s = not (length s == 0) && list_all (λ c. is_ascii_alphanumeric c || (c == 46)) s

-- what stands before the first mark, and what stands after it
abbrev pub around : List ℕ → List ℕ → Option (List ℕ × List ℕ)
around mark [] = None
around mark (x ∷ xs) =
    if starts_with nat_eq (x ∷ xs) mark then Some ([], drop (length mark) (x ∷ xs))
    else option_map (λ p. (x ∷ p.0, p.1)) (around mark xs)

-- `${!X}` is the literal `${X}`; else the name is cut at its first dot
abbrev pub cut_name : List ℕ → Option (List ℕ × List ℕ) → Option Piece
cut_name [] cut = None
cut_name (x ∷ xs) (Some p) = if length p.0 == 0 || not (is_attribute p.1) then None else Some (attribute p.0 p.1)
cut_name (x ∷ xs) None = Some (name (x ∷ xs))

-- the piece of what stands between `${` and `}`; none where that is empty, or a path or an attribute is wrong
abbrev pub piece_of : List ℕ → Option Piece
piece_of s =
    if starts_with nat_eq s (codes "!") then Some (literal (codes "${" ++ (drop 1 s ++ codes "}")))
    else cut_name s (around (codes ".") s)

-- a literal piece, but for the empty one
abbrev pub literal_before : List ℕ → List Piece → List Piece
literal_before [] ps = ps
literal_before (x ∷ xs) ps = literal (x ∷ xs) ∷ ps

-- a text up to its first piece: none, a wrong one, or the text before it, the piece, and the text after it
pub data FirstPiece : Type 0 where
  no_piece : FirstPiece
  wrong_piece : FirstPiece
  first_piece : List ℕ → Piece → List ℕ → FirstPiece

abbrev pub piece_between : List ℕ → Option Piece → List ℕ → FirstPiece
piece_between before None rest = wrong_piece
piece_between before (Some p) rest = first_piece before p rest

-- the piece begins at `before` and goes up to the next `}`
abbrev pub closed : List ℕ → Option (List ℕ × List ℕ) → FirstPiece
closed before None = wrong_piece
closed before (Some q) = piece_between before (piece_of q.0) q.1

abbrev pub opened : Option (List ℕ × List ℕ) → FirstPiece
opened None = no_piece
opened (Some p) = closed p.0 (around (codes "}") p.1)

abbrev pub first_piece_of : List ℕ → FirstPiece
first_piece_of s = opened (around (codes "${") s)

abbrev pub with_rest : (List ℕ → Option (List Piece)) → List ℕ → FirstPiece → Option (List Piece)
with_rest rest s no_piece = Some (literal_before s [])
with_rest rest s wrong_piece = None
with_rest rest s (first_piece before p after) = option_map (λ ps. literal_before before (p ∷ ps)) (rest after)

-- the pieces of a text with at most n openings; none where a `}` lacks or a piece is wrong
abbrev pub cut : ℕ → List ℕ → Option (List Piece)
cut zero s = Some (literal_before s [])
cut (suc n) s = with_rest (cut n) s (first_piece_of s)

abbrev pub pieces_of : List ℕ → Option (List Piece)
pieces_of s = cut (length s) s

-- a variable's name: 1 or more letters and digits
abbrev pub is_variable_name : List ℕ → Bool
is_variable_name s = not (length s == 0) && list_all is_ascii_alphanumeric s
