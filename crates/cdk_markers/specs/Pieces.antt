-- What it means that pieces, literals and keys, are the cut of a text.
use Rattle.std.specs.Prelude.{◌≡◌, ◌≢◌, ℕ, List, [], ◌∷◌, ◌++◌, Bool, true, false, IsTrue}
use Rattle.cdk_markers.specs.Key.{is_key, text_marker}

pub data Piece : Type 0 where
  literal : List ℕ → Piece
  key : List ℕ → Piece

abbrev pub spelling : Piece → List ℕ
spelling (literal l) = l
spelling (key k) = text_marker k

-- the spellings of the pieces in a row
abbrev pub joined : List Piece → List ℕ
joined [] = []
joined (p ∷ ps) = spelling p ++ joined ps

-- no whole text marker stands anywhere in the text
abbrev pub HoldsNoMarker : List ℕ → Type 0
HoldsNoMarker s = (a k b : List ℕ) → IsTrue (is_key k) → s ≢ a ++ (text_marker k ++ b)

-- a literal isn't empty and holds no whole text marker, and a key has the form of one
abbrev pub IsPiece : Piece → Type 0
IsPiece (literal l) = (l ≢ []) × HoldsNoMarker l
IsPiece (key k) = IsTrue (is_key k)

abbrev pub ArePieces : List Piece → Type 0
ArePieces [] = Unit {0}
ArePieces (p ∷ ps) = IsPiece p × ArePieces ps

abbrev pub begins_with_literal : List Piece → Bool
begins_with_literal [] = false
begins_with_literal (literal l ∷ ps) = true
begins_with_literal (key k ∷ ps) = false

-- no two literals stand side by side
abbrev pub LiteralsApart : List Piece → Type 0
LiteralsApart [] = Unit {0}
LiteralsApart (literal l ∷ ps) = (begins_with_literal ps ≡ false) × LiteralsApart ps
LiteralsApart (key k ∷ ps) = LiteralsApart ps

-- the pieces are the cut of the text
pub record IsCut (text : List ℕ) (ps : List Piece) : Type 0 where
  pub spelled : joined ps ≡ text
  pub right : ArePieces ps
  pub apart : LiteralsApart ps

-- two cuts of one text are equal
abbrev pub CutsAreUnique : Type 0
CutsAreUnique = (text : List ℕ) (ps qs : List Piece) → IsCut text ps → IsCut text qs → ps ≡ qs
