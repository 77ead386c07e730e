-- Pieces of a text that stand one behind another, as marking puts them in, before literals are joined.
use Rattle.std.specs.Prelude.{◌≡◌, ℕ, List, [], ◌∷◌, ◌++◌, map, false, Option, Some, None, IsTrue, ⊤}
use Rattle.cdk_language.specs.Runs.{is_marked_run}
use Rattle.cdk_markers.specs.Cut.{cut_of}
use Rattle.cdk_markers.specs.Key.{is_key}
use Rattle.cdk_markers.specs.Pieces.{Piece, literal, key, joined}

-- a literal before the others: an empty one is dropped, and one before another is joined with it
abbrev pub merge_literal : List ℕ → List Piece → List Piece
merge_literal [] ps = ps
merge_literal (x ∷ s) (literal t ∷ ps) = literal ((x ∷ s) ++ t) ∷ ps
merge_literal (x ∷ s) ps = literal (x ∷ s) ∷ ps

-- neighbours joined, and empty literals dropped
abbrev pub merged : List Piece → List Piece
merged [] = []
merged (literal s ∷ ps) = merge_literal s (merged ps)
merged (key k ∷ ps) = key k ∷ merged ps

abbrev pub piece_literal : Piece → Option (List ℕ)
piece_literal (literal s) = Some s
piece_literal (key k) = None

abbrev pub HaveKeys : List Piece → Type 0
HaveKeys [] = ⊤
HaveKeys (literal s ∷ ps) = HaveKeys ps
HaveKeys (key k ∷ ps) = IsTrue (is_key k) × HaveKeys ps

-- Where no run of literals holds the beginning of a marker, the text of the pieces is cut into them again.
abbrev pub PiecesAreCutAgain : Type 0
PiecesAreCutAgain = (ps : List Piece) → HaveKeys ps → is_marked_run [] (map piece_literal ps) ≡ false → cut_of (joined ps) ≡ merged ps
