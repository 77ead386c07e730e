-- The text of pieces whose keys are those of text tokens, and in whose runs of literals no marker begins, has right markers.
use Rattle.std.proofs.Common.{◌≡◌, ℕ, List, [], ◌∷◌, ◌++◌, map, true, false, not, IsTrue, refl, sym, ap, ◌∙◌, subst, append-nil}
use Rattle.std.specs.Prelude.{⊤}
use Rattle.std.specs.List.{list_all}
use Rattle.std.proofs.lemmas.Bool.{and_from, or_parts}
use Rattle.serde_json.specs.Data.{Data, string}
use Rattle.cdk_base.specs.Marker.{has_marker}
use Rattle.cdk_language.specs.Runs.{is_marked_run}
use Rattle.cdk_markers.specs.Key.{is_key, text_marker}
use Rattle.cdk_markers.specs.Pieces.{Piece, literal, key, joined, begins_with_literal}
use Rattle.cdk_expansion.specs.Pieces.{HaveKeys, merge_literal, merged, piece_literal}
use Rattle.cdk_expansion.proofs.CutAgain.{pieces_are_cut_again}
use Rattle.cdk_expansion.proofs.CutMerged.{merge_literal-append}
use Rattle.cdk_expansion.proofs.FormTexts.{pieces_hold_no_list, unmarked_holds_none}
use Rattle.cdk_tokens.specs.Token.{Token}
use Rattle.cdk_tokens.specs.Values.{has_list_mix, has_unknown_token, is_known_piece, is_text_token}

-- each marker in the value is that of a token of its kind, and a list's marker stands alone
abbrev pub IsFine : List Token → Data → Type 0
IsFine ts d = (has_unknown_token ts d ≡ false) × (has_list_mix d ≡ false)

-- each key is that of a text token
abbrev pub HaveTexts : List Token → List Piece → Type 0
HaveTexts ts [] = ⊤
HaveTexts ts (literal s ∷ ps) = HaveTexts ts ps
HaveTexts ts (key k ∷ ps) = (is_text_token ts k ≡ true) × HaveTexts ts ps

-- before no other literal
known-merge_literal : (ts : List Token) (s : List ℕ) (ps : List Piece) → has_marker s ≡ false → begins_with_literal ps ≡ false → list_all (is_known_piece ts) ps ≡ true
    → list_all (is_known_piece ts) (merge_literal s ps) ≡ true
known-merge_literal ts [] ps free apart all = all
known-merge_literal ts (x ∷ s) [] free apart all = and_from _ _ (ap not ((unmarked_holds_none (x ∷ s) free).0)) all
known-merge_literal ts (x ∷ s) (literal t ∷ ps) free apart all = cc apart
known-merge_literal ts (x ∷ s) (key k ∷ ps) free apart all = and_from _ _ (ap not ((unmarked_holds_none (x ∷ s) free).0)) all

-- `run` is the run so far
known-merged : (ts : List Token) (ps : List Piece) (run : List ℕ) → HaveTexts ts ps → is_marked_run run (map piece_literal ps) ≡ false
    → list_all (is_known_piece ts) (merge_literal run (merged ps)) ≡ true
known-merged ts [] run texts free = known-merge_literal ts run [] free refl refl
known-merged ts (literal s ∷ ps) run texts free =
    let P : List Piece → Type 0 = λ qs. list_all (is_known_piece ts) qs ≡ true in
    subst P (sym (merge_literal-append run s (merged ps))) (known-merged ts ps (run ++ s) texts free)
known-merged ts (key k ∷ ps) run texts free =
    let parts = or_parts (has_marker run) (is_marked_run [] (map piece_literal ps)) free in
    known-merge_literal ts run (key k ∷ merged ps) (parts.0) refl (and_from _ _ (texts.0) (known-merged ts ps [] (texts.1) (parts.1)))

pub pieces_are_fine : (ts : List Token) (ps : List Piece) → HaveKeys ps → HaveTexts ts ps → is_marked_run [] (map piece_literal ps) ≡ false → IsFine ts (string (joined ps))
pieces_are_fine ts ps keys texts free = (
  ap (λ qs. not (list_all (is_known_piece ts) qs)) (pieces_are_cut_again ps keys free) ∙ ap not (known-merged ts ps [] texts free),
  pieces_hold_no_list ps [] keys free,
)

pub unmarked_is_fine : (ts : List Token) (s : List ℕ) → has_marker s ≡ false → IsFine ts (string s)
unmarked_is_fine ts s free = subst (λ t. IsFine ts (string t)) (append-nil s) (pieces_are_fine ts (literal s ∷ []) tt tt free)

pub key_is_fine : (ts : List Token) (k : List ℕ) → IsTrue (is_key k) → is_text_token ts k ≡ true → IsFine ts (string (text_marker k))
key_is_fine ts k right text = subst (λ t. IsFine ts (string t)) (append-nil (text_marker k)) (pieces_are_fine ts (key k ∷ []) (right, tt) (text, tt) refl)
