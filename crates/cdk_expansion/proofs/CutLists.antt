-- A text of pieces is no list marker: `#{Token[` has no `$`, so it would stand whole in the first run of literals.
use Rattle.std.proofs.Common.{◌≡◌, ℕ, ◌&&◌, ◌==◌, List, [], ◌∷◌, ◌++◌, map, drop, Bool, true, false, not, codes, nat_eq, None, if◌then◌else◌, refl, sym, ap, ◌∙◌, append_assoc, append-nil}
use Rattle.std.specs.List.{list_all, starts_with}
use Rattle.std.proofs.lemmas.Bool.{and_parts, or_parts, and_left, not-true}
use Rattle.cdk_base.specs.Marker.{begins_marker, has_marker}
use Rattle.cdk_language.specs.Runs.{is_marked_run}
use Rattle.cdk_markers.specs.ListKey.{key_closed, list_text_key}
use Rattle.cdk_markers.specs.Pieces.{Piece, literal, key, joined}
use Rattle.cdk_expansion.specs.Pieces.{piece_literal, HaveKeys}

abbrev pub has_no_dollar : List ℕ → Bool
has_no_dollar p = list_all (λ x. not (x == 36)) p

-- what begins before a `$` and has none ends before it
pub starts_before_dollar : (run rest p : List ℕ) → has_no_dollar p ≡ true → starts_with nat_eq (run ++ (36 ∷ rest)) p ≡ starts_with nat_eq run p
starts_before_dollar [] rest [] none = refl
starts_before_dollar [] rest (y ∷ p) none = and_left (nat_eq y 36) _ (not-true (nat_eq y 36) ((and_parts (not (y == 36)) (has_no_dollar p) none).0))
starts_before_dollar (x ∷ run) rest [] none = refl
starts_before_dollar (x ∷ run) rest (y ∷ p) none = ap (λ b. nat_eq y x && b) (starts_before_dollar run rest p ((and_parts (not (y == 36)) (has_no_dollar p) none).1))

abbrev begins_list : List ℕ → Bool
begins_list s = starts_with nat_eq s (codes "#{Token[")

unmarked_no_list : (s : List ℕ) → has_marker s ≡ false → begins_list s ≡ false
unmarked_no_list [] free = refl
unmarked_no_list (x ∷ s) free =
    (or_parts (starts_with nat_eq (x ∷ s) (codes "${Token[")) (begins_list (x ∷ s)) ((or_parts (begins_marker (x ∷ s)) (has_marker s) free).0)).1

-- `run` is the run so far
begins_no_list : (ps : List Piece) (run : List ℕ) → is_marked_run run (map piece_literal ps) ≡ false → begins_list (run ++ joined ps) ≡ false
begins_no_list [] run free = ap begins_list (append-nil run) ∙ unmarked_no_list run free
begins_no_list (literal s ∷ ps) run free = ap begins_list (sym (append_assoc run s (joined ps))) ∙ begins_no_list ps (run ++ s) free
begins_no_list (key k ∷ ps) run free =
    starts_before_dollar run (drop 1 (joined (key k ∷ ps))) (codes "#{Token[") refl
    ∙ unmarked_no_list run ((or_parts (has_marker run) (is_marked_run [] (map piece_literal ps)) free).0)

no_list_key : (s : List ℕ) → begins_list s ≡ false → list_text_key s ≡ None
no_list_key s e = ap (λ b. if b then key_closed (drop 8 s) else None) e

pub no_list_text : (ps : List Piece) → HaveKeys ps → is_marked_run [] (map piece_literal ps) ≡ false → list_text_key (joined ps) ≡ None
no_list_text ps keys free = no_list_key (joined ps) (begins_no_list ps [] free)
