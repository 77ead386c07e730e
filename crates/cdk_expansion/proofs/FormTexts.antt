-- No list marker begins in the text of pieces: `#{Token[` has no `$`, and a text marker has no `#`.
use Rattle.std.proofs.Common.{◌≡◌, ℕ, List, [], ◌∷◌, ◌++◌, map, drop, Bool, true, false, not, codes, nat_eq, IsTrue, refl, sym, ap, ◌∙◌, append_assoc, append-nil, arith}
use Rattle.std.specs.List.{list_all, starts_with}
use Rattle.std.proofs.lemmas.Bool.{and_left, and_parts, and_from, not-true, or_from, or_parts}
use Rattle.std.proofs.lemmas.List.Folds.{list_all-append}
use Rattle.cdk_base.specs.Marker.{begins_marker, has_marker}
use Rattle.cdk_language.specs.Runs.{is_marked_run}
use Rattle.cdk_markers.specs.Key.{ends_in_number, is_key, is_key_byte, text_marker}
use Rattle.cdk_markers.specs.Pieces.{Piece, literal, key, joined}
use Rattle.cdk_expansion.specs.Pieces.{HaveKeys, piece_literal}
use Rattle.cdk_expansion.proofs.CutLists.{has_no_dollar, starts_before_dollar}
use Rattle.cdk_tokens.specs.Values.{holds}

-- a text in which no marker begins holds neither beginning
pub unmarked_holds_none : (s : List ℕ) → has_marker s ≡ false → (holds (codes "${Token[") s ≡ false) × (holds (codes "#{Token[") s ≡ false)
unmarked_holds_none [] free = (refl, refl)
unmarked_holds_none (x ∷ s) free =
    let parts = or_parts (begins_marker (x ∷ s)) (has_marker s) free in
    let first = or_parts (starts_with nat_eq (x ∷ s) (codes "${Token[")) (starts_with nat_eq (x ∷ s) (codes "#{Token[")) (parts.0) in
    let rest = unmarked_holds_none s (parts.1) in (or_from _ _ (first.0) (rest.0), or_from _ _ (first.1) (rest.1))

-- what has no `$` is held by a text before a `$`, or from it on
holds_before_dollar : (run rest p : List ℕ) → has_no_dollar p ≡ true → holds p run ≡ false → holds p (36 ∷ rest) ≡ false → holds p (run ++ 36 ∷ rest) ≡ false
holds_before_dollar [] rest p none before from = from
holds_before_dollar (x ∷ run) rest p none before from =
    let parts = or_parts (starts_with nat_eq (x ∷ run) p) (holds p run) before in
    or_from _ _ (starts_before_dollar (x ∷ run) rest p none ∙ parts.0) (holds_before_dollar run rest p none (parts.1) from)

abbrev has_no_hash : List ℕ → Bool
has_no_hash s = list_all (λ x. not (nat_eq 35 x)) s

-- no list marker begins in what has no `#`
holds_after : (s rest : List ℕ) → has_no_hash s ≡ true → holds (codes "#{Token[") rest ≡ false → holds (codes "#{Token[") (s ++ rest) ≡ false
holds_after [] rest none after = after
holds_after (x ∷ s) rest none after =
    let parts = and_parts (not (nat_eq 35 x)) (has_no_hash s) none in
    or_from _ _ (and_left (nat_eq 35 x) _ (not-true (nat_eq 35 x) (parts.0))) (holds_after s rest (parts.1) after)

key_byte_no_hash : (x : ℕ) → is_key_byte x ≡ true → not (nat_eq 35 x) ≡ true
key_byte_no_hash x byte = grind arith

key_bytes_no_hash : (k : List ℕ) → list_all is_key_byte k ≡ true → has_no_hash k ≡ true
key_bytes_no_hash [] bytes = refl
key_bytes_no_hash (x ∷ k) bytes =
    let parts = and_parts (is_key_byte x) (list_all is_key_byte k) bytes in
    and_from _ _ (key_byte_no_hash x (parts.0)) (key_bytes_no_hash k (parts.1))

marker_no_hash : (k : List ℕ) → IsTrue (is_key k) → has_no_hash (text_marker k) ≡ true
marker_no_hash k right =
    list_all-append (λ x. not (nat_eq 35 x)) k (codes "]}")
    ∙ and_from _ _ (key_bytes_no_hash k ((and_parts (list_all is_key_byte k) (ends_in_number k) right).0)) refl

-- `run` is the run so far
pub pieces_hold_no_list : (ps : List Piece) (run : List ℕ) → HaveKeys ps → is_marked_run run (map piece_literal ps) ≡ false → holds (codes "#{Token[") (run ++ joined ps) ≡ false
pieces_hold_no_list [] run keys free = ap (holds (codes "#{Token[")) (append-nil run) ∙ (unmarked_holds_none run free).1
pieces_hold_no_list (literal s ∷ ps) run keys free = ap (holds (codes "#{Token[")) (sym (append_assoc run s (joined ps))) ∙ pieces_hold_no_list ps (run ++ s) keys free
pieces_hold_no_list (key k ∷ ps) run keys free =
    let parts = or_parts (has_marker run) (is_marked_run [] (map piece_literal ps)) free in
    let rest : holds (codes "#{Token[") (joined ps) ≡ false = pieces_hold_no_list ps [] (keys.1) (parts.1) in
    holds_before_dollar run (drop 1 (joined (key k ∷ ps))) (codes "#{Token[") refl ((unmarked_holds_none run (parts.0)).1) (holds_after (text_marker k) (joined ps) (marker_no_hash k (keys.0)) rest)
