-- The pieces of a Sub's text, one after another.
use Rattle.std.proofs.Common.{◌≡◌, ◌+◌, sym, ℕ, zero, suc, ◌<◌, ◌≤◌, List, [], ◌∷◌, length, drop, eqb, Bool, true, false, cond, Option, Some, None, option_map, codes, refl, ap, ◌∙◌, arith, length-drop, ◌++◌, subst, get_or, append_assoc, length-append}
use Rattle.std.specs.List.{starts_with}
use Rattle.std.specs.Str.{IsUtf8}
use Rattle.std.proofs.Math.Seq.{get_or-append_seam}
use Rattle.std.proofs.lemmas.Bool.Decides.{Decides-eqb}
use Rattle.std.proofs.lemmas.List.{drop_at}
use Rattle.std.proofs.lemmas.Slice.Eq.{starts_is}
use Rattle.std.proofs.lemmas.Str.{IsUtf8-drop, IsCharBoundary-after_ascii}
use Rattle.cdk_language.specs.Sub.{Piece, FirstPiece, no_piece, wrong_piece, first_piece, around, piece_of, piece_between, closed, opened, first_piece_of, with_rest, literal_before, cut, pieces_of}

-- ---- what stands after a mark is shorter

after_here : (b : Bool) (mark : List ℕ) (x : ℕ) (xs : List ℕ) (o : Option (List ℕ × List ℕ)) (p : List ℕ × List ℕ) → 0 < length mark
    → ((q : List ℕ × List ℕ) → o ≡ Some q → length q.1 < length xs)
    → cond b (Some ([], drop (length mark) (x ∷ xs))) (option_map (λ q. (x ∷ q.0, q.1)) o) ≡ Some p → length p.1 < length (x ∷ xs)
after_here true mark x xs o p low h e =
    let same : drop (length mark) (x ∷ xs) ≡ p.1 = cc in
    omega (arith, ap length same, length-drop (length mark) (x ∷ xs))
after_here false mark x xs None p low h e = absurd (cc)
after_here false mark x xs (Some q) p low h e =
    let same : q.1 ≡ p.1 = cc in
    omega (arith, ap length same, h q refl)

pub around-shorter : (mark s : List ℕ) (p : List ℕ × List ℕ) → 0 < length mark → around mark s ≡ Some p → length p.1 < length s
around-shorter mark [] p low e = absurd (cc)
around-shorter mark (x ∷ xs) p low e = after_here (starts_with eqb (x ∷ xs) mark) mark x xs (around mark xs) p low (λ q. around-shorter mark xs q low) e

between_shorter : (o : Option Piece) (b rest : List ℕ) (before : List ℕ) (p : Piece) (after : List ℕ) → piece_between b o rest ≡ first_piece before p after → rest ≡ after
between_shorter None b rest before p after e = absurd (cc)
between_shorter (Some q) b rest before p after e = cc

closed_shorter : (o : Option (List ℕ × List ℕ)) (b s : List ℕ) (before : List ℕ) (p : Piece) (after : List ℕ) → ((q : List ℕ × List ℕ) → o ≡ Some q → length q.1 < length s)
    → closed b o ≡ first_piece before p after → length after < length s
closed_shorter None b s before p after h e = absurd (cc)
closed_shorter (Some q) b s before p after h e = omega (arith, ap length (between_shorter (piece_of q.0) b q.1 before p after e), h q refl)

opened_shorter : (o : Option (List ℕ × List ℕ)) (s : List ℕ) (before : List ℕ) (p : Piece) (after : List ℕ) → ((q : List ℕ × List ℕ) → o ≡ Some q → length q.1 < length s)
    → opened o ≡ first_piece before p after → length after < length s
opened_shorter None s before p after h e = absurd (cc)
opened_shorter (Some q) s before p after h e =
    omega (arith, h q refl, closed_shorter (around (codes "}") q.1) q.0 q.1 before p after (λ r. around-shorter (codes "}") q.1 r (omega arith)) e)

-- the text after a piece is shorter
pub after-shorter : (s before : List ℕ) (p : Piece) (after : List ℕ) → first_piece_of s ≡ first_piece before p after → length after < length s
after-shorter s before p after e = opened_shorter (around (codes "${") s) s before p after (λ q. around-shorter (codes "${") s q (omega arith)) e

-- ---- any bound that is large enough gives the same pieces

same_rest : (f : FirstPiece) (s : List ℕ) (g h : List ℕ → Option (List Piece)) → ((before : List ℕ) (p : Piece) (after : List ℕ) → f ≡ first_piece before p after → g after ≡ h after)
    → with_rest g s f ≡ with_rest h s f
same_rest no_piece s g h e = refl
same_rest wrong_piece s g h e = refl
same_rest (first_piece before p after) s g h e = ap (option_map (λ ps. literal_before before (p ∷ ps))) (e before p after refl)

pub cut-bound : (n m : ℕ) (s : List ℕ) → length s ≤ n → length s ≤ m → cut n s ≡ cut m s
cut-bound zero zero s h k = refl
cut-bound zero (suc m) [] h k = refl
cut-bound zero (suc m) (x ∷ xs) h k = absurd (omega arith)
cut-bound (suc n) zero [] h k = refl
cut-bound (suc n) zero (x ∷ xs) h k = absurd (omega arith)
cut-bound (suc n) (suc m) s h k =
    same_rest (first_piece_of s) s (cut n) (cut m) (λ before p after e. let less : length after < length s = after-shorter s before p after e in cut-bound n m after (omega arith) (omega arith))

-- ---- the pieces of a text by its first

pieces_of_bound : (s : List ℕ) (n : ℕ) → length s ≤ n → pieces_of s ≡ cut (suc n) s
pieces_of_bound s n h = cut-bound (length s) (suc n) s (omega arith) (omega arith)

pub pieces-literal : (s : List ℕ) → first_piece_of s ≡ no_piece → pieces_of s ≡ Some (literal_before s [])
pieces-literal s e = pieces_of_bound s (length s) (omega arith) ∙ ap (with_rest (cut (length s)) s) e

pub pieces-wrong : (s : List ℕ) → first_piece_of s ≡ wrong_piece → pieces_of s ≡ None
pieces-wrong s e = pieces_of_bound s (length s) (omega arith) ∙ ap (with_rest (cut (length s)) s) e

pub pieces-step : (s before : List ℕ) (p : Piece) (after : List ℕ) → first_piece_of s ≡ first_piece before p after → pieces_of s ≡ option_map (λ ps. literal_before before (p ∷ ps)) (pieces_of after)
pieces-step s before p after e =
    let less : length after < length s = after-shorter s before p after e in
    pieces_of_bound s (length s) (omega arith) ∙ ap (with_rest (cut (length s)) s) e
    ∙ ap (option_map (λ ps. literal_before before (p ∷ ps))) (cut-bound (length s) (length after) after (omega arith) (omega arith))

-- ---- the rest of a text is text

parts_here : (b : Bool) (mark : List ℕ) (x : ℕ) (xs : List ℕ) (o : Option (List ℕ × List ℕ)) (p : List ℕ × List ℕ) → starts_with eqb (x ∷ xs) mark ≡ b
    → ((q : List ℕ × List ℕ) → o ≡ Some q → xs ≡ q.0 ++ (mark ++ q.1))
    → cond b (Some ([], drop (length mark) (x ∷ xs))) (option_map (λ q. (x ∷ q.0, q.1)) o) ≡ Some p → x ∷ xs ≡ p.0 ++ (mark ++ p.1)
parts_here true mark x xs o p t h e =
    let same : ([], drop (length mark) (x ∷ xs)) ≡ p = cc in
    (starts_is Decides-eqb (x ∷ xs) mark _ refl).0 t ∙ ap (λ q. q.0 ++ (mark ++ q.1)) same
parts_here false mark x xs None p t h e = absurd (cc)
parts_here false mark x xs (Some q) p t h e =
    let same : (x ∷ q.0, q.1) ≡ p = cc in
    ap (λ r. x ∷ r) (h q refl) ∙ ap (λ r. r.0 ++ (mark ++ r.1)) same

pub around-parts : (mark s : List ℕ) (p : List ℕ × List ℕ) → around mark s ≡ Some p → s ≡ p.0 ++ (mark ++ p.1)
around-parts mark [] p e = absurd (cc)
around-parts mark (x ∷ xs) p e = parts_here (starts_with eqb (x ∷ xs) mark) mark x xs (around mark xs) p refl (λ q. around-parts mark xs q) e

-- what comes after an ASCII byte is text
after_ascii : (front : List ℕ) (c : ℕ) (back : List ℕ) → c < 128 → IsUtf8 (front ++ c ∷ back) → IsUtf8 back
after_ascii front c back low u =
    let s = front ++ c ∷ back in
    let byte : get_or s (length front) 0 ≡ c = get_or-append_seam front c back 0 in
    let inside : length front < length s = omega (arith, length-append front (c ∷ back)) in
    let rest : drop (length front + 1) s ≡ back = ap (drop (length front + 1)) (sym (append_assoc front (c ∷ []) back)) ∙ drop_at (front ++ c ∷ []) back (length front + 1) (length-append front (c ∷ [])) in
    subst IsUtf8 rest (IsUtf8-drop s (length front + 1) u (IsCharBoundary-after_ascii s (length front) u inside (omega arith)))

closed_text : (o : Option (List ℕ × List ℕ)) (b s : List ℕ) (before : List ℕ) (p : Piece) (after : List ℕ) → ((q : List ℕ × List ℕ) → o ≡ Some q → IsUtf8 q.1)
    → closed b o ≡ first_piece before p after → IsUtf8 after
closed_text None b s before p after h e = absurd (cc)
closed_text (Some q) b s before p after h e = subst IsUtf8 (between_shorter (piece_of q.0) b q.1 before p after e) (h q refl)

after_brace : (s : List ℕ) (r : List ℕ × List ℕ) → IsUtf8 s → around (codes "}") s ≡ Some r → IsUtf8 r.1
after_brace s r u e = after_ascii r.0 125 r.1 (omega arith) (subst IsUtf8 (around-parts (codes "}") s r e) u)

after_opening : (s : List ℕ) (r : List ℕ × List ℕ) → IsUtf8 s → around (codes "${") s ≡ Some r → IsUtf8 r.1
after_opening s r u e = after_ascii [] 123 r.1 (omega arith) (after_ascii r.0 36 (123 ∷ r.1) (omega arith) (subst IsUtf8 (around-parts (codes "${") s r e) u))

opened_text : (o : Option (List ℕ × List ℕ)) (before : List ℕ) (p : Piece) (after : List ℕ) → ((q : List ℕ × List ℕ) → o ≡ Some q → IsUtf8 q.1)
    → opened o ≡ first_piece before p after → IsUtf8 after
opened_text None before p after h e = absurd (cc)
opened_text (Some q) before p after h e = closed_text (around (codes "}") q.1) q.0 q.1 before p after (λ r. after_brace q.1 r (h q refl)) e

pub after-text : (s before : List ℕ) (p : Piece) (after : List ℕ) → IsUtf8 s → first_piece_of s ≡ first_piece before p after → IsUtf8 after
after-text s before p after u e = opened_text (around (codes "${") s) before p after (λ q. after_opening s q u) e
