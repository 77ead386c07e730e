-- The parts of a Sub's text up to its first hole, and then after it.
use Rattle.std.proofs.Common.{◌≡◌, ℕ, zero, suc, List, [], ◌∷◌, ◌++◌, length, drop, map, eqb, Bool, true, false, cond, Option, Some, None, option_map, codes, ◌&&◌, eqb-true, eq-eqb, refl, sym, ap, ◌∙◌, append_assoc, append-nil}
use Rattle.std.specs.List.{starts_with}
use Rattle.std.specs.Str.Pattern.{LacksTextAt}
use Rattle.std.proofs.lemmas.List.{map-append}
use Rattle.cdk_eval.specs.SubText.{SubPart, literal, hole, outside, opening, inside, sub_before, parts_from, sub_parts, at_stop_from, asked, asked_at}
use Rattle.cdk_texts.specs.Around.{around}
use Rattle.cdk_texts.specs.Steps.{part_view, parts_before}
use Rattle.cdk_texts.specs.declared.sub.Part.{Part}
use Rattle.cdk_texts.specs.declared.sub.Part.TheVariants as parts

-- ---- a mark of one byte

byte_at : (a b : ℕ) (t u : Bool) → eqb a b ≡ t → eqb b a ≡ u → t ≡ u
byte_at a b true true e f = refl
byte_at a b false false e f = refl
byte_at a b true false e f = let same : a ≡ b = eqb-true a b e in let back : eqb b a ≡ true = eq-eqb b a (sym same) in cc
byte_at a b false true e f = let same : b ≡ a = eqb-true b a f in let back : eqb a b ≡ true = eq-eqb a b (sym same) in cc

and_true : (b : Bool) → (b && true) ≡ b
and_true true = refl
and_true false = refl

one_mark : (m c : ℕ) (s : List ℕ) → starts_with eqb (c ∷ s) (m ∷ []) ≡ eqb c m
one_mark m c s = and_true (eqb m c) ∙ byte_at m c (eqb m c) (eqb c m) refl refl

-- ---- outside of a hole

abbrev opened_by : List ℕ → List ℕ → Option (List ℕ × List ℕ) → Option (List SubPart)
opened_by part s None = Some (literal (part ++ s) ∷ [])
opened_by part s (Some p) = sub_before (literal (part ++ p.0)) (parts_from inside [] p.1)

opened_later : (part : List ℕ) (c : ℕ) (s : List ℕ) (o : Option (List ℕ × List ℕ)) → opened_by (part ++ c ∷ []) s o ≡ opened_by part (c ∷ s) (option_map (λ p. (c ∷ p.0, p.1)) o)
opened_later part c s None = ap (λ t. Some (literal t ∷ [])) (append_assoc part (c ∷ []) s)
opened_later part c s (Some p) = ap (λ t. sub_before (literal t) (parts_from inside [] p.1)) (append_assoc part (c ∷ []) p.0)

-- a text that begins with `${`
opening_then : (c : ℕ) (s : List ℕ) → starts_with eqb (c ∷ s) (codes "${") ≡ true → parts_from opening [] s ≡ parts_from inside [] (drop 2 (c ∷ s))
opening_then c [] e = absurd (no (eqb 36 c) e)
  where
    no : (b : Bool) → (b && false) ≡ true → ⊥
    no true h = cc
    no false h = cc
opening_then c (x ∷ s) e = refl

opened_at : (part : List ℕ) (c : ℕ) (s : List ℕ) (b : Bool) → starts_with eqb (c ∷ s) (codes "${") ≡ b → parts_from outside (part ++ c ∷ []) s ≡ opened_by (part ++ c ∷ []) s (around (codes "${") s)
    → cond b (sub_before (literal part) (parts_from opening [] s)) (parts_from outside (part ++ c ∷ []) s)
    ≡ opened_by part (c ∷ s) (cond b (Some ([], drop 2 (c ∷ s))) (option_map (λ p. (c ∷ p.0, p.1)) (around (codes "${") s)))
opened_at part c s true e later =
    ap (sub_before (literal part)) (opening_then c s e) ∙ ap (λ t. sub_before (literal t) (parts_from inside [] (drop 2 (c ∷ s)))) (sym (append-nil part))
opened_at part c s false e later = later ∙ opened_later part c s (around (codes "${") s)

pub opened-around : (part s : List ℕ) → parts_from outside part s ≡ opened_by part s (around (codes "${") s)
opened-around part [] = ap (λ t. Some (literal t ∷ [])) (sym (append-nil part))
opened-around part (c ∷ s) = opened_at part c s (starts_with eqb (c ∷ s) (codes "${")) refl (opened-around (part ++ c ∷ []) s)

abbrev closed_by : List ℕ → Option (List ℕ × List ℕ) → Option (List SubPart)
closed_by part None = None
closed_by part (Some p) = sub_before (hole (part ++ p.0)) (parts_from outside [] p.1)

closed_later : (part : List ℕ) (c : ℕ) (o : Option (List ℕ × List ℕ)) → closed_by (part ++ c ∷ []) o ≡ closed_by part (option_map (λ p. (c ∷ p.0, p.1)) o)
closed_later part c None = refl
closed_later part c (Some p) = ap (λ t. sub_before (hole t) (parts_from outside [] p.1)) (append_assoc part (c ∷ []) p.0)

closed_at : (part : List ℕ) (c : ℕ) (s : List ℕ) (b m : Bool) → m ≡ b → parts_from inside (part ++ c ∷ []) s ≡ closed_by (part ++ c ∷ []) (around (codes "}") s)
    → cond b (sub_before (hole part) (parts_from outside [] s)) (parts_from inside (part ++ c ∷ []) s)
    ≡ closed_by part (cond m (Some ([], s)) (option_map (λ p. (c ∷ p.0, p.1)) (around (codes "}") s)))
closed_at part c s true true e later = ap (λ t. sub_before (hole t) (parts_from outside [] s)) (sym (append-nil part))
closed_at part c s false true e later = cc
closed_at part c s true false e later = cc
closed_at part c s false false e later = later ∙ closed_later part c (around (codes "}") s)

pub closed-around : (part s : List ℕ) → parts_from inside part s ≡ closed_by part (around (codes "}") s)
closed-around part [] = refl
closed-around part (c ∷ s) = closed_at part c s (eqb c 125) (starts_with eqb (c ∷ s) (codes "}")) (one_mark 125 c s) (closed-around (part ++ c ∷ []) s)

-- ---- the first full stop

abbrev stop_by : List ℕ → Option (List ℕ × List ℕ) → Option (List ℕ × List ℕ)
stop_by part o = option_map (λ p. (part ++ p.0, p.1)) o

stop_later : (part : List ℕ) (c : ℕ) (o : Option (List ℕ × List ℕ)) → stop_by (part ++ c ∷ []) o ≡ stop_by part (option_map (λ p. (c ∷ p.0, p.1)) o)
stop_later part c None = refl
stop_later part c (Some p) = ap (λ t. Some (t, p.1)) (append_assoc part (c ∷ []) p.0)

stop_at : (part : List ℕ) (c : ℕ) (s : List ℕ) (b m : Bool) → m ≡ b → at_stop_from (part ++ c ∷ []) s ≡ stop_by (part ++ c ∷ []) (around (codes ".") s)
    → cond b (Some (part, s)) (at_stop_from (part ++ c ∷ []) s) ≡ stop_by part (cond m (Some ([], s)) (option_map (λ p. (c ∷ p.0, p.1)) (around (codes ".") s)))
stop_at part c s true true e later = ap (λ t. Some (t, s)) (sym (append-nil part))
stop_at part c s false true e later = cc
stop_at part c s true false e later = cc
stop_at part c s false false e later = later ∙ stop_later part c (around (codes ".") s)

stop_around : (part s : List ℕ) → at_stop_from part s ≡ stop_by part (around (codes ".") s)
stop_around part [] = refl
stop_around part (c ∷ s) = stop_at part c s (eqb c 46) (starts_with eqb (c ∷ s) (codes ".")) (one_mark 46 c s) (stop_around (part ++ c ∷ []) s)

same_pair : (o : Option (List ℕ × List ℕ)) → stop_by [] o ≡ o
same_pair None = refl
same_pair (Some p) = refl

pub stop-around : (s : List ℕ) → at_stop_from [] s ≡ around (codes ".") s
stop-around s = stop_around [] s ∙ same_pair (around (codes ".") s)

-- ---- what a hole asks for

not_spelled_at : (c : ℕ) (s : List ℕ) (b : Bool) → eqb c 33 ≡ b → LacksTextAt (codes "!") (c ∷ s) 0 → asked (c ∷ s) ≡ asked_at (c ∷ s) (at_stop_from [] (c ∷ s))
not_spelled_at c s true e lacks = absurd (lacks s (ap (λ x. x ∷ s) (eqb-true c 33 e)))
not_spelled_at c s false e lacks = rw e refl

pub not_spelled : (s : List ℕ) → LacksTextAt (codes "!") s 0 → asked s ≡ asked_at s (around (codes ".") s)
not_spelled [] lacks = refl
not_spelled (c ∷ s) lacks = not_spelled_at c s (eqb c 33) refl lacks ∙ ap (asked_at (c ∷ s)) (stop-around (c ∷ s))

-- ---- the parts so far

module _ (text rest : List ℕ) (ps qs : List Part) where
  pub parts_done : sub_parts text ≡ parts_before ps (sub_parts rest) → None ≡ around (codes "${") rest → (p : Part) → part_view p ≡ literal rest → qs ≡ ps ++ p ∷ [] → Some (map part_view qs) ≡ sub_parts text
  parts_done so_far none p seen pushed =
      ap (λ q. Some (map part_view q)) pushed ∙ ap Some (map-append part_view ps (p ∷ []) ∙ ap (λ x. map part_view ps ++ x ∷ []) seen)
      ∙ ap (parts_before ps) (ap (opened_by [] rest) none ∙ sym (opened-around [] rest)) ∙ sym so_far

  pub parts_open : sub_parts text ≡ parts_before ps (sub_parts rest) → (p : List ℕ × List ℕ) → Some p ≡ around (codes "${") rest → None ≡ around (codes "}") p.1 → None ≡ sub_parts text
  parts_open so_far p found none =
      ap (λ o. parts_before ps (sub_before (literal p.0) o)) (ap (closed_by []) none ∙ sym (closed-around [] p.1))
      ∙ ap (parts_before ps) (ap (opened_by [] rest) found ∙ sym (opened-around [] rest)) ∙ sym so_far

  both_more : (l h : Part) (o : Option (List SubPart)) → qs ≡ (ps ++ l ∷ []) ++ h ∷ [] → parts_before ps (sub_before (part_view l) (sub_before (part_view h) o)) ≡ parts_before qs o
  both_more l h None pushed = refl
  both_more l h (Some rs) pushed =
      ap Some (sym (ap (λ q. map part_view q ++ rs) pushed ∙ ap (λ q. q ++ rs) (map-append part_view (ps ++ l ∷ []) (h ∷ []) ∙ ap (λ q. q ++ part_view h ∷ []) (map-append part_view ps (l ∷ [])))
      ∙ append_assoc (map part_view ps ++ part_view l ∷ []) (part_view h ∷ []) rs ∙ append_assoc (map part_view ps) (part_view l ∷ []) (part_view h ∷ rs)))

  pub parts_more : sub_parts text ≡ parts_before ps (sub_parts rest) → (p q : List ℕ × List ℕ) (l h : Part) → Some p ≡ around (codes "${") rest → Some q ≡ around (codes "}") p.1
      → part_view l ≡ literal p.0 → part_view h ≡ hole q.0 → qs ≡ (ps ++ l ∷ []) ++ h ∷ [] → sub_parts text ≡ parts_before qs (sub_parts q.1)
  parts_more so_far p q l h found closed seen_l seen_h pushed =
      so_far ∙ ap (parts_before ps) (opened-around [] rest ∙ ap (opened_by [] rest) (sym found) ∙ ap (sub_before (literal p.0)) (closed-around [] p.1 ∙ ap (closed_by []) (sym closed)))
      ∙ ap (λ x. parts_before ps (sub_before x (sub_before (hole q.0) (sub_parts q.1)))) (sym seen_l) ∙ ap (λ x. parts_before ps (sub_before (part_view l) (sub_before x (sub_parts q.1)))) (sym seen_h)
      ∙ both_more l h (sub_parts q.1) pushed
