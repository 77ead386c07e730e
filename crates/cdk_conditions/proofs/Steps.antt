-- How many steps of a walk are left.
use Rattle.std.proofs.Common.{◌≡◌, ℕ, suc, ◌+◌, ◌≤◌, List, length, [], ◌∷◌, ◌++◌, reverse, Bool, true, false, cond, Option, Some, refl, sym, subst, ap, ◌∙◌, arith}
use Rattle.std.specs.Prelude.{is_some}
use Rattle.std.specs.Ordering.{nat_cmp, match_ordering, is_eq}
use Rattle.std.specs.declared.cmp.Ordering.{Ordering}
use Rattle.std.specs.declared.cmp.Ordering.TheVariants.{Less, Equal, Greater}
use Rattle.std.specs.Cmp.Lexicographic.{slice_cmp}
use Rattle.std.proofs.lemmas.List.{reverse-append, length-append}
use Rattle.std.proofs.lemmas.Map.Text.{is_eq-slice_cmp}
use Rattle.serde_json.specs.Data.{Data, Members, no_members, member}
use Rattle.serde_json.specs.Find.{get_member}
use Rattle.cdk_eval.specs.Conditions.{names_in}
use Rattle.cdk_eval.proofs.Reach.{bytes_same}
use Rattle.cdk_conditions.specs.declared.walk.Group.{Group}
use Rattle.cdk_conditions.specs.Walks.{AreJoined, names_left, waiting_left}

-- the last group is put behind the others
pub turned_push : (gs hs : List Group) (g : Group) → hs ≡ gs ++ g ∷ [] → reverse hs ≡ g ∷ reverse gs
turned_push gs hs g e = ap reverse e ∙ reverse-append gs (g ∷ [])

left_at : (a b : Bool) (n x y : ℕ) → (a ≡ true → b ≡ true) → x ≤ y → cond b 0 n + x ≤ cond a 0 n + y
left_at true true n x y h le = omega (arith, le)
left_at true false n x y h le = let f = h refl in cc
left_at false true n x y h le = omega (arith, le)
left_at false false n x y h le = omega (arith, le)

left_more : (p q : List ℕ → Option ℕ) → ((n : List ℕ) → is_some (p n) ≡ true → is_some (q n) ≡ true) → (ms : Members) → names_left q ms ≤ names_left p ms
left_more p q more no_members = omega arith
left_more p q more (member k d ms) = left_at (is_some (p k)) (is_some (q k)) (suc (length (names_in d))) (names_left q ms) (names_left p ms) (more k) (left_more p q more ms)

-- a condition that is entered anew
pub left_less : (p q : List ℕ → Option ℕ) (y : List ℕ) (d : Data) → ((n : List ℕ) → is_some (p n) ≡ true → is_some (q n) ≡ true) → is_some (p y) ≡ false → is_some (q y) ≡ true
    → (ms : Members) → get_member y ms ≡ Some d → names_left q ms + suc (length (names_in d)) ≤ names_left p ms
left_less p q y d more old new no_members found = cc
left_less p q y d more old new (member k e ms) found = at (slice_cmp nat_cmp y k) refl found (left_less p q y d more old new ms)
  where
    cost : ℕ
    cost = suc (length (names_in e))

    later : names_left q ms + suc (length (names_in d)) ≤ names_left p ms → (a b : Bool) → (a ≡ true → b ≡ true) → (cond b 0 cost + names_left q ms) + suc (length (names_in d)) ≤ cond a 0 cost + names_left p ms
    later less true true h = omega (arith, less)
    later less true false h = let f = h refl in cc
    later less false true h = omega (arith, less)
    later less false false h = omega (arith, less)

    here : y ≡ k → e ≡ d → (cond (is_some (q k)) 0 cost + names_left q ms) + suc (length (names_in d)) ≤ cond (is_some (p k)) 0 cost + names_left p ms
    here is same =
        let q_at : is_some (q k) ≡ true = subst (λ (n : List ℕ). is_some (q n) ≡ true) is new in
        let p_at : is_some (p k) ≡ false = subst (λ (n : List ℕ). is_some (p n) ≡ false) is old in
        let length_same : length (names_in d) ≡ length (names_in e) = ap (λ x. length (names_in x)) (sym same) in
        rw (q_at, p_at) (omega (arith, left_more p q more ms, length_same))

    at : (o : Ordering) → slice_cmp nat_cmp y k ≡ o → match_ordering o (get_member y ms) (Some e) (get_member y ms) ≡ Some d → (get_member y ms ≡ Some d → names_left q ms + suc (length (names_in d)) ≤ names_left p ms)
        → (cond (is_some (q k)) 0 cost + names_left q ms) + suc (length (names_in d)) ≤ cond (is_some (p k)) 0 cost + names_left p ms
    at Equal is f less = here (bytes_same y k (sym (is_eq-slice_cmp y k) ∙ ap is_eq is)) (cc)
    at Less is f less = later (less f) (is_some (p k)) (is_some (q k)) (more k)
    at Greater is f less = later (less f) (is_some (p k)) (is_some (q k)) (more k)

pub one_less : (ws vs : List (List ℕ)) (y : List ℕ) → ws ≡ vs ++ y ∷ [] → length ws ≡ suc (length vs)
one_less ws vs y e = omega (arith, ap length e, length-append vs (y ∷ []))

pub joined_left : (b g j : Group) (gs : List Group) → AreJoined b g j → waiting_left (j ∷ gs) ≤ waiting_left (g ∷ b ∷ gs)
joined_left b g j gs joined = omega (arith, joined.waiting.total)
