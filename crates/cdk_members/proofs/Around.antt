-- Where std's search finds a text, the text is cut around it.
use Rattle.std.proofs.Common.{◌≡◌, ℕ, zero, suc, ◌+◌, ◌<◌, ◌≤◌, List, [], ◌∷◌, ◌++◌, length, take, drop, eqb, true, false, Option, Some, None, option_map, Bor, refl, sym, ap, ap₂, ◌∙◌, arith, length-append}
use Rattle.std.specs.List.{starts_with}
use Rattle.std.specs.Option.{MatchOption}
use Rattle.std.proofs.lemmas.Bool.Decides.{Decides-eqb}
use Rattle.std.specs.Str.Pattern.{FindsText, LacksTextAt, SplitsAroundMatch}
use Rattle.std.proofs.lemmas.Str.Pattern.{starts_text}
use Rattle.std.proofs.lemmas.Slice.Eq.{starts_is}
use Rattle.cdk_language.specs.Sub.{around}

lacking : (mark : List ℕ) (x : ℕ) (xs : List ℕ) → LacksTextAt mark (x ∷ xs) 0 → starts_with eqb (x ∷ xs) mark ≡ false
lacking mark x xs h = sym (starts_text false mark (x ∷ xs) h)

pub around-lacks : (mark s : List ℕ) → ((i : ℕ) → i ≤ length s → LacksTextAt mark s i) → around mark s ≡ None
around-lacks mark [] h = refl
around-lacks mark (x ∷ xs) h = rw (lacking mark x xs (h 0 (omega arith))) (ap (option_map (λ p. (x ∷ p.0, p.1))) (around-lacks mark xs (λ i l. h (suc i) (omega arith))))

pub around-has : (mark s : List ℕ) (i j : ℕ) → 0 < length mark → ((k : ℕ) → k < i → LacksTextAt mark s k) → drop i s ≡ mark ++ drop j s → j ≡ i + length mark → around mark s ≡ Some (take i s, drop j s)
around-has mark [] zero j low h e f = absurd (omega (arith, ap length e, length-append mark (drop j [])))
around-has mark [] (suc i) j low h e f = absurd (omega (arith, ap length e, length-append mark (drop j [])))
around-has mark (x ∷ xs) zero j low h e f =
    let begins : starts_with eqb (x ∷ xs) mark ≡ true = (starts_is Decides-eqb (x ∷ xs) mark _ refl).1 _ e in
    let n : length mark ≡ j = omega arith in
    rw begins (ap (λ k. Some ([], drop k (x ∷ xs))) n)
around-has mark (x ∷ xs) (suc i) zero low h e f = absurd (omega arith)
around-has mark (x ∷ xs) (suc i) (suc j) low h e f =
    rw (lacking mark x xs (h 0 (omega arith))) (ap (option_map (λ p. (x ∷ p.0, p.1))) (around-has mark xs i j low (λ k l. h (suc k) (omega arith)) e (omega arith)))

-- the clause of `split_once` at a text
pub around-split_once : (mark s : List ℕ) (r : Option (Bor (List ℕ) × Bor (List ℕ))) → 0 < length mark
    → MatchOption r (FindsText mark s None) (λ x. SplitsAroundMatch (FindsText mark) s x.0.now x.1.now) → option_map (λ p. (p.0.now, p.1.now)) r ≡ around mark s
around-split_once mark s None low h = sym (around-lacks mark s h)
around-split_once mark s (Some x) low (i, j, found, front, back, order, size, more) = ap Some (ap₂ (λ a b. (a, b)) front back) ∙ sym (around-has mark s i j low found.0 found.1.split found.1.ends)
