use Rattle.std.proofs.Common.{◌≡◌, ℕ, ◌+◌, ◌*◌, ◌-◌, ◌/◌, ◌<◌, ◌≤◌, ◌^◌, List, [], ◌∷◌, drop, get_or, sym, ap, ◌∙◌, arith}
use Rattle.std.specs.Prelude.{fold}
use Rattle.std.proofs.lemmas.Bool.{le-ltb}
use Rattle.std.proofs.lemmas.List.{drop_more}
use Rattle.cdk_eval.specs.Texts.{digits_value}
use Rattle.cdk_texts.proofs.index.value_of.Goals as goal

-- decimals that go on give no less
grows : (n : ℕ) (s : List ℕ) → n ≤ fold (λ n c. n * 10 + (c - 48)) n s
grows n [] = omega arith
grows n (c ∷ s) = let more : n * 10 + (c - 48) ≤ fold (λ n c. n * 10 + (c - 48)) (n * 10 + (c - 48)) s = grows (n * 10 + (c - 48)) s in omega (arith, more)

beyond : (v d m : ℕ) → 2 ^ 64 ≤ m + d + 1 → m / 10 < v → 2 ^ 64 ≤ v * 10 + d
beyond v d m low h = omega arith

pub returns-then-value-digit : goal.returns-then-value-digit
returns-then-value-digit c =
    let v = c.loop-digit.value in
    let items = c.as_bytes-digit-items.result.now in
    let i = c.loop-digit.digit-index in
    let x = get_or items i 0 in
    let rest = drop (i + 1) items in
    let here : drop i items ≡ x ∷ rest = drop_more items i 0 (omega arith) in
    let all : digits_value c.args.digits.now ≡ fold (λ n c. n * 10 + (c - 48)) (v * 10 + (x - 48)) rest = c.loop-digit.invariant ∙ ap (fold (λ n c. n * 10 + (c - 48)) v) here in
    let more : v * 10 + (x - 48) ≤ fold (λ n c. n * 10 + (c - 48)) (v * 10 + (x - 48)) rest = grows (v * 10 + (x - 48)) rest in
    let large : 2 ^ 64 ≤ v * 10 + (x - 48) = beyond v (x - 48) (18446744073709551615 - c.from-digit.result) (omega (arith, c.from-digit.ensures, c.saturating_sub.ensures)) c.if-value-digit.true in
    le-ltb (digits_value c.args.digits.now) (2 ^ 64) (omega (arith, all, more, large))
