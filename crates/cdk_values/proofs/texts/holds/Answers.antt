use Rattle.std.proofs.Common.{◌≡◌, ◌+◌, ◌-◌, ℕ, List, ◌∷◌, false, drop, take, length, get_or, sym, ap, ◌∙◌, arith}
use Rattle.std.proofs.lemmas.List.{drop_more, length-drop}
use Rattle.std.proofs.Math.Seq.{take-length}
use Rattle.std.specs.Prelude.{◌||◌, nat_eq}
use Rattle.std.specs.List.{starts_with}
use Rattle.cdk_tokens.specs.Values.{holds}
use Rattle.cdk_values.proofs.texts.holds.Goals as goal

step : (p : List ℕ) (x : ℕ) (xs : List ℕ) → starts_with nat_eq (x ∷ xs) p ≡ false → holds p (x ∷ xs) ≡ holds p xs
step p x xs e = ap (λ b. b || holds p xs) e

pub loop-at-preserved : goal.loop-at-preserved
loop-at-preserved c =
    let l = c.loop-at in
    let bytes = c.as_bytes-bytes.result.now in
    let part = c.args.part.now in
    let rest = drop (l.at + 1) bytes in
    let here : drop l.at bytes ≡ get_or bytes l.at 0 ∷ rest = drop_more bytes l.at 0 (omega arith) in
    let sliced : take (length bytes - l.at) (drop l.at bytes) ≡ drop l.at bytes = ap (λ n. take n (drop l.at bytes)) (sym (length-drop l.at bytes)) ∙ take-length (drop l.at bytes) in
    let none : starts_with nat_eq (get_or bytes l.at 0 ∷ rest) part ≡ false =
    ap (λ s. starts_with nat_eq s part) (sym here ∙ sym sliced) ∙ ap (starts_with nat_eq (take (length bytes - l.at) (drop l.at bytes))) (sym c.as_bytes.ensures.value) ∙ sym c.if-starts_with.ensures.value in
    l.invariant ∙ ap (holds part) here ∙ step part (get_or bytes l.at 0) rest none
