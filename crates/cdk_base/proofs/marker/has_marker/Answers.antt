use Rattle.std.proofs.Common.{◌≡◌, ◌+◌, ◌-◌, ℕ, List, ◌∷◌, false, drop, take, length, get_or, sym, ap, ◌∙◌, arith}
use Rattle.std.proofs.lemmas.List.{drop_more, length-drop}
use Rattle.std.proofs.Math.Seq.{take-length}
use Rattle.std.specs.Prelude.{◌||◌}
use Rattle.cdk_base.specs.Marker.{begins_marker, has_marker}
use Rattle.cdk_base.proofs.marker.has_marker.Goals as goal

step : (x : ℕ) (xs : List ℕ) → begins_marker (x ∷ xs) ≡ false → has_marker (x ∷ xs) ≡ has_marker xs
step x xs e = ap (λ b. b || has_marker xs) e

pub loop-at-preserved : goal.loop-at-preserved
loop-at-preserved c =
    let l = c.loop-at in
    let bytes = c.as_bytes-bytes.result.now in
    let rest = drop (l.at + 1) bytes in
    let here : drop l.at bytes ≡ get_or bytes l.at 0 ∷ rest = drop_more bytes l.at 0 (omega arith) in
    let sliced : take (length bytes - l.at) (drop l.at bytes) ≡ drop l.at bytes = ap (λ n. take n (drop l.at bytes)) (sym (length-drop l.at bytes)) ∙ take-length (drop l.at bytes) in
    let none : begins_marker (get_or bytes l.at 0 ∷ rest) ≡ false = ap begins_marker (sym here ∙ sym sliced) ∙ sym c.if-begins_marker.ensures in
    l.invariant ∙ ap has_marker here ∙ step (get_or bytes l.at 0) rest none
