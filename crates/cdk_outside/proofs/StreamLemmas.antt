-- What is appended or taken in pieces is so at once.
use Rattle.std.proofs.Common.{◌≡◌, ◌≤◌, ℕ, Option, Some, None, List, ◌++◌, length, take, drop, sym, ap, ◌∙◌, append_assoc, ◌+◌, ◌-◌, arith, length-append, length-drop}
use Rattle.std.proofs.lemmas.List.{take_all, length-take}
use Rattle.std.proofs.Math.Seq.{take-add}
use Rattle.std.specs.Io.KnownBytes.{Appends, Consumes}
use Rattle.cdk_outside.specs.Streams.{TakesAtMost}

pub appends_more : (a b c : Option (List ℕ)) (xs ys : List ℕ) → Appends a b xs → Appends b c ys → Appends a c (xs ++ ys)
appends_more None b c xs ys h k = tt
appends_more (Some a) None c xs ys h k = absurd h
appends_more (Some a) (Some b) None xs ys h k = absurd k
appends_more (Some a) (Some b) (Some c) xs ys h k = k ∙ ap (λ s. s ++ ys) h ∙ append_assoc a xs ys

consumes_more : (a b c : Option (List ℕ)) (xs ys : List ℕ) → Consumes a b xs → Consumes b c ys → Consumes a c (xs ++ ys)
consumes_more None b c xs ys h k = tt
consumes_more (Some a) None c xs ys h k = absurd h
consumes_more (Some a) (Some b) None xs ys h k = absurd k
consumes_more (Some a) (Some b) (Some c) xs ys h k = h ∙ ap (λ s. xs ++ s) k ∙ sym (append_assoc xs ys c)

-- the first bytes, and then the first of those that are left
pub take_next : (bytes : List ℕ) (done n : ℕ) → take done bytes ++ take n (take (length bytes - done) (drop done bytes)) ≡ take (done + n) bytes
take_next bytes done n =
    let whole = take_all (length bytes - done) (drop done bytes) (omega (arith, length-drop done bytes)) in
    ap (λ rest. take done bytes ++ take n rest) whole ∙ sym (take-add done n bytes)

-- one read more, of no more than what was left up to the limit and one byte
pub takes_more : (a b c : Option (List ℕ)) (all piece : List ℕ) (n limit : ℕ) → Consumes a b all → Consumes b c (take n piece) → length all ≤ limit → n ≤ limit - length all + 1 → TakesAtMost (limit + 1) a c
takes_more a b c all piece n limit before now short few =
    (all ++ take n piece, consumes_more a b c all (take n piece) before now, omega (arith, short, few, length-append all (take n piece), length-take n piece))
