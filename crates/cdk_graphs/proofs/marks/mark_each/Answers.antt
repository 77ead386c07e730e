use Rattle.std.proofs.Common.{◌≡◌, ◌+◌, ◌<◌, [], ◌∷◌, ◌++◌, length, get_or, take, arith}
use Rattle.std.specs.Prelude.{Contains}
use Rattle.std.proofs.lemmas.List.{take_more}
use Rattle.std.proofs.lemmas.List.Elements.{Contains-get_or}
use Rattle.cdk_graphs.proofs.Marked.{changes_more}
use Rattle.cdk_graphs.proofs.marks.mark_each.Goals as goal

pub set-requires : goal.set-requires
set-requires c =
    let i = c.loop-number.number-index in
    let here : Contains c.args.numbers.now (get_or c.args.numbers.now i 0) = Contains-get_or c.args.numbers.now i 0 (omega arith) in
    omega (arith, c.requires (get_or c.args.numbers.now i 0) here, c.loop-number.invariant.size)

pub loop-number-preserved : goal.loop-number-preserved
loop-number-preserved c =
    let l = c.loop-number in
    let i = l.number-index in
    let numbers = c.args.numbers.now in
    let x = get_or numbers i 0 in
    let here : Contains numbers x = Contains-get_or numbers i 0 (omega arith) in
    let within : x < length l.marks = omega (arith, c.requires x here, l.invariant.size) in
    let more = changes_more (take i numbers) x c.args.mark c.args.marks.now l.marks l.invariant within in
    let taken : take (i + 1) numbers ≡ take i numbers ++ x ∷ [] = take_more numbers i 0 (omega arith) in
    rw (taken, c.set.ensures) more
