use Rattle.std.proofs.Common.{◌≡◌, ◌+◌, [], ◌∷◌, ◌++◌, take, map, sym, ap, ◌∙◌, arith}
use Rattle.std.specs.Prelude.{nat_eq, if◌then◌else◌}
use Rattle.std.proofs.lemmas.List.{take_more}
use Rattle.cdk_artifacts.specs.Found.{stack_view, texts_of}
use Rattle.cdk_artifacts.specs.Queued.{times, value_at}
use Rattle.cdk_artifacts.proofs.Counting.{count_step, views_push, views_length}
use Rattle.cdk_artifacts.proofs.dependents.Dependents.of_stacks.Goals as goal

pub loop-number-preserved : goal.loop-number-preserved
loop-number-preserved c n k =
    let stacks = c.args.stacks.now in
    let i = c.loop-number.number in
    let x = c.index-stacks-number.result in
    let here : take (i + 1) stacks ≡ take i stacks ++ x ∷ [] = take_more stacks i x (omega arith) ∙ ap (λ y. take i stacks ++ y ∷ []) (sym c.index-stacks-number.is) in
    c.in_ok-put_all.ensures n k
    ∙ ap (λ m. m + (if nat_eq i k then times n (texts_of c.as_slice.result.now) else 0)) (c.loop-number.invariant n k)
    ∙ ap (λ ns. value_at 0 (λ s. times n s.dependencies) (map stack_view (take i stacks)) k + (if nat_eq i k then times n (texts_of ns) else 0)) c.as_slice.ensures.value
    ∙ sym (ap (λ ss. value_at 0 (λ s. times n s.dependencies) ss k) (views_push stacks i x here)
    ∙ count_step (λ s. times n s.dependencies) (map stack_view (take i stacks)) (stack_view x) i k (views_length stacks i (omega arith)))
