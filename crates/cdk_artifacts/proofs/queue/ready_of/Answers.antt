use Rattle.std.proofs.Common.{◌≡◌, ◌+◌, [], ◌∷◌, ◌++◌, false, length, take, map, sym, ap, ◌∙◌, arith}
use Rattle.std.specs.Prelude.{◌||◌, ◌&&◌, nat_eq}
use Rattle.std.proofs.lemmas.List.{take_more}
use Rattle.cdk_artifacts.specs.Found.{stack_view, texts_of}
use Rattle.cdk_artifacts.specs.Queued.{value_at}
use Rattle.cdk_artifacts.proofs.Counting.{test_step, views_push, views_length, texts_count}
use Rattle.cdk_artifacts.proofs.queue.ready_of.Goals as goal

pub loop-number-preserved : goal.loop-number-preserved
loop-number-preserved c k =
    let stacks = c.args.stacks.now in
    let i = c.loop-number.number in
    let x = c.index-stacks-number.result in
    let here : take (i + 1) stacks ≡ take i stacks ++ x ∷ [] = take_more stacks i x (omega arith) ∙ ap (λ y. take i stacks ++ y ∷ []) (sym c.index-stacks-number.is) in
    let count : c.len.result ≡ length (texts_of x.dependencies.items) = omega (arith, texts_count x.dependencies.items) in
    c.in_ok-put_if.ensures k
    ∙ ap (λ b. b || (nat_eq c.len.result 0 && nat_eq i k)) (c.loop-number.invariant k)
    ∙ ap (λ m. value_at false (λ s. nat_eq (length s.dependencies) 0) (map stack_view (take i stacks)) k || (nat_eq m 0 && nat_eq i k)) count
    ∙ sym (ap (λ ss. value_at false (λ s. nat_eq (length s.dependencies) 0) ss k) (views_push stacks i x here)
    ∙ test_step (λ s. nat_eq (length s.dependencies) 0) (map stack_view (take i stacks)) (stack_view x) i k (views_length stacks i (omega arith)))
