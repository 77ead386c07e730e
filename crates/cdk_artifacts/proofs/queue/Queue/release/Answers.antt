use Rattle.std.proofs.Common.{◌≡◌, ℕ, ◌+◌, ◌≤◌, ◌∷◌, drop, get_or, sym, ap, ap₂, subst, ◌∙◌, arith}
use Rattle.std.specs.Prelude.{◌||◌, ◌&&◌, nat_eq, nat_lt}
use Rattle.std.proofs.lemmas.List.{drop_more}
use Rattle.cdk_artifacts.specs.Queued.{plus_if, occurrences, waits, is_queued}
use Rattle.cdk_artifacts.proofs.Counting.{step_enough, step_counted, step_queued}
use Rattle.cdk_artifacts.proofs.queue.Queue.release.Goals as goal

pub loop-number-preserved : goal.loop-number-preserved
loop-number-preserved c =
    let l = c.loop-number in
    let q = l.self in
    let i = l.number-index in
    let xs = c.args.numbers.now in
    let x = get_or xs i 0 in
    let rest = drop (i + 1) xs in
    let here : drop i xs ≡ x ∷ rest = drop_more xs i 0 (omega arith) in
    let step = c.in_ok-release_one.ensures in
    let enough = λ (k : ℕ). let h : plus_if (nat_eq x k) (occurrences k rest) ≤ waits q k = subst (λ ys. occurrences k ys ≤ waits q k) here (l.invariant.enough k) in h in
    record {
      enough = λ k. subst (λ w. occurrences k rest ≤ w) (sym (step.counted k)) (step_enough (nat_eq x k) (occurrences k rest) (waits q k) (enough k));
      counted = λ k.
          ap (λ w. w + occurrences k xs) (step.counted k)
          ∙ step_counted (nat_eq x k) (occurrences k rest) (waits q k) (occurrences k xs) (waits c.args.self.now k) (enough k) (l.invariant.counted k ∙ ap (λ ys. waits c.args.self.now k + occurrences k ys) here);
      queued = λ k.
          ap₂ (λ b w. b || (nat_lt 0 (occurrences k rest) && nat_eq w (occurrences k rest))) (step.queued k) (step.counted k)
          ∙ step_queued (nat_eq x k) (is_queued q k) (occurrences k rest) (waits q k) (enough k)
          ∙ ap (λ ys. is_queued q k || (nat_lt 0 (occurrences k ys) && nat_eq (waits q k) (occurrences k ys))) (sym here) ∙ l.invariant.queued k;
    }
