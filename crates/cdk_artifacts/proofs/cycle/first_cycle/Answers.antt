use Rattle.std.proofs.Common.{◌≡◌, ◌+◌, ◌∷◌, cond, Some, drop, map, sym, ap, ◌∙◌, arith}
use Rattle.std.specs.Prelude.{find, option_map}
use Rattle.std.proofs.lemmas.List.{drop_more}
use Rattle.cdk_eval.specs.Manifest.{comes_back}
use Rattle.cdk_artifacts.specs.Found.{stack_view}
use Rattle.cdk_artifacts.proofs.cycle.first_cycle.Goals as goal

pub returns-then-branch : goal.returns-then-branch
returns-then-branch c =
    let stacks = c.args.stacks.now in
    let ss = map stack_view stacks in
    let i = c.loop-stack.stack-index in
    let x = c.stack-item.result in
    let here : drop i stacks ≡ x ∷ drop (i + 1) stacks = drop_more stacks i x (omega arith) ∙ ap (λ y. y ∷ drop (i + 1) stacks) (sym c.stack-item.is) in
    let found = sym (c.in_ok-is_cyclic.ensures ss c.in_ok-index.ensures c.requires) ∙ c.if-branch.true in
    sym (ap (option_map (λ s. s.id)) (c.loop-stack.invariant ∙ ap (λ ys. find (λ s. comes_back ss s.id) (map stack_view ys)) here ∙ ap (λ b. cond b (Some (stack_view x)) (find (λ s. comes_back ss s.id) (map stack_view (drop (i + 1) stacks)))) found))

pub loop-stack-preserved : goal.loop-stack-preserved
loop-stack-preserved c =
    let stacks = c.args.stacks.now in
    let ss = map stack_view stacks in
    let i = c.loop-stack.stack-index in
    let x = c.stack-item.result in
    let here : drop i stacks ≡ x ∷ drop (i + 1) stacks = drop_more stacks i x (omega arith) ∙ ap (λ y. y ∷ drop (i + 1) stacks) (sym c.stack-item.is) in
    let found = sym (c.in_ok-is_cyclic.ensures ss c.in_ok-index.ensures c.requires) ∙ c.if-branch.false in
    c.loop-stack.invariant ∙ ap (λ ys. find (λ s. comes_back ss s.id) (map stack_view ys)) here ∙ ap (λ b. cond b (Some (stack_view x)) (find (λ s. comes_back ss s.id) (map stack_view (drop (i + 1) stacks)))) found
