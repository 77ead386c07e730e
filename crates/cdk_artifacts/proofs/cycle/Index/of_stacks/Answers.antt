use Rattle.std.proofs.Common.{◌≡◌, ◌+◌, ◌-◌, ◌∷◌, Bool, true, false, cond, drop, map, Bor, Option, Some, refl, sym, ap, ◌∙◌, arith}
use Rattle.std.specs.Prelude.{bytes_eq, if◌then◌else◌}
use Rattle.std.proofs.lemmas.List.{drop_more}
use Rattle.std.proofs.lemmas.Map.Text.{btree_map_updates_str}
use Rattle.cdk_eval.specs.Manifest.{dependencies_of}
use Rattle.cdk_artifacts.specs.declared.stacks.Stack.{Stack}
use Rattle.cdk_artifacts.specs.Found.{stack_view, texts_of}
use Rattle.cdk_artifacts.specs.Ways.{dependencies_in}
use Rattle.cdk_artifacts.proofs.cycle.Index.of_stacks.Goals as goal

one_more : (b : Bool) (s : Bor Stack) (o : Option (Bor Stack)) → dependencies_in (cond b (Some s) o) ≡ (if b then texts_of s.now.dependencies.items else dependencies_in o)
one_more true s o = refl
one_more false s o = refl

pub loop-number-preserved : goal.loop-number-preserved
loop-number-preserved c n =
    let stacks = c.args.stacks.now in
    let i = c.loop-number.number - 1 in
    let x = c.index-stacks-number.result in
    let more : i + 1 ≡ c.loop-number.number = omega arith in
    let here : drop i stacks ≡ x ∷ drop (i + 1) stacks = drop_more stacks i x (omega arith) ∙ ap (λ y. y ∷ drop (i + 1) stacks) (sym c.index-stacks-number.is) in
    let rest : drop i stacks ≡ x ∷ drop c.loop-number.number stacks = here ∙ ap (λ m. x ∷ drop m stacks) more in
    ap dependencies_in (btree_map_updates_str x.id.now c.loop-number.by_id c.insert.new.self _ c.in_ok-insert.ensures.updates n)
    ∙ one_more (bytes_eq x.id.now n) _ _
    ∙ ap (λ r. if bytes_eq x.id.now n then texts_of x.dependencies.items else r) (c.loop-number.invariant n)
    ∙ sym (ap (λ ss. dependencies_of (map stack_view ss) n) rest)
