use Rattle.std.proofs.Common.{◌≡◌, ◌+◌, [], ◌∷◌, drop, get_or, Bor, List, ℕ, sym, subst, arith}
use Rattle.std.proofs.lemmas.List.{drop_more, drop_all}
use Rattle.cdk_eval.specs.Reach.{IsIn}
use Rattle.cdk_eval.proofs.Reach.{bytes_same}
use Rattle.cdk_artifacts.specs.Found.{has_name}
use Rattle.cdk_artifacts.specs.Found.{texts_of}
use Rattle.cdk_artifacts.specs.Ways.{AreSeen}
use Rattle.cdk_artifacts.proofs.Search.{in_at, grows_more, seen_more}
use Rattle.cdk_artifacts.proofs.cycle.push_all.Goals as goal

pub returns-then-eq : goal.returns-then-eq
returns-then-eq c =
    let none : Bor (List ℕ) = record { ref_ptr = (0, 0); now = [] } in
    let x = get_or c.args.dependencies.now c.loop-id.id-index none in
    subst (λ (n : List ℕ). IsIn n (texts_of c.args.dependencies.now)) (bytes_same x.now c.args.goal.now (sym c.if-eq.ensures)) (in_at c.args.dependencies.now c.loop-id.id-index none (omega arith))

pub loop-id-preserved : goal.loop-id-preserved
loop-id-preserved c =
    let l = c.loop-id in
    let i = l.id-index in
    let none : Bor (List ℕ) = record { ref_ptr = (0, 0); now = [] } in
    let x = get_or c.args.dependencies.now i none in
    let here : drop i c.args.dependencies.now ≡ x ∷ drop (i + 1) c.args.dependencies.now = drop_more c.args.dependencies.now i none (omega arith) in
    let g = c.in_ok-push_unseen.ensures in (
      grows_more (texts_of c.args.dependencies.now) x.now _ _ _ _ _ _ (in_at c.args.dependencies.now i none (omega arith)) l.invariant.0 g.0,
      λ t more rest. l.invariant.1 t (λ n h. more n (g.0.more n h))
          (subst (λ ns. AreSeen c.args.goal.now t (texts_of ns)) (sym here) (seen_more c.args.goal.now t x.now (texts_of (drop (i + 1) c.args.dependencies.now)) (sym c.if-eq.ensures) (more x.now g.1) rest)),
    )

pub returns : goal.returns
returns c =
    let l = c.loop-id in
    (l.invariant.0, l.invariant.1 (has_name l.seen) (λ n h. h) (subst (λ ns. AreSeen c.args.goal.now (has_name l.seen) (texts_of ns)) (sym (drop_all l.id-index c.args.dependencies.now (omega arith))) (λ n i. absurd i)))
