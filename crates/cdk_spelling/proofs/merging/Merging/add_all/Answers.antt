use Rattle.std.proofs.Common.{◌≡◌, ◌∷◌, length, sym, ap, ◌∙◌, arith}
use Rattle.std.specs.Vec.Iter.{into_iter_items}
use Rattle.serde_json.specs.View.{items_view}
use Rattle.cdk_plain.specs.Rendered.{and_items}
use Rattle.cdk_spelling.specs.Merging.{continued_by}
use Rattle.cdk_spelling.proofs.merging.Merging.add_all.Goals as goal

pub loop-part-preserved : goal.loop-part-preserved
loop-part-preserved c =
    let l = c.loop-part in
    let rest = into_iter_items c.next.new.self in
    let steps : into_iter_items l.part-iterator ≡ c.in-Some.part ∷ rest = c.in-Some.ensures.steps.0 in (
      let was = l.invariant.0 in
          let gone = c.in-Some.ensures.steps.1 in
          let short = ap length steps in
          omega arith,
      λ more. c.in_ok-add.ensures (and_items (items_view rest) more)
          ∙ ap (λ vs. continued_by l.self (and_items (items_view vs) more)) (sym steps)
          ∙ l.invariant.1 more,
    )
