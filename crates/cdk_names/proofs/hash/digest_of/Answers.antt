use Rattle.std.proofs.Common.{◌≡◌, ◌+◌, ◌++◌, [], ◌∷◌, cond, true, drop, sym, ap, ◌∙◌, arith, append_assoc, append-nil}
use Rattle.std.proofs.lemmas.List.{drop_more, drop_all}
use Rattle.md5.specs.Md5.{md5}
use Rattle.cdk_names.specs.Names.{is_visible}
use Rattle.cdk_names.proofs.Parts.{slashed, slashed_visible, slashed_hidden, slashed-join}
use Rattle.cdk_names.proofs.hash.digest_of.Goals.{then-is_visible, else-is_visible}
use Rattle.cdk_names.proofs.hash.digest_of.Goals as goal

pub loop-component-preserved : goal.loop-component-preserved
loop-component-preserved c =
    let l = c.loop-component in
    let xs = c.args.components.now in
    let x = c.component-item.result in
    let t = c.as_str-text.result.now in
    let rest = drop (l.component-index + 1) xs in
    let m = l.invariant.0 in
    let here : drop l.component-index xs ≡ x ∷ rest = drop_more xs l.component-index x (omega arith) ∙ ap (λ y. y ∷ rest) (sym c.component-item.is) in
    let was = ap (λ ys. m ++ slashed l.later ys) (sym here) ∙ l.invariant.2 in
    elim c.if-is_visible.branch [
      | then-is_visible w ↦
          let sep = cond l.later (47 ∷ []) [] in (
            m ++ (sep ++ t),
            rw w.hasher-is (w.absorb.ensures m l.invariant.1),
            ap (λ b. (m ++ (sep ++ t)) ++ slashed b rest) w.later-is ∙ append_assoc m (sep ++ t) (slashed true rest) ∙ ap (λ s. m ++ s) (append_assoc sep t (slashed true rest))
                ∙ ap (λ y. m ++ (sep ++ (y ++ slashed true rest))) c.as_str-text.ensures
                ∙ ap (λ s. m ++ s) (sym (slashed_visible l.later x rest (ap is_visible (sym c.as_str-text.ensures) ∙ sym w.if-is_visible.ensures))) ∙ was,
          )
      | else-is_visible w ↦ (
        m,
        rw w.hasher-is l.invariant.1,
        ap (λ b. m ++ slashed b rest) w.later-is ∙ ap (λ s. m ++ s) (sym (slashed_hidden l.later x rest (ap is_visible (sym c.as_str-text.ensures) ∙ sym w.if-is_visible.ensures))) ∙ was,
      )
    ]

pub returns : goal.returns
returns c =
    let l = c.loop-component in
    let none : drop l.component-index c.args.components.now ≡ [] = drop_all l.component-index c.args.components.now (omega arith) in
    let m = l.invariant.0 in
    let all = sym (append-nil m) ∙ ap (λ ys. m ++ slashed l.later ys) (sym none) ∙ l.invariant.2 ∙ slashed-join c.args.components.now in
    c.finalize.ensures m l.invariant.1 ∙ ap md5 all
