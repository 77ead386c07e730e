use Rattle.std.proofs.Common.{◌≡◌, ◌+◌, ◌∷◌, drop, filter, sym, ap, ◌∙◌, arith}
use Rattle.std.proofs.lemmas.List.{drop_more}
use Rattle.serde_json.specs.Find.{as_str}
use Rattle.serde_json.specs.View.{view, items_view}
use Rattle.cdk_eval.specs.Manifest.{texts_in}
use Rattle.cdk_artifacts.specs.Found.{has_name}
use Rattle.cdk_artifacts.proofs.Onward.{moved, kept_split}
use Rattle.cdk_artifacts.proofs.stacks.dependencies.Goals as goal

pub loop-dependency-preserved : goal.loop-dependency-preserved
loop-dependency-preserved c =
    let l = c.loop-dependency in
    let i = l.dependency-index in
    let known = has_name c.args.ids.now in
    let xs = c.deref-dependency-items.result.now in
    let x = c.dependency-item.result in
    let here : drop i xs ≡ x ∷ drop (i + 1) xs = drop_more xs i x (omega arith) ∙ ap (λ y. y ∷ drop (i + 1) xs) (sym c.dependency-item.is) in
    let rest = texts_in (items_view (drop (i + 1) xs)) in
    let split = ap (λ ys. filter known (texts_in (items_view ys))) here ∙ kept_split known (as_str (view x)) rest in
    moved _ _ _ _ _ (filter known rest) l.invariant split c.in_ok-push_known.ensures
