use Rattle.std.proofs.Common.{◌≡◌, ◌+◌, ◌∷◌, ◌++◌, drop, sym, ap, ◌∙◌, append_assoc, arith}
use Rattle.std.proofs.lemmas.List.{drop_more}
use Rattle.std.proofs.lemmas.Result.{IfOk-weaker}
use Rattle.serde_json.specs.View.{view, items_view}
use Rattle.cdk_eval.specs.Conditions.{item_names, names_in, part_names}
use Rattle.cdk_conditions.specs.Kept.{texts_of, form_names}
use Rattle.cdk_conditions.proofs.Forms.{names_of_parts}
use Rattle.cdk_conditions.proofs.names.+names.Goals as goal

pub push_form_names-returns-then-has_parts : goal.push_form_names-returns-then-has_parts
push_form_names-returns-then-has_parts t c =
    let k = c.args.key.now in
    let d = view c.args.part.now in
    let old = texts_of c.args.names.now.items in
    let new = texts_of c.push_part_names.new.names.items in
    IfOk-weaker c.push_part_names.result (λ _. new ≡ old ++ part_names d) (λ _. new ≡ old ++ form_names k d) (λ _ h. h ∙ ap (λ ns. old ++ ns) (sym (names_of_parts k d (sym c.if-has_parts.ensures)))) c.push_part_names.ensures

pub push_part_names-loop-item-preserved : goal.push_part_names-loop-item-preserved
push_part_names-loop-item-preserved t c =
    let l = c.loop-item in
    let i = l.item-index in
    let xs = c.deref-item-items.result.now in
    let x = c.item-item.result in
    let was = texts_of l.names.items in
    let rest = item_names (items_view (drop (i + 1) xs)) in
    let here : drop i xs ≡ x ∷ drop (i + 1) xs = drop_more xs i x (omega arith) ∙ ap (λ y. y ∷ drop (i + 1) xs) (sym c.item-item.is) in
    l.invariant ∙ ap (λ ys. was ++ item_names (items_view ys)) here ∙ sym (append_assoc was (names_in (view x)) rest) ∙ ap (λ ns. ns ++ rest) (sym c.in_ok-push_names.ensures)
