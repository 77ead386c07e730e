use Rattle.std.proofs.Common.{◌≡◌, ◌+◌, ◌∷◌, ◌++◌, drop, sym, ap, ◌∙◌, arith}
use Rattle.std.proofs.lemmas.List.{drop_more}
use Rattle.cdk_language.specs.Condition.{view as condition_view, conditions_view}
use Rattle.cdk_tokens.specs.TableView.{tokens_in}
use Rattle.cdk_tree.specs.TreeView.{constructs}
use Rattle.cdk_lazies.specs.MentionGraph.{conditions_by, names_in, names_in_all}
use Rattle.cdk_lazies.proofs.Pushed.{conditions_then}
use Rattle.cdk_lazies.proofs.named.+names.Goals as goal

pub push_part_names-loop-part-preserved : goal.push_part_names-loop-part-preserved
push_part_names-loop-part-preserved t c =
    let l = c.loop-part in
    let cs = constructs c.args.tree.now in
    let ts = tokens_in c.args.table.now in
    let xs = c.as_slice-part-items.result.now in
    let x = c.part-item.result in
    let rest = drop (l.part-index + 1) xs in
    let here : drop l.part-index xs ≡ x ∷ rest = drop_more xs l.part-index x (omega arith) ∙ ap (λ y. y ∷ rest) (sym c.part-item.is) in
    l.invariant ∙ ap (λ ys. l.numbers.items ++ conditions_by cs ts (names_in_all (conditions_view ys))) here
    ∙ conditions_then cs ts l.numbers.items c.push_names.new.numbers.items (names_in (condition_view x)) (names_in_all (conditions_view rest)) c.in_ok-push_names.ensures
