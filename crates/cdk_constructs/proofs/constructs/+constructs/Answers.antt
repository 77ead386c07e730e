use Rattle.std.proofs.Common.{◌≡◌, [], ◌∷◌, ◌+◌, drop, None, option_map, sym, ap, ◌∙◌, arith}
use Rattle.std.proofs.lemmas.List.{drop_more, drop_all}
use Rattle.std.proofs.lemmas.Grind.{common_steps}
use Rattle.serde_json.specs.declared.value.Value.{the_lemmas}
use Rattle.serde_json.specs.Find.{as_object}
use Rattle.serde_json.specs.View.{view as json_view, items_view}
use Rattle.cdk_language.specs.Application.{construct_of, constructs_from}
use Rattle.cdk_constructs.proofs.ConstructLemmas.{nodes_before, read_next_node, all_nodes_read, no_construct}
use Rattle.cdk_constructs.proofs.constructs.+constructs.Goals as goal

pub constructs_from-loop-item-preserved : goal.constructs_from-loop-item-preserved
constructs_from-loop-item-preserved t c =
    let l = c.loop-item in
    let xs = c.deref-item-items.result.now in
    let x = c.item-item.result in
    let here : drop l.item-index xs ≡ x ∷ drop (l.item-index + 1) xs = drop_more xs l.item-index x (omega arith) ∙ ap (λ y. y ∷ drop (l.item-index + 1) xs) (sym c.item-item.is) in
    let rest = constructs_from (items_view (drop (l.item-index + 1) xs)) in
    let was = l.invariant ∙ ap (λ ys. option_map (nodes_before l.found) (constructs_from (items_view ys))) here in
    read_next_node l.found c.in_ok-construct_of.field-0 (construct_of (json_view x)) rest _ was c.in_ok-construct_of.ensures ∙ ap (λ es. option_map (nodes_before es) rest) (sym c.in_ok-push.ensures.ok)

pub constructs_from-returns : goal.constructs_from-returns
constructs_from-returns t c =
    let l = c.loop-item in
    let xs = c.deref-item-items.result.now in
    let none : drop l.item-index xs ≡ [] = drop_all l.item-index xs (omega arith) in
    ap (λ ys. constructs_from (items_view ys)) (sym c.deref-item-items.ensures.value)
    ∙ all_nodes_read l.found _ (l.invariant ∙ ap (λ ys. option_map (nodes_before l.found) (constructs_from (items_view ys))) none)

pub construct_of-returns-in_default : goal.construct_of-returns-in_default
construct_of-returns-in_default t c =
    let v = json_view c.args.value.now in
    let none : as_object v ≡ None = grind (arith, common_steps, the_lemmas) in
    no_construct v none
