use Rattle.std.proofs.Common.{◌≡◌, ◌+◌, ◌∷◌, ◌++◌, drop, sym, ap, ◌∙◌, arith}
use Rattle.std.proofs.lemmas.List.{drop_more}
use Rattle.serde_json.specs.View.{view, items_view, members_view}
use Rattle.cdk_expansion.specs.Mentions.{keys_in, keys_in_items, keys_in_members}
use Rattle.cdk_tokens.specs.TableView.{tokens_in}
use Rattle.cdk_lazies.specs.MentionGraph.{tokens_by}
use Rattle.cdk_lazies.proofs.Pushed.{tokens_then}
use Rattle.cdk_lazies.proofs.markers.+markers.Goals as goal

pub push_items-loop-item-preserved : goal.push_items-loop-item-preserved
push_items-loop-item-preserved t c =
    let l = c.loop-item in
    let ts = tokens_in c.args.table.now in
    let xs = c.deref-item-items.result.now in
    let x = c.item-item.result in
    let rest = drop (l.item-index + 1) xs in
    let here : drop l.item-index xs ≡ x ∷ rest = drop_more xs l.item-index x (omega arith) ∙ ap (λ y. y ∷ rest) (sym c.item-item.is) in
    l.invariant ∙ ap (λ ys. l.numbers.items ++ tokens_by ts (keys_in_items (items_view ys))) here
    ∙ tokens_then ts l.numbers.items c.push_tokens.new.numbers.items (keys_in (view x)) (keys_in_items (items_view rest)) c.in_ok-push_tokens.ensures

pub push_members-loop-key-preserved : goal.push_members-loop-key-preserved
push_members-loop-key-preserved t c =
    let l = c.loop-key in
    let ts = tokens_in c.args.table.now in
    let left = c.next.new.self in (
      tt,
      tt,
      l.invariant.2 ∙ ap (λ es. l.numbers.items ++ tokens_by ts (keys_in_members (members_view es))) c.in-Some.ensures.steps
          ∙ tokens_then ts l.numbers.items c.push_tokens.new.numbers.items (keys_in (view c.in-Some.member.now)) (keys_in_members (members_view left)) c.in_ok-push_tokens.ensures,
    )
