use Rattle.std.proofs.Common.{string_bytes, ap, ◌∙◌}
use Rattle.serde_json.specs.Data.{no_items}
use Rattle.serde_json.specs.View.{view, items_view}
use Rattle.cdk_spelling.specs.Merging.{continued}
use Rattle.cdk_spelling.proofs.MergeLemmas.{items_view-push, on_ok, value_added}
use Rattle.cdk_spelling.proofs.merging.Merging.add_value.Goals as goal

pub returns : goal.returns
returns c =
    let done = items_view c.args.self.now.items.items in
    let closed = items_view c.push_text.new.items.items in
    let all = items_view c.push.new.list.items in
    let before = c.in_ok-push_text.ensures ∙ ap (λ t. continued done (string_bytes t) no_items) c.replace-text.ensures.value in
    let empty = ap string_bytes c.replace-text.ensures.after ∙ c.new.ensures.bytes in
    on_ok c.push.result
    (λ h. value_added done closed all (string_bytes c.args.self.now.text) (string_bytes c.replace-text.new.dest) (view c.args.value) c.requires before (ap items_view h ∙ items_view-push c.push_text.new.items.items c.args.value) empty)
    c.push.ensures.ok
