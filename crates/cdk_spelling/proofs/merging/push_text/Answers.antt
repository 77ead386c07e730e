use Rattle.std.proofs.Common.{◌≡◌, [], string_bytes, sym, ap, ◌∙◌}
use Rattle.serde_json.specs.View.{items_view}
use Rattle.serde_json.specs.declared.value.Value.{String}
use Rattle.cdk_spelling.proofs.JoinLemmas.{view-String}
use Rattle.cdk_spelling.proofs.MergeLemmas.{is_nothing, is_something, no_text_pushed, on_ok, text_pushed}
use Rattle.cdk_spelling.proofs.merging.push_text.Goals as goal

pub returns-then-is_empty : goal.returns-then-is_empty
returns-then-is_empty c =
    no_text_pushed (items_view c.args.items.now.items) (string_bytes c.args.text) (sym c.as_str.ensures.value ∙ is_nothing c.as_str.result.now (sym c.is_empty.ensures ∙ c.if-is_empty.true))

pub returns : goal.returns
returns c =
    let t = string_bytes c.args.text in
    let some = λ (e : t ≡ []). is_something c.as_str.result.now (sym c.is_empty.ensures ∙ c.if-is_empty.false) (c.as_str.ensures.value ∙ e) in
    on_ok c.push.result (λ h. ap items_view h ∙ text_pushed c.args.items.now.items (String c.args.text) t (view-String c.args.text) some) c.push.ensures.ok
