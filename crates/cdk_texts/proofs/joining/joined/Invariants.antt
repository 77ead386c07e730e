use Rattle.std.proofs.Common.{◌≡◌, ◌++◌, drop, option_map, string_bytes}
use Rattle.serde_json.specs.View.{items_view}
use Rattle.cdk_eval.specs.Texts.{item_texts, join_with, with_before}
use Rattle.cdk_texts.proofs.joining.joined.Given as goal

abbrev pub invariant-loop-item : goal.invariant-loop-item
invariant-loop-item l =
    option_map (join_with l.delimiter) (item_texts (items_view l.items)) ≡ option_map (λ ts. string_bytes l.text ++ with_before l.delimiter ts) (item_texts (items_view (drop l.item-index l.others)))
