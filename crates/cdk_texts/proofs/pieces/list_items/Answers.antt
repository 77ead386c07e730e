use Rattle.std.proofs.Common.{[], ap, ◌∙◌, codes, rules, arith, sym}
use Rattle.serde_json.specs.Data.{string}
use Rattle.cdk_eval.specs.Texts.{list_items, trimmed, trimmed_items}
use Rattle.cdk_texts.proofs.Cutting.{cut-last, cut-first, items_done, items_more}
use Rattle.cdk_texts.proofs.pieces.list_items.Goals as goal

pub returns-in-None : goal.returns-in-None
returns-in-None c =
    items_done list_items c.args.text.now c.parts.rest.now c.parts.items.items _ _ (trimmed c.parts.rest.now) c.parts.invariant.1
    (ap trimmed_items (cut-last (codes ",") c.parts.rest.now (omega arith) c.in-None.ensures.value))
    (c.in_ok-text_value-in-None.ensures ∙ ap string c.trimmed.ensures) c.in_ok-push-in-None.ensures.items

pub parts-preserved : goal.parts-preserved
parts-preserved c = (
  search rules,
  items_more list_items c.args.text.now c.parts.rest.now c.parts.items.items _ _ (trimmed c.in-Some.before.now) c.in-Some.after.now c.parts.invariant.1
      (ap trimmed_items (cut-first (codes ",") c.parts.rest.now (c.in-Some.before.now, c.in-Some.after.now) (omega arith) c.in-Some.ensures.value))
      (c.in_ok-text_value-in-Some.ensures ∙ ap string c.trimmed-in-Some.ensures) c.in_ok-push-in-Some.ensures.items,
)
