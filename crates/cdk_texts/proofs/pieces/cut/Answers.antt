use Rattle.std.proofs.Common.{[], rules}
use Rattle.cdk_eval.specs.Texts.{cut}
use Rattle.cdk_texts.proofs.Cutting.{cut-last, cut-first, items_done, items_more}
use Rattle.cdk_texts.proofs.pieces.cut.Goals as goal

pub returns-in-None : goal.returns-in-None
returns-in-None c =
    let d = c.args.delimiter.now in
    items_done (cut d 0 []) c.args.text.now c.parts.rest.now c.parts.items.items _ _ c.parts.rest.now c.parts.invariant.1 (cut-last d c.parts.rest.now c.requires c.in-None.ensures.value) c.in_ok-text_value-in-None.ensures c.in_ok-push-in-None.ensures.items

pub parts-preserved : goal.parts-preserved
parts-preserved c =
    let d = c.args.delimiter.now in (
      search rules,
      items_more (cut d 0 []) c.args.text.now c.parts.rest.now c.parts.items.items _ _ c.in-Some.before.now c.in-Some.after.now c.parts.invariant.1
          (cut-first d c.parts.rest.now (c.in-Some.before.now, c.in-Some.after.now) c.requires c.in-Some.ensures.value) c.in_ok-text_value-in-Some.ensures c.in_ok-push-in-Some.ensures.items,
    )
