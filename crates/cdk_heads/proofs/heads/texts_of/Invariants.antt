use Rattle.std.proofs.Common.{◌≡◌, ◌++◌, option_map, drop}
use Rattle.serde_json.specs.View.{items_view}
use Rattle.cdk_language.specs.Application.{texts_of}
use Rattle.cdk_heads.proofs.heads.texts_of.Given as goal

abbrev pub invariant-loop-item : goal.invariant-loop-item
invariant-loop-item l = texts_of (items_view l.item-items) ≡ option_map (λ ts. l.found ++ ts) (texts_of (items_view (drop l.item-index l.item-items)))
