use Rattle.std.proofs.Common.{◌≡◌, ◌++◌, option_map, drop}
use Rattle.serde_json.specs.View.{items_view}
use Rattle.cdk_language.specs.Application.{entries_of}
use Rattle.cdk_heads.specs.Views.{entries_view}
use Rattle.cdk_heads.proofs.heads.entries_of.Given as goal

abbrev pub invariant-loop-item : goal.invariant-loop-item
invariant-loop-item l = entries_of (items_view l.item-items) ≡ option_map (λ es. entries_view l.found ++ es) (entries_of (items_view (drop l.item-index l.item-items)))
