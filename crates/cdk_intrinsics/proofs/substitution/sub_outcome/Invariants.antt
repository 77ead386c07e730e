use Rattle.std.proofs.Common.{◌≡◌, drop, map, string_bytes}
use Rattle.cdk_texts.specs.Steps.{part_view}
use Rattle.cdk_scopes.specs.Scopes.{scope_view}
use Rattle.cdk_intrinsics.specs.Substitution.{look, items_by, joined_items, finish}
use Rattle.cdk_intrinsics.proofs.substitution.sub_outcome.Given as goal

abbrev pub invariant-loop-part : goal.invariant-loop-part
invariant-loop-part l =
    joined_items (items_by (scope_view l.scope) (look l.named) (map part_view l.parts)) ≡ finish l.has_text (string_bytes l.text) (items_by (scope_view l.scope) (look l.named) (map part_view (drop l.part-index l.parts)))
