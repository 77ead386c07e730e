use Rattle.std.proofs.Common.{◌≡◌, length}
use Rattle.std.specs.Vec.Iter.{into_iter_items, into_iter_len}
use Rattle.serde_json.specs.View.{items_view}
use Rattle.cdk_plain.specs.Rendered.{merged, spliced}
use Rattle.cdk_spelling.specs.Merging.{continued_by}
use Rattle.cdk_spelling.proofs.joins.merged_parts.Given as goal

abbrev pub invariant-loop-part : goal.invariant-loop-part
invariant-loop-part l =
    (into_iter_len l.part-iterator ≡ length (into_iter_items l.part-iterator))
    × (continued_by l.merging (spliced (items_view (into_iter_items l.part-iterator))) ≡ merged (spliced (items_view l.fn.parts.items)))
