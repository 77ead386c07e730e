use Rattle.std.proofs.Common.{◌≡◌, option_map, drop}
use Rattle.serde_json.specs.View.{items_view, members_view}
use Rattle.cdk_language.specs.Application.{constructs_from, children_in}
use Rattle.cdk_constructs.proofs.ConstructLemmas.{nodes_before}
use Rattle.cdk_constructs.proofs.constructs.+constructs.Given as goal

abbrev pub invariant-constructs_from-loop-item : goal.invariant-constructs_from-loop-item
invariant-constructs_from-loop-item l =
    constructs_from (items_view l.item-items) ≡ option_map (nodes_before l.found) (constructs_from (items_view (drop l.item-index l.item-items)))

abbrev pub invariant-children_of-loop-key : goal.invariant-children_of-loop-key
invariant-children_of-loop-key l = children_in (members_view l.members.entries) ≡ children_in (members_view l.key-iterator)
