use Rattle.std.proofs.Common.{◌≡◌, ℕ, length}
use Rattle.cdk_tree.specs.TreeView.{constructs}
use Rattle.cdk_objects.specs.Keys.{metadata_key}
use Rattle.cdk_manifest.specs.Manifest.{element_metadata, is_element_of, stack_metadata, telling_of}
use Rattle.cdk_objects.specs.Maps.{count_of, members_at}
use Rattle.cdk_manifest.proofs.FillLemmas.{filled_from}
use Rattle.cdk_manifest.proofs.metadata.metadata_of_stacks.Given as goal

abbrev pub invariant-loop-number : goal.invariant-loop-number
invariant-loop-number l =
    let cs = constructs l.tree in
    let t = telling_of cs in
    (count_of l.metadata ≡ length cs) × ((stack : ℕ) → stack_metadata cs t stack ≡ filled_from (metadata_key cs) (element_metadata t) (is_element_of cs stack) l.number (length cs) (members_at l.metadata stack))
