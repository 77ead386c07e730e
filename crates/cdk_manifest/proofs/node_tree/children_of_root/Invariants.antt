use Rattle.std.proofs.Common.{◌≡◌, ◌<◌, ◌≤◌, ℕ, drop, length}
use Rattle.serde_json.specs.Data.{Data, no_members}
use Rattle.cdk_language.specs.Expression.{Expression}
use Rattle.cdk_tree.specs.TreeView.{constructs}
use Rattle.cdk_objects.specs.Maps.{count_of, members_at}
use Rattle.cdk_manifest.specs.TreeFile.{node_of}
use Rattle.cdk_manifest.specs.Values.{attached_from, AreProperties}
use Rattle.cdk_manifest.proofs.node_tree.children_of_root.Given as goal

abbrev pub invariant-loop-number : goal.invariant-loop-number
invariant-loop-number l =
    let cs = constructs l.tree in
    (1 ≤ l.number)
    × (count_of l.children ≡ length cs)
    × ((value : ℕ → Expression → Data) → AreProperties l.values value cs → (k : ℕ) → k < l.number → members_at l.children k ≡ attached_from (node_of value) l.number (drop l.number cs) (λ j. no_members) k)
