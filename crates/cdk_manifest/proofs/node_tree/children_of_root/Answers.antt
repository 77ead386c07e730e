use Rattle.std.proofs.Common.{◌≡◌, ◌+◌, ◌-◌, ◌<◌, drop, length, ap, ◌∙◌, arith}
use Rattle.std.specs.Prelude.{nat_lt}
use Rattle.serde_json.specs.Data.{no_members}
use Rattle.cdk_stacks.proofs.Within.{id_is}
use Rattle.cdk_tree.specs.Placed.{construct_at}
use Rattle.cdk_tree.specs.TreeView.{constructs}
use Rattle.cdk_objects.specs.Maps.{members_at}
use Rattle.cdk_manifest.specs.TreeFile.{node_of}
use Rattle.cdk_manifest.specs.Values.{attached, attached_from}
use Rattle.cdk_manifest.proofs.TreeLemmas.{attached_from-before}
use Rattle.cdk_manifest.proofs.node_tree.children_of_root.Goals as goal

pub loop-number-preserved : goal.loop-number-preserved
loop-number-preserved c =
    let cs = constructs c.args.tree.now in
    let i = c.loop-number.number - 1 in
    let old = members_at c.loop-number.children in
    let next : i + 1 ≡ c.loop-number.number = omega arith in
    let within : i < length cs = omega (arith, c.len-number.ensures) in
    let at : c.in-Some.at ≡ i = id_is (nat_lt i (length cs)) i c.in-Some.at c.in-Some.ensures in (
      omega arith,
      c.in_ok-attach.ensures.count,
      λ value are k below.
          attached_from-before (node_of value) cs i c.loop-number.number old (members_at c.attach.new.children) k next within (c.loop-number.invariant.2 value are)
          (c.in_ok-attach.ensures.members value are k (omega arith) ∙ ap (λ m. attached (node_of value) m (construct_at cs m) old k) at) below,
    )

pub returns-clause-members : goal.returns-clause-members
returns-clause-members c value are =
    let cs = constructs c.args.tree.now in
    let one : c.loop-number.number ≡ 1 = omega (arith, c.loop-number.invariant.0) in
    c.loop-number.invariant.2 value are 0 (omega arith) ∙ ap (λ m. attached_from (node_of value) m (drop m cs) (λ k. no_members) 0) one
