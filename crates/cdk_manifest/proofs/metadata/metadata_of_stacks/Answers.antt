use Rattle.std.proofs.Common.{◌≡◌, ◌<◌, ◌+◌, length, ap, ◌∙◌, sym, arith}
use Rattle.std.specs.Prelude.{nat_lt}
use Rattle.cdk_tree.specs.TreeView.{constructs}
use Rattle.cdk_stacks.proofs.Within.{id_is}
use Rattle.cdk_objects.specs.Keys.{metadata_key}
use Rattle.cdk_manifest.specs.Manifest.{element_metadata, is_element_of, telling_of, with_element}
use Rattle.cdk_objects.specs.Maps.{members_at}
use Rattle.cdk_manifest.proofs.FillLemmas.{filled_from, filled_from-next}
use Rattle.cdk_manifest.proofs.metadata.metadata_of_stacks.Goals as goal

pub loop-number-preserved : goal.loop-number-preserved
loop-number-preserved c =
    let cs = constructs c.args.tree.now in
    let t = telling_of cs in
    let n = c.loop-number.number in
    let old = c.loop-number.metadata in
    let new = c.put_element.new.metadata in
    let within : n < length cs = omega (arith, c.len-number-end.ensures) in
    let at : c.in-Some.at ≡ n = id_is (nat_lt n (length cs)) n c.in-Some.at c.in-Some.ensures in (
      c.in_ok-put_element.ensures.count,
      λ stack.
          let put_in : members_at new stack ≡ with_element cs stack n (members_at old stack) =
          c.in_ok-put_element.ensures.members stack ∙ ap (λ k. with_element cs stack k (members_at old stack)) at in
          c.loop-number.invariant.1 stack
          ∙ filled_from-next (metadata_key cs) (element_metadata t) (is_element_of cs stack) n (length cs) (members_at old stack) within
          ∙ ap (filled_from (metadata_key cs) (element_metadata t) (is_element_of cs stack) (n + 1) (length cs)) (sym put_in),
    )
