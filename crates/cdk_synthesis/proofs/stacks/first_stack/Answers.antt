use Rattle.std.proofs.Common.{◌≡◌, ◌<◌, ◌+◌, ◌-◌, length, true, false, sym, ap, ◌∙◌, arith}
use Rattle.std.specs.Prelude.{nat_lt}
use Rattle.std.specs.List.{range_with_len}
use Rattle.cdk_stacks.proofs.Tests.{range_rest}
use Rattle.cdk_stacks.proofs.Within.{id_is}
use Rattle.cdk_tree.specs.Placed.{construct_at, is_stack}
use Rattle.cdk_tree.specs.TreeView.{constructs}
use Rattle.cdk_synthesis.proofs.StackLemmas.{first_among, first_here, first_later}
use Rattle.cdk_synthesis.proofs.stacks.first_stack.Goals as goal

pub returns-then-is_stack : goal.returns-then-is_stack
returns-then-is_stack c =
    let cs = constructs c.args.tree.now in
    let n = c.loop-number.number in
    let within : n < length cs = omega (arith, c.len-number-end.ensures) in
    let at : c.in-Some.at ≡ n = id_is (nat_lt n (length cs)) n c.in-Some.at c.in-Some.ensures in
    let own : is_stack (construct_at cs n).body ≡ true = ap (λ k. is_stack (construct_at cs k).body) (sym at) ∙ ap is_stack (sym c.node.ensures.body) ∙ sym c.if-is_stack.ensures in
    at ∙ sym (c.loop-number.invariant ∙ ap (first_among cs) (range_rest n (length cs) within) ∙ first_here cs n (range_with_len (n + 1) (length cs - (n + 1))) own)

pub loop-number-preserved : goal.loop-number-preserved
loop-number-preserved c =
    let cs = constructs c.args.tree.now in
    let n = c.loop-number.number in
    let within : n < length cs = omega (arith, c.len-number-end.ensures) in
    let at : c.in-Some.at ≡ n = id_is (nat_lt n (length cs)) n c.in-Some.at c.in-Some.ensures in
    let own : is_stack (construct_at cs n).body ≡ false = ap (λ k. is_stack (construct_at cs k).body) (sym at) ∙ ap is_stack (sym c.node.ensures.body) ∙ sym c.if-is_stack.ensures in
    c.loop-number.invariant ∙ ap (first_among cs) (range_rest n (length cs) within) ∙ first_later cs n (range_with_len (n + 1) (length cs - (n + 1))) own
