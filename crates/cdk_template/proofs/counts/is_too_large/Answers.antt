use Rattle.std.proofs.Common.{◌≡◌, ◌<◌, ◌+◌, ◌-◌, length, Some, None, sym, ap, ◌∙◌, arith}
use Rattle.std.specs.Prelude.{nat_lt}
use Rattle.std.specs.List.{range_with_len}
use Rattle.cdk_tree.specs.TreeView.{constructs}
use Rattle.cdk_stacks.proofs.Tests.{range_rest, range_end}
use Rattle.cdk_stacks.proofs.Within.{id_is}
use Rattle.cdk_template.specs.Room.{is_exceeded, room_in}
use Rattle.cdk_template.proofs.CountLemmas.{exceeded_more, is_exceeded_after, none_over}
use Rattle.cdk_template.proofs.counts.is_too_large.Goals as goal

pub returns-in-None : goal.returns-in-None
returns-in-None c =
    let cs = constructs c.args.tree.now in
    let n = c.loop-number.number in
    let stack = c.args.stack in
    let room = c.loop-number.room in
    let rest = range_with_len (n + 1) (length cs - (n + 1)) in
    let within : n < length cs = omega (arith, c.len-number-end.ensures) in
    let at : c.in-Some.at ≡ n = id_is (nat_lt n (length cs)) n c.in-Some.at c.in-Some.ensures in
    let none : room_in cs stack room n ≡ None = ap (room_in cs stack room) (sym at) ∙ sym c.in-None.ensures in
    sym (c.loop-number.invariant ∙ ap (is_exceeded room cs stack) (range_rest n (length cs) within) ∙ exceeded_more cs stack room n rest ∙ ap (λ o. is_exceeded_after o cs stack rest) none)

pub loop-number-preserved : goal.loop-number-preserved
loop-number-preserved c =
    let cs = constructs c.args.tree.now in
    let n = c.loop-number.number in
    let stack = c.args.stack in
    let room = c.loop-number.room in
    let rest = range_with_len (n + 1) (length cs - (n + 1)) in
    let within : n < length cs = omega (arith, c.len-number-end.ensures) in
    let at : c.in-Some.at ≡ n = id_is (nat_lt n (length cs)) n c.in-Some.at c.in-Some.ensures in
    let left : room_in cs stack room n ≡ Some c.in-Some-room_beside.left = ap (room_in cs stack room) (sym at) ∙ sym c.in-Some-room_beside.ensures in
    c.loop-number.invariant ∙ ap (is_exceeded room cs stack) (range_rest n (length cs) within) ∙ exceeded_more cs stack room n rest ∙ ap (λ o. is_exceeded_after o cs stack rest) left

pub returns : goal.returns
returns c =
    let cs = constructs c.args.tree.now in
    let n = c.loop-number.number in
    let room = c.loop-number.room in
    let end : n ≡ length cs = omega (arith, c.len-number-end.ensures) in
    sym (c.loop-number.invariant ∙ ap (is_exceeded room cs c.args.stack) (range_end n (length cs) end) ∙ none_over room)
