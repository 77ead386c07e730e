use Rattle.std.proofs.Common.{◌≡◌, ◌++◌, ◌∷◌, [], map, length, sym, ap, ◌∙◌, arith}
use Rattle.std.specs.Prelude.{nat_lt}
use Rattle.std.specs.List.{range_with_len}
use Rattle.std.proofs.lemmas.List.FromFn.{map-range_with_len_more}
use Rattle.cdk_tree.specs.TreeView.{constructs}
use Rattle.cdk_stacks.specs.Made.{names_of}
use Rattle.cdk_stacks.proofs.Within.{id_is, names_all}
use Rattle.cdk_stacks.proofs.made.Names.of.Goals as goal

pub loop-number-preserved : goal.loop-number-preserved
loop-number-preserved c =
    let cs = constructs c.args.tree.now in
    let n = c.loop-number.number in
    let at : c.in-Some.at ≡ n = id_is (nat_lt n (length cs)) n c.in-Some.at c.in-Some.ensures in
    c.in_ok-push.ensures.ok ∙ ap (λ l. l ++ c.in_ok-named.named ∷ []) c.loop-number.invariant
    ∙ ap (λ x. map (names_of cs) (range_with_len 0 n) ++ x ∷ []) (c.in_ok-named.ensures ∙ ap (names_of cs) at)
    ∙ sym (map-range_with_len_more (names_of cs) 0 n n (omega arith))

pub returns : goal.returns
returns c n =
    names_all (constructs c.args.tree.now) c.loop-number.each c.loop-number.number c.loop-number.invariant (omega (arith, c.len-number-end.ensures)) n
