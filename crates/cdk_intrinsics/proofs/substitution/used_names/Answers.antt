use Rattle.std.proofs.Common.{◌≡◌, [], ◌∷◌, ◌+◌, drop, get_or, map, sym, ap, ◌∙◌, subst, arith}
use Rattle.std.proofs.lemmas.List.{drop_more, drop_all}
use Rattle.cdk_texts.specs.Steps.{part_view}
use Rattle.cdk_texts.specs.declared.sub.Part.{Part}
use Rattle.cdk_texts.specs.declared.sub.Part.TheVariants as parts
use Rattle.cdk_scopes.specs.Scopes.{has_name}
use Rattle.cdk_intrinsics.specs.Substitution.{AreUsed}
use Rattle.cdk_intrinsics.proofs.substitution.used_names.Goals as goal

pub loop-part-preserved : goal.loop-part-preserved
loop-part-preserved c u more rest =
    let l = c.loop-part in
    let i = l.part-index in
    let none : Part = parts.Literal (record { ref_ptr = (0, 0); now = [] }) in
    let here : drop i c.args.parts.now ≡ get_or c.args.parts.now i none ∷ drop (i + 1) c.args.parts.now = drop_more c.args.parts.now i none (omega arith) in
    let both = c.in_ok-put_used.ensures u more in
    l.invariant u both.0 (subst (λ ps. AreUsed u (map part_view ps)) (sym here) (both.1, rest))

pub returns : goal.returns
returns c =
    let l = c.loop-part in
    l.invariant (has_name l.used) (λ n h. h) (subst (λ ps. AreUsed (has_name l.used) (map part_view ps)) (sym (drop_all l.part-index c.args.parts.now (omega arith))) tt)
