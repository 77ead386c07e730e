use Rattle.std.proofs.Common.{◌≡◌, ◌+◌, ◌<◌, [], ◌∷◌, drop, get_or, Bor, List, ℕ, length, subst, arith, inr, refl}
use Rattle.std.proofs.lemmas.List.{drop_more, drop_all}
use Rattle.cdk_scopes.specs.Scopes.{kept_at}
use Rattle.cdk_conditions.specs.Kept.{texts_of}
use Rattle.cdk_conditions.proofs.Loops.{AreKept, keeps_more, keeps_all, in_at}
use Rattle.cdk_conditions.proofs.closing.keep_loops.Goals as goal

pub loop-name-init : goal.loop-name-init
loop-name-init c = record { each = λ n i. inr i; others = λ n. inr refl }

pub loop-name-preserved : goal.loop-name-preserved
loop-name-preserved c =
    let l = c.loop-name in
    let i = l.name-index in
    let none : Bor (List ℕ) = record { ref_ptr = (0, 0); now = [] } in
    let x = get_or c.args.names.now i none in
    let within : i < length c.args.names.now = omega arith in
    let here : drop i c.args.names.now ≡ x ∷ drop (i + 1) c.args.names.now = drop_more c.args.names.now i none within in
    keeps_more (texts_of c.args.names.now) (kept_at c.args.truths.now.kept) (texts_of (drop (i + 1) c.args.names.now)) x.now (kept_at l.truths.kept) (kept_at c.keep.new.self.kept) c.looping.result
    c.looping.ensures.truth c.looping.ensures.is_loop (in_at c.args.names.now i none within)
    (subst (λ ns. AreKept (texts_of c.args.names.now) (kept_at c.args.truths.now.kept) (texts_of ns) (kept_at l.truths.kept)) here l.invariant)
    c.in_ok-keep.ensures

pub returns : goal.returns
returns c =
    let l = c.loop-name in
    keeps_all (texts_of c.args.names.now) c.args.truths.now l.truths (subst (λ ns. AreKept (texts_of c.args.names.now) (kept_at c.args.truths.now.kept) (texts_of ns) (kept_at l.truths.kept)) (drop_all l.name-index c.args.names.now (omega arith)) l.invariant)
