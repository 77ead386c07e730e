use Rattle.std.proofs.Common.{◌∷◌, sym, ◌∙◌}
use Rattle.cdk_language.specs.Expression.{view}
use Rattle.cdk_tree.specs.Expected.{expected, text_place}
use Rattle.cdk_targets.specs.Looks.{is_refused}
use Rattle.cdk_tree.proofs.Tests.{any_first, any_second}
use Rattle.cdk_targets.proofs.targets.refuses_texts.Goals as goal

pub returns-then-refuses_text : goal.returns-then-refuses_text
returns-then-refuses_text c =
    let p = is_refused c.args.tree.now c.args.look c.args.at in
    let x = view c.args.x.now in
    let y = view c.args.y.now in
    sym (any_first p (text_place x ∷ expected x) (text_place y ∷ expected y) (sym c.if-refuses_text.ensures))

pub returns : goal.returns
returns c =
    let p = is_refused c.args.tree.now c.args.look c.args.at in
    let x = view c.args.x.now in
    let y = view c.args.y.now in
    c.refuses_text-2.ensures ∙ sym (any_second p (text_place x ∷ expected x) (text_place y ∷ expected y) (sym c.if-refuses_text.ensures))
