use Rattle.std.proofs.lemmas.Result.{err_from_is_err_and}
use Rattle.cdk_language.specs.Construct.{app_view}
use Rattle.cdk_tree.specs.TreeView.{constructs}
use Rattle.cdk_synthesis.proofs.BuiltTrees.{IsRead, tree_answers, tree_is_built}
use Rattle.cdk_synthesis.proofs.FaultLemmas.{built_fault, settings_fault}
use Rattle.cdk_synthesis.proofs.synthesis.synth.Goals as goal

pub returns-in_err-app-2-clause-answer : goal.returns-in_err-app-2-clause-answer
returns-in_err-app-2-clause-answer c =
    let p = err_from_is_err_and c.from_residual-in_err-app-2.result c.from_residual-in_err-app-2.ensures.1 in
    rw (p.1, p.2) (settings_fault c.args.bytes.now c.args.settings.now (app_view c.in_ok-app.app) c.in_err-app-2.field-0.0 c.if-bytes-gt-MOST_BYTES.false c.in_ok-app.ensures c.in_err-app-2.ensures)

pub returns-in_err-tree-clause-answer : goal.returns-in_err-tree-clause-answer
returns-in_err-tree-clause-answer c =
    let p = err_from_is_err_and c.from_residual-in_err-tree.result c.from_residual-in_err-tree.ensures.1 in
    rw (p.1, p.2)
    (built_fault c.args.bytes.now c.args.settings.now (app_view c.in_ok-app.app) (app_view c.in_ok-app-2.app) c.in_err-tree.field-0.0 c.if-bytes-gt-MOST_BYTES.false c.in_ok-app.ensures c.in_ok-app-2.ensures
    c.in_err-tree.ensures)

pub files_of_tree-requires : goal.files_of_tree-requires
files_of_tree-requires c =
    let app = app_view c.in_ok-app.app in
    let set = app_view c.in_ok-app-2.app in
    let cs = constructs c.in_ok-tree.tree in
    let tree = c.in_ok-tree.ensures in
    let read : IsRead c.args.bytes.now c.args.settings.now app set cs = record { read = c.in_ok-app.ensures; unmarked = c.in_ok-app-2.ensures.0; set = c.in_ok-app-2.ensures.1; carried = tree.0; walked = tree.1; places = tree.2 } in
    record { built = tree_is_built c.args.bytes.now c.args.settings.now app set cs read }

pub returns-clause-answer : goal.returns-clause-answer
returns-clause-answer c =
    let app = app_view c.in_ok-app.app in
    let set = app_view c.in_ok-app-2.app in
    let cs = constructs c.in_ok-tree.tree in
    let tree = c.in_ok-tree.ensures in
    let read : IsRead c.args.bytes.now c.args.settings.now app set cs = record { read = c.in_ok-app.ensures; unmarked = c.in_ok-app-2.ensures.0; set = c.in_ok-app-2.ensures.1; carried = tree.0; walked = tree.1; places = tree.2 } in
    tree_answers c.args.bytes.now c.args.settings.now app set cs read c.files_of_tree.result c.if-bytes-gt-MOST_BYTES.false c.files_of_tree.ensures.answer
