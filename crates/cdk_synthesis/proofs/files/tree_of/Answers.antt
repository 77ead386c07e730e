use Rattle.std.proofs.Common.{◌≡◌, ◌≤◌, List, ap, sym, ◌∙◌, subst}
use Rattle.serde_json.specs.Data.{Data, depth}
use Rattle.serde_json.specs.Read.{max_depth}
use Rattle.serde_json.specs.View.{view}
use Rattle.serde_json.specs.Written.{has_float}
use Rattle.cdk_base.proofs.Canonical.{has_float-canonical}
use Rattle.cdk_template.specs.Sources.{constructs_in}
use Rattle.cdk_synthesis.specs.Assembly.{tree_document}
use Rattle.cdk_synthesis.proofs.TreeFileLemmas.{as_document, tree_is_whole}
use Rattle.cdk_synthesis.proofs.files.tree_of.Goals as goal

pub file_of-requires-clause-no_float : goal.file_of-requires-clause-no_float
file_of-requires-clause-no_float c =
    let cs = constructs_in c.args.sources.now in
    let made = c.requires.made in
    let a = made.checked.application in
    let is : view c.in_ok-value.value ≡ tree_document a = as_document cs c.as_slice.result.now c.in_ok-values.values.items c.in_ok-value.value c.as_slice.ensures.value c.in_ok-values.ensures.values c.in_ok-value.ensures a made.checked.walked in
    ap has_float is ∙ has_float-canonical (tree_document a) (tree_is_whole cs made.checked made.whole a made.checked.walked).canonical

pub file_of-requires-clause-shallow : goal.file_of-requires-clause-shallow
file_of-requires-clause-shallow c =
    let cs = constructs_in c.args.sources.now in
    let made = c.requires.made in
    let a = made.checked.application in
    let is : view c.in_ok-value.value ≡ tree_document a = as_document cs c.as_slice.result.now c.in_ok-values.values.items c.in_ok-value.value c.as_slice.ensures.value c.in_ok-values.ensures.values c.in_ok-value.ensures a made.checked.walked in
    let P : Data → Type 0 = λ d. depth d ≤ max_depth in
    subst P (sym is) (tree_is_whole cs made.checked made.whole a made.checked.walked).shallow
