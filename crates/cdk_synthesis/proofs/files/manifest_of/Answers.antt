use Rattle.std.proofs.Common.{◌≤◌, ap, sym, ◌∙◌, subst}
use Rattle.serde_json.specs.Data.{Data, depth}
use Rattle.serde_json.specs.Read.{max_depth}
use Rattle.serde_json.specs.Written.{has_float}
use Rattle.cdk_base.proofs.Canonical.{has_float-canonical}
use Rattle.cdk_manifest.proofs.WholeManifest.{manifests_are_whole}
use Rattle.cdk_template.specs.Sources.{constructs_in}
use Rattle.cdk_tree_meaning.specs.Law.{manifest_document}
use Rattle.cdk_synthesis.proofs.files.manifest_of.Goals as goal

pub file_of-requires-clause-no_float : goal.file_of-requires-clause-no_float
file_of-requires-clause-no_float c =
    let cs = constructs_in c.args.sources.now in
    let checked = c.requires.made.checked in
    let whole = manifests_are_whole cs checked.one checked.named in
    ap has_float c.in_ok-value.ensures ∙ has_float-canonical (manifest_document cs) whole.canonical

pub file_of-requires-clause-shallow : goal.file_of-requires-clause-shallow
file_of-requires-clause-shallow c =
    let cs = constructs_in c.args.sources.now in
    let checked = c.requires.made.checked in
    let whole = manifests_are_whole cs checked.one checked.named in
    let P : Data → Type 0 = λ d. depth d ≤ max_depth in
    subst P (sym c.in_ok-value.ensures) whole.shallow
