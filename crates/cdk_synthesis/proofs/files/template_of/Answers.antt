use Rattle.std.proofs.Common.{◌≤◌, ap, sym, ◌∙◌, subst}
use Rattle.serde_json.specs.Data.{Data, depth}
use Rattle.serde_json.specs.Read.{max_depth}
use Rattle.serde_json.specs.Written.{has_float}
use Rattle.cdk_base.proofs.Canonical.{has_float-canonical}
use Rattle.cdk_template.proofs.WholeTemplates.{templates_are_whole}
use Rattle.cdk_template.specs.Own.{spelling_of}
use Rattle.cdk_template.specs.Sources.{constructs_in}
use Rattle.cdk_template.specs.Template.{template_of}
use Rattle.cdk_synthesis.proofs.FileLemmas.{left_first, none_left}
use Rattle.cdk_synthesis.proofs.files.template_of.Goals as goal

pub named_template-requires-clause-no_float : goal.named_template-requires-clause-no_float
named_template-requires-clause-no_float c =
    let cs = constructs_in c.args.sources.now in
    let whole = templates_are_whole cs c.args.stack c.requires.made.whole c.requires.made.checked.named c.requires.stack in
    ap has_float c.in-Ok.ensures.0 ∙ has_float-canonical (template_of cs (spelling_of cs) c.args.stack) whole.canonical

pub named_template-requires-clause-shallow : goal.named_template-requires-clause-shallow
named_template-requires-clause-shallow c =
    let cs = constructs_in c.args.sources.now in
    let whole = templates_are_whole cs c.args.stack c.requires.made.whole c.requires.made.checked.named c.requires.stack in
    let P : Data → Type 0 = λ d. depth d ≤ max_depth in
    subst P (sym c.in-Ok.ensures.0) whole.shallow
