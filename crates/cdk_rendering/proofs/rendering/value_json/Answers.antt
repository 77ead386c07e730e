use Rattle.std.proofs.Common.{◌≡◌, ◌++◌, ℕ, List, OnOk, ap, subst, ◌∙◌}
use Rattle.serde_json.specs.View.{view}
use Rattle.cdk_leaves.specs.Kept.{results_in}
use Rattle.cdk_rendering.proofs.TokenFound.{known_below_all}
use Rattle.cdk_rendering.specs.Folding.{Known, known_below}
use Rattle.cdk_rendering.specs.Missing.{form_missing, value_missing}
use Rattle.cdk_tokens.specs.TableView.{tokens_in}
use Rattle.cdk_rendering.proofs.rendering.value_json.Goals as goal

pub returns-clause-missing : goal.returns-clause-missing
returns-clause-missing c =
    let form = form_missing (results_in c.args.kept.now) in
    let ts = tokens_in c.args.scope.now.table.now in
    let P : Known (List ℕ) → Type 0 = λ known. OnOk c.json_below.result (c.json_below.new.missing.items ≡ c.args.missing.now.items ++ value_missing known (view c.args.value.now)) in
    subst P (ap (known_below form ts) c.len.ensures ∙ known_below_all form ts) c.json_below.ensures.missing
