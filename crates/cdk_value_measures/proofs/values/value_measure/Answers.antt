use Rattle.std.proofs.Common.{ap, ◌∙◌}
use Rattle.serde_json.specs.View.{view}
use Rattle.cdk_value_measures.proofs.TokenMeasures.{known_to_all}
use Rattle.cdk_value_measures.specs.Expanding.{kept_at, known_below, value_measure}
use Rattle.cdk_value_measures.specs.Constructs.{path_in}
use Rattle.cdk_tokens.specs.TableView.{tokens_in}
use Rattle.cdk_tree.specs.TreeView.{constructs}
use Rattle.cdk_value_measures.proofs.values.value_measure.Goals as goal

pub returns : goal.returns
returns c =
    let path = path_in (constructs c.args.tree.now) in
    let lazies = kept_at c.args.kept.now in
    let ts = tokens_in c.args.table.now in
    c.measure_below.ensures ∙ ap (λ known. value_measure known (view c.args.value.now)) (ap (known_below path lazies ts) c.len.ensures ∙ known_to_all path lazies ts)
