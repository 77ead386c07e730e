use Rattle.std.proofs.Common.{◌++◌, length, map, ap, ◌∙◌}
use Rattle.serde_json.specs.View.{view as json_view}
use Rattle.cdk_language.specs.Condition.{view}
use Rattle.cdk_tree.specs.TreeView.{constructs}
use Rattle.cdk_tokens.specs.TableView.{tokens_in}
use Rattle.cdk_contexts.specs.Expressions.{operands_of}
use Rattle.cdk_tokens.specs.Whole.{marked_list, operands}
use Rattle.cdk_tokens.proofs.whole.mark_operands.Goals as goal

pub returns-clause-value : goal.returns-clause-value
returns-clause-value c =
    let all = marked_list (constructs c.args.tree.now) c.args.at (length (tokens_in c.args.table.now)) (operands_of (view c.args.c.now)) in
    ap operands (c.in_ok-push_operands.ensures.value ∙ ap (λ vs. map json_view vs ++ all) c.new-values.ensures.items)
