use Rattle.std.proofs.Common.{sym, ◌∙◌}
use Rattle.serde_json.specs.View.{view}
use Rattle.cdk_keeping.proofs.Unkept.{found_kept}
use Rattle.cdk_leaves.specs.Kept.{results_in}
use Rattle.cdk_keeping.proofs.keeping.keep_same.Goals as goal

pub put_same-requires-clause-kept : goal.put_same-requires-clause-kept
put_same-requires-clause-kept c = found_kept (λ v. view v.now) c.get.result (results_in c.args.kept.now) c.args.other c.get.ensures (sym c.is_some.ensures ∙ c.if-is_some.true)
