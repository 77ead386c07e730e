use Rattle.std.proofs.Common.{sym, ap, option_map, ◌∙◌}
use Rattle.std.specs.Option.{unwrap_or}
use Rattle.serde_json.specs.Data.{null}
use Rattle.serde_json.specs.View.{view}
use Rattle.cdk_keeping.proofs.OnlyLazy.{on_ok, steps_same}
use Rattle.cdk_leaves.specs.Kept.{results_in}
use Rattle.cdk_leaves.specs.Views.{scope_view}
use Rattle.cdk_keeping.proofs.keeping.keep_or_wait.Goals as goal

pub returns-in-Some-only_lazy-clause-ok : goal.returns-in-Some-only_lazy-clause-ok
returns-in-Some-only_lazy-clause-ok c =
    let value = ap (λ o. unwrap_or o null) (sym c.value.ensures ∙ ap (option_map (λ v. view v.now)) c.in-Some.is) in
    let lazy = sym c.only_lazy.ensures ∙ c.in-Some-only_lazy.is in
    on_ok c.keep_same.result
    (λ step. steps_same (scope_view c.args.scope.now) (results_in c.args.kept.now) c.in-Some-only_lazy.other c.args.lazy (view c.in-Some.value.now) (results_in c.keep_same.new.kept) c.args.waiting.now.items c.keep_same.new.waiting.items value lazy step)
    c.keep_same.ensures.ok
