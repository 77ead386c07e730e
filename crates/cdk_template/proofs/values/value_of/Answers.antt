use Rattle.std.proofs.Common.{◌≡◌, Some, None, true, sym, ap, ◌∙◌, true≢false}
use Rattle.std.specs.Prelude.{is_some, option_map}
use Rattle.std.proofs.lemmas.Result.{IfOk-weaker}
use Rattle.serde_json.specs.View.{view}
use Rattle.cdk_expansion.specs.Own.{value_in}
use Rattle.cdk_keeping.specs.Keeping.{IsRendering}
use Rattle.cdk_resolve.specs.KeptView.{kept_scope}
use Rattle.cdk_tokens.specs.TableView.{marked_in}
use Rattle.cdk_tokens.specs.Whole.{marking, value_at}
use Rattle.cdk_tree.specs.Placed.{construct_at}
use Rattle.cdk_template.specs.Own.{spelling_of}
use Rattle.cdk_template.specs.Sources.{constructs_in}
use Rattle.cdk_template.proofs.ValueLemmas.{rendered_as_own, value_is_marked}
use Rattle.cdk_template.proofs.values.value_of.Goals as goal

pub unreachable-requires : goal.unreachable-requires
unreachable-requires c =
    let cs = constructs_in c.args.sources.now in
    let there : is_some (value_at (marking cs) c.args.at) ≡ true = value_is_marked cs c.args.at c.requires.has_value in
    let marked : value_at (marked_in c.args.sources.now.marked.now) c.args.at ≡ value_at (marking cs) c.args.at = ap (λ ms. value_at ms c.args.at) c.requires.sources.marks in
    let none : value_at (marking cs) c.args.at ≡ None = sym (c.in_default.ensures ∙ marked) in
    true≢false (sym there ∙ ap is_some none)

pub returns-clause-value : goal.returns-clause-value
returns-clause-value c =
    let cs = constructs_in c.args.sources.now in
    let n = c.args.at in
    let scope = kept_scope c.args.kept.now in
    let d = view c.in-Some.value.now in
    let marked : value_at (marking cs) n ≡ Some d = sym (c.in-Some.ensures ∙ ap (λ ms. value_at ms n) c.requires.sources.marks) in
    IfOk-weaker c.resolve.result (λ v. IsRendering scope d (view v)) (λ v. Some (view v) ≡ option_map ((spelling_of cs).value n) (value_in (construct_at cs n).body))
    (λ v rendering. rendered_as_own cs scope n d (view v) c.requires.kept.own c.requires.has_value marked rendering) c.resolve.ensures.value
