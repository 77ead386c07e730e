use Rattle.std.proofs.Common.{map, ◌∙◌, rules}
use Rattle.serde_json.specs.View.{view}
use Rattle.cdk_eval.specs.Views.{stack_view}
use Rattle.cdk_assemblies.proofs.Nesting.{own_without_manifest, own_without_stacks, own_read}
use Rattle.cdk_assemblies.proofs.Steps.{refusing}
use Rattle.cdk_assemblies.proofs.levels.read_own.Goals as goal

pub returns-in_err-manifest-clause-reads : goal.returns-in_err-manifest-clause-reads
returns-in_err-manifest-clause-reads g c =
    refusing _ _ c.in_err-manifest.field-0.0 (g.F.Files.files c.args.files.now) _ (search rules) (own_without_manifest c.in_err-manifest.field-0.0 (g.F.Files.files c.args.files.now) c.args.may_nest c.args.dir.now c.as_str.result.now (map stack_view c.args.into.now) (c.as_str.ensures ∙ c.in_ok-path.ensures.ok) c.in_err-manifest.ensures.reads)

pub returns-clause-reads : goal.returns-clause-reads
returns-clause-reads g c =
    own_read (g.F.Files.files c.args.files.now) _ c.args.may_nest c.args.dir.now c.as_str.result.now c.as_str-2.result.now (map stack_view c.args.into.now) _ (view c.in_ok-manifest.manifest) (c.as_str.ensures ∙ c.in_ok-path.ensures.ok) (c.as_str-2.ensures ∙ c.in_ok-path.ensures.ok) c.in_ok-manifest.ensures.reads c.in_ok-manifest.ensures.files c.in_ok-read_ordered.ensures.reads

pub returns-in_err-read_ordered-clause-reads : goal.returns-in_err-read_ordered-clause-reads
returns-in_err-read_ordered-clause-reads g c =
    refusing _ _ c.in_err-read_ordered.field-0.0 (g.F.Files.files c.args.files.now) _ (search rules) (own_without_stacks c.in_err-read_ordered.field-0.0 (g.F.Files.files c.args.files.now) _ c.args.may_nest c.args.dir.now c.as_str.result.now c.as_str-2.result.now (map stack_view c.args.into.now) (view c.in_ok-manifest.manifest) (c.as_str.ensures ∙ c.in_ok-path.ensures.ok) (c.as_str-2.ensures ∙ c.in_ok-path.ensures.ok) c.in_ok-manifest.ensures.reads c.in_ok-manifest.ensures.files c.in_err-read_ordered.ensures.reads)
