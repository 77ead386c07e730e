use Rattle.std.proofs.Common.{◌≡◌, ◌≢◌, ◌<◌, ◌+◌, length, ap, ◌∙◌, sym, arith}
use Rattle.std.specs.Prelude.{nat_lt}
use Rattle.serde_json.specs.View.{members_view}
use Rattle.cdk_tree.specs.TreeView.{constructs}
use Rattle.cdk_stacks.proofs.Within.{id_is}
use Rattle.cdk_manifest.specs.Manifest.{artifact_entry, is_artifact_of, telling_of, with_artifact}
use Rattle.cdk_manifest.proofs.FillLemmas.{filled_from, filled_from-next}
use Rattle.cdk_manifest.proofs.assemblies.artifacts.Goals as goal

pub loop-number-preserved : goal.loop-number-preserved
loop-number-preserved c =
    let cs = constructs c.args.tree.now in
    let t = telling_of cs in
    let n = c.loop-number.number in
    let old = members_view c.loop-number.artifacts.entries in
    let new = members_view c.put_artifact.new.artifacts.entries in
    let within : n < length cs = omega (arith, c.len-number-end.ensures) in
    let at : c.in-Some.at ≡ n = id_is (nat_lt n (length cs)) n c.in-Some.at c.in-Some.ensures in
    let put_in : new ≡ with_artifact cs c.args.stage n old = c.in_ok-put_artifact.ensures ∙ ap (λ k. with_artifact cs c.args.stage k old) at in (
      c.take-own.ensures.rest.count ∙ c.loop-number.invariant.0,
      λ k later. let apart : k ≢ c.in-Some.at = omega arith in c.take-own.ensures.rest.members k apart ∙ c.loop-number.invariant.1 k (omega arith),
      c.loop-number.invariant.2
          ∙ filled_from-next t.artifact (artifact_entry cs t) (is_artifact_of cs c.args.stage) n (length cs) old within
          ∙ ap (filled_from t.artifact (artifact_entry cs t) (is_artifact_of cs c.args.stage) (n + 1) (length cs)) (sym put_in),
    )
