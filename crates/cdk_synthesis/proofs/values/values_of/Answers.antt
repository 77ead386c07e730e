use Rattle.std.proofs.Common.{◌≡◌, ◌<◌, ◌+◌, ℕ, List, length, sym, subst, arith}
use Rattle.std.specs.Prelude.{nat_lt}
use Rattle.serde_json.specs.declared.value.Value.{Value}
use Rattle.cdk_stacks.proofs.Within.{id_is}
use Rattle.cdk_template.specs.Sources.{constructs_in, scope_in}
use Rattle.cdk_tree.specs.Placed.{construct_at}
use Rattle.cdk_synthesis.specs.Values.{IsValueOf}
use Rattle.cdk_synthesis.proofs.ValueLemmas.{AreMade, none_made, one_more, renders_own}
use Rattle.cdk_synthesis.proofs.values.values_of.Goals as goal

pub loop-number-init : goal.loop-number-init
loop-number-init c =
    let cs = constructs_in c.args.sources.now in
    let P : List Value → Type 0 = λ vs. AreMade vs cs 0 in
    record {
      made = subst P (sym c.new-values.ensures.items) (none_made cs);
      kept = renders_own cs c.kept_for-kept.result (scope_in c.args.sources.now c.args.stack) c.kept_for-kept.ensures.right c.kept_for-kept.ensures.scope c.requires.own;
    }

pub loop-number-preserved : goal.loop-number-preserved
loop-number-preserved c =
    let cs = constructs_in c.args.sources.now in
    let n = c.loop-number.number in
    let within : n < length cs = omega (arith, c.len-number-end.ensures) in
    let at : c.in-Some.at ≡ n = id_is (nat_lt n (length cs)) n c.in-Some.at c.in-Some.ensures in
    let P : ℕ → Type 0 = λ k. IsValueOf c.in_ok-value.value cs k (construct_at cs k).body in
    let Q : List Value → Type 0 = λ vs. AreMade vs cs (n + 1) in
    record {
      made = subst Q (sym c.in_ok-push.ensures.items) (one_more c.loop-number.values.items c.in_ok-value.value cs n c.loop-number.invariant.made (subst P at c.in_ok-value.ensures.value));
      kept = c.in_ok-value.ensures.kept;
    }
