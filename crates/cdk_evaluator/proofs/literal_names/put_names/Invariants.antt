use Rattle.std.proofs.Common.{◌≡◌, ℕ, List}
use Rattle.std.specs.Prelude.{◌||◌, filter_map}
use Rattle.serde_json.specs.View.{members_view}
use Rattle.cdk_eval.specs.Assembly.{entries, literal_name}
use Rattle.cdk_eval.specs.Reach.{is_among}
use Rattle.cdk_scopes.specs.Scopes.{has_name}
use Rattle.cdk_evaluator.proofs.literal_names.put_names.Given as goal

abbrev pub invariant-loop-output : goal.invariant-loop-output
invariant-loop-output l = (e : List ℕ) →
    has_name l.initial.names e || is_among e (filter_map literal_name (entries (members_view l.outputs.entries))) ≡ has_name l.names e || is_among e (filter_map literal_name (entries (members_view l.output-iterator)))
