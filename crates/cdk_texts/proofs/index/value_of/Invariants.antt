use Rattle.std.proofs.Common.{◌≡◌, ◌*◌, ◌+◌, ◌-◌, drop}
use Rattle.std.specs.Prelude.{fold}
use Rattle.cdk_eval.specs.Texts.{digits_value}
use Rattle.cdk_texts.proofs.index.value_of.Given as goal

abbrev pub invariant-loop-digit : goal.invariant-loop-digit
invariant-loop-digit l = digits_value l.digits ≡ fold (λ n c. n * 10 + (c - 48)) l.value (drop l.digit-index l.digit-items)
