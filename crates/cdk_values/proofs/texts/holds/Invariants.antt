use Rattle.std.proofs.Common.{◌≡◌, drop}
use Rattle.cdk_tokens.specs.Values.{holds as spec_holds}
use Rattle.cdk_values.proofs.texts.holds.Given as goal

abbrev pub invariant-loop-at : goal.invariant-loop-at
invariant-loop-at l = spec_holds l.part l.text ≡ spec_holds l.part (drop l.at l.bytes)
