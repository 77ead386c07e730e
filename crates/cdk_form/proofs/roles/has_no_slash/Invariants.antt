use Rattle.std.proofs.Common.{◌≡◌, ◌==◌, drop, not}
use Rattle.std.specs.List.{list_all}
use Rattle.cdk_form.proofs.roles.has_no_slash.Given as goal

abbrev pub invariant-loop-byte : goal.invariant-loop-byte
invariant-loop-byte l = list_all (λ c. not (c == 47)) l.byte-items ≡ list_all (λ c. not (c == 47)) (drop l.byte-index l.byte-items)
