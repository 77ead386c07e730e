use Rattle.std.proofs.Common.{◌≡◌, drop, map}
use Rattle.cdk_eval.specs.Form.{role_in}
use Rattle.cdk_form.proofs.members.role_in.Given as goal

abbrev pub invariant-loop-name : goal.invariant-loop-name
invariant-loop-name l = role_in (map (λ x. (x.0.now, x.1)) l.table) l.other l.key ≡ role_in (map (λ x. (x.0.now, x.1)) (drop l.name-index l.table)) l.other l.key
