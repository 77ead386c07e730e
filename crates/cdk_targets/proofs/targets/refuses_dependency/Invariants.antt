use Rattle.std.proofs.Common.{◌≡◌, drop, map}
use Rattle.std.specs.List.{list_any}
use Rattle.cdk_tree.specs.Expected.{target}
use Rattle.cdk_targets.specs.Looks.{is_refused}
use Rattle.cdk_tree.specs.declared.role.TargetRole.TheVariants.{Dependable}
use Rattle.cdk_targets.proofs.targets.refuses_dependency.Given as goal

abbrev pub invariant-loop-path : goal.invariant-loop-path
invariant-loop-path l =
    list_any (is_refused l.tree l.look l.at) (map (target Dependable) l.path-items) ≡ list_any (is_refused l.tree l.look l.at) (map (target Dependable) (drop l.path-index l.path-items))
