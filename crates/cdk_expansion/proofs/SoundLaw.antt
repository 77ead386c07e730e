-- In a sound application every expression of every construct is right.
use Rattle.std.proofs.Common.{map}
use Rattle.cdk_tree.specs.Expected.{expected_body, is_condition, target}
use Rattle.cdk_tree.specs.Placed.{construct_at}
use Rattle.cdk_tree.specs.declared.role.TargetRole.TheVariants as roles
use Rattle.cdk_expansion.specs.Laws.{SoundIsRight}
use Rattle.cdk_expansion.proofs.RightBodies.{body_is_right}
use Rattle.cdk_expansion.proofs.RightExpressions.{is_wrong_here, none_in_parts}
use Rattle.cdk_expansion.proofs.SoundFindings.{no_wrong_contexts, no_wrong_targets}

pub sound_is_right : SoundIsRight
sound_is_right cs sound at within =
    let c = construct_at cs at in
    let targets = (no_wrong_targets cs at within sound.targets).1 in
    let contexts = no_wrong_contexts cs at within sound.contexts in
    let asked = (none_in_parts (is_wrong_here cs at (is_condition c.body)) (map (target roles.Dependable) c.head.depends) (expected_body c.body) targets).1 in
    body_is_right cs at (is_condition c.body) c.body (sound.clean at within) asked contexts.0 contexts.1
