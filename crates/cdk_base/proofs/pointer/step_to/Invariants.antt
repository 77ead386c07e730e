use Rattle.std.proofs.Common.{◌≡◌, ◌∷◌, ◌++◌, string_bytes}
use Rattle.std.specs.Str.Iter.{chars_rest}
use Rattle.cdk_base.specs.Pointer.{escape}
use Rattle.cdk_base.proofs.pointer.step_to.Given as goal

abbrev pub invariant-loop-c : goal.invariant-loop-c
invariant-loop-c l =
    (goal.iterator-loop-c).can_next l.c-iterator ×
    (goal.iterator-loop-c).is_finite l.c-iterator ×
    (string_bytes l.place ++ escape (chars_rest l.c-iterator) ≡ 47 ∷ escape l.step)
