use Rattle.std.proofs.Common.{◌≡◌, ◌++◌, ◌≤◌, [], drop, length, take}
use denote.Shadow.{shadow}
use denote.Text.{Utf8}
use Rattle.cdk_names.proofs.Parts.{human_text}
use Rattle.cdk_names.proofs.human.push_human.Given as goal

abbrev pub invariant-loop-component : goal.invariant-loop-component
invariant-loop-component l =
    (take 240 (l.name.bytes ++ human_text l.last (drop l.component-index l.components)) ≡ take 240 (human_text [] l.components))
    × (length l.name.bytes ≤ 240) × shadow (Utf8 l.last)
