-- What the order of a manifest's stacks tells.
use Rattle.std.specs.Prelude.{◌≡◌, map, Some, None}
use Rattle.serde_json.specs.Data.{Data}
use Rattle.cdk_eval.specs.Manifest.{stacks_of, cyclic, in_order}
use Rattle.cdk_artifacts.specs.Files.{file_of, file_view}
use Rattle.cdk_stack_order.specs.declared.order.Order.{Order}
use Rattle.cdk_stack_order.specs.declared.order.Order.TheVariants.{Stacks, Cycle}

-- the stacks in evaluation order where none reaches itself, else the least artifact id that does
abbrev pub IsOrder : Data → Order → Type 0
IsOrder manifest (Stacks ss) = (cyclic (stacks_of manifest) ≡ None) × (map file_view ss.items ≡ map file_of (in_order (stacks_of manifest)))
IsOrder manifest (Cycle id) = cyclic (stacks_of manifest) ≡ Some id.now
