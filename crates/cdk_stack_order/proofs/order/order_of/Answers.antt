use Rattle.std.proofs.Common.{map, sym, ◌∙◌}
use Rattle.cdk_artifacts.specs.Found.{stack_view}
use Rattle.cdk_artifacts.proofs.Acyclic.{placed_acyclic}
use Rattle.cdk_stack_order.proofs.order.order_of.Goals as goal

pub first_cycle-requires : goal.first_cycle-requires
first_cycle-requires c n h = placed_acyclic (map stack_view c.args.stacks.now) c.requires n (sym (c.in_ok-files.ensures.ids n) ∙ h)
