use Rattle.std.proofs.Common.{List, [], take}
use Rattle.cdk_homes.specs.Kept.{entries_in}
use Rattle.cdk_local_homes.proofs.local.put_attributes.Given as goal
use Rattle.cdk_local_homes.specs.Local.{AreLocal}
use Rattle.cdk_stacks.specs.Made.{AreNamesOf}
use Rattle.cdk_tokens.specs.TableView.{tokens_in}
use Rattle.cdk_tree.specs.Placed.{Placed}

-- once the first tokens were looked at
abbrev pub invariant-loop-number : goal.invariant-loop-number
invariant-loop-number l =
    (cs : List Placed) → AreNamesOf l.names cs → AreLocal (entries_in l.fn.homes) cs [] l.stack → AreLocal (entries_in l.homes) cs (take l.number (tokens_in l.table)) l.stack
