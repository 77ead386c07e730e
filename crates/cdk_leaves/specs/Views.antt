-- What the code's scope stands for.
use Rattle.cdk_homes.specs.Kept.{entries_in}
use Rattle.cdk_leaves.specs.Ready as ready
use Rattle.cdk_leaves.specs.declared.scope.Scope.{Scope}
use Rattle.cdk_spelling.specs.Spelled.{homes_for}
use Rattle.cdk_tokens.specs.TableView.{marked_in, tokens_in}

abbrev pub scope_view : Scope → ready.Scope
scope_view s = record { tokens = tokens_in s.table.now; bodies = marked_in s.marked.now; homes = homes_for (entries_in s.homes.now) s.consumer; order = s.order.now }
