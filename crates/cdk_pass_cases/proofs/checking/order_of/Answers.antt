use Rattle.std.proofs.Common.{◌≡◌, ◌<◌, ◌^◌, ℕ, length, subst}
use Rattle.cdk_pass_cases.proofs.MarkedTrees.{ready, suits}
use Rattle.cdk_tokens.specs.TableView.{marked_in, tokens_in}
use Rattle.cdk_tokens.specs.declared.table.Table.{Table}
use Rattle.cdk_tree.specs.TreeView.{constructs}
use Rattle.cdk_pass_cases.proofs.checking.order_of.Goals as goal

-- how many tokens there are is a number of 64 bits
few : (table : Table) (count : ℕ) → count ≡ length (tokens_in table) → count < 2 ^ 64 → length (tokens_in table) < 2 ^ 64
few table count counted fits = subst (λ (n : ℕ). n < 2 ^ 64) counted fits

pub check_sizes-requires : goal.check_sizes-requires
check_sizes-requires c =
    suits (constructs c.args.tree.now) (tokens_in c.args.table.now) (marked_in c.args.marked.now) c.in-Ok.order c.requires (few c.args.table.now c.len-count.result c.len-count.ensures c.len-count.type_inv) c.in-Ok.ensures.1

pub returns-in-Ok-check_sizes : goal.returns-in-Ok-check_sizes
returns-in-Ok-check_sizes c =
    ready (constructs c.args.tree.now) (tokens_in c.args.table.now) (marked_in c.args.marked.now) c.in-Ok.order c.requires (few c.args.table.now c.len-count.result c.len-count.ensures c.len-count.type_inv) c.in-Ok.ensures.1
