-- What a look at the constructs of a tree refuses (own).
use Rattle.std.specs.Prelude.{ℕ, List, Bool, true, false}
use Rattle.serde_json.specs.Data.{Members}
use Rattle.cdk_tree.specs.Expected.{Expected, is_missing, is_wrong}
use Rattle.cdk_tree.specs.Lists.{list_lazies}
use Rattle.cdk_tree.specs.Placed.{Placed, construct_at}
use Rattle.cdk_tree.specs.TreeView.{constructs}
use Rattle.cdk_tree.specs.declared.tree.Tree.{Tree}
use Rattle.cdk_targets.specs.declared.look.Look.{Look}
use Rattle.cdk_targets.specs.declared.look.Look.TheVariants as looks

-- what is looked for
abbrev pub refuses : List Placed → List Bool → List Members → Look → Expected → Bool
refuses cs lazies scopes looks.Missing x = is_missing cs x
refuses cs lazies scopes looks.Wrong x = is_wrong cs lazies false scopes x
refuses cs lazies scopes looks.WrongInCondition x = is_wrong cs lazies true scopes x

-- what is asked at a construct isn't there
abbrev pub is_refused : Tree → Look → ℕ → Expected → Bool
is_refused t look at x = refuses (constructs t) (list_lazies (constructs t)) (construct_at (constructs t) at).contexts look x
