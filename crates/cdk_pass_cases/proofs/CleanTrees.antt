-- The tree that is built of a clean application is clean.
use Rattle.std.proofs.Common.{subst, sym}
use Rattle.std.specs.Prelude.{Result, Ok, Err, IfOk}
use Rattle.cdk_base.specs.declared.fault.Fault.{Fault}
use Rattle.cdk_base.specs.declared.fault.Fault.TheVariants as faults
use Rattle.cdk_expansion.specs.Clean.{TreeIsClean}
use Rattle.cdk_language.specs.Construct.{Application}
use Rattle.cdk_tree.specs.Placed.{constructs_of}
use Rattle.cdk_tree.specs.TreeView.{Builds, constructs}
use Rattle.cdk_tree.specs.declared.tree.Tree.{Tree}

pub built_clean : (r : Result Tree Fault) (a : Application) → Builds r a → TreeIsClean (constructs_of a) → IfOk r (λ t. TreeIsClean (constructs t))
built_clean (Ok t) a h clean = subst TreeIsClean (sym h.0) clean
built_clean (Err faults.Memory) a h clean = tt
built_clean (Err (faults.App code place)) a h clean = tt
built_clean (Err (faults.Refused place name text)) a h clean = tt
