use Rattle.std.proofs.Common.{sym, subst}
use Rattle.cdk_synthesis.specs.Assembly.{AllUtf8}
use Rattle.cdk_synthesis.proofs.FileLemmas.{one_more_utf8}
use Rattle.cdk_synthesis.proofs.files.put_rest.Goals as goal

pub returns-clause-utf8 : goal.returns-clause-utf8
returns-clause-utf8 c = λ old.
    let first = subst AllUtf8 (sym c.in_ok-push.ensures.ok) (one_more_utf8 c.args.files.now c.in_ok-tree_file.tree_file old c.in_ok-tree_file.ensures.utf8) in
    subst AllUtf8 (sym c.in_ok-push-2.ensures.ok) (one_more_utf8 _ c.in_ok-manifest.manifest first c.in_ok-manifest.ensures.utf8)
