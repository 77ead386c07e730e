use Rattle.std.proofs.Common.{◌≡◌, ℕ, true, sym, ap, ◌∙◌, subst}
use Rattle.cdk_template.specs.Sources.{constructs_in}
use Rattle.cdk_tree.specs.Placed.{construct_at, is_stack}
use Rattle.cdk_synthesis.specs.Assembly.{AllUtf8}
use Rattle.cdk_synthesis.specs.Values.{CanBeMade}
use Rattle.cdk_synthesis.proofs.FileLemmas.{one_more_utf8}
use Rattle.cdk_synthesis.proofs.StackLemmas.{is_among}
use Rattle.cdk_synthesis.proofs.files.put_template.Goals as goal

pub template_of-requires-clause-made : goal.template_of-requires-clause-made
template_of-requires-clause-made c =
    let cs = constructs_in c.args.sources.now in
    let own : is_stack (construct_at cs c.args.at).body ≡ true = ap is_stack (sym c.node.ensures.body) ∙ sym c.if-not-is_stack.ensures in
    let P : ℕ → Type 0 = λ n. CanBeMade c.args.sources.now n in
    subst P (sym (c.requires.made.alone c.args.at (is_among cs c.args.at c.requires.within own))) c.requires.made

pub returns-in-Ok-push-clause-utf8 : goal.returns-in-Ok-push-clause-utf8
returns-in-Ok-push-clause-utf8 c = λ old. subst AllUtf8 (sym c.in-Ok-push.ensures.ok) (one_more_utf8 c.args.files.now c.in-Ok.file old c.in-Ok.ensures.utf8)
