use Rattle.std.proofs.Common.{◌≡◌, ◌++◌, Bool, true, false, sym, ap, ◌∙◌}
use Rattle.std.specs.List.{list_any}
use Rattle.cdk_base.specs.declared.code.Code.TheVariants.{LiteralMarker, NoContext}
use Rattle.cdk_language.specs.Construct.{Body, kind_view}
use Rattle.cdk_tree.specs.PlaceFindings.{first, when}
use Rattle.cdk_tree.specs.Placed.{Placed, construct_at}
use Rattle.cdk_tree.specs.TreeView.{constructs}
use Rattle.cdk_contexts.specs.Contexts.{has_marked_run, misses_context, wrong_contexts_at}
use Rattle.cdk_contexts.specs.Expressions.{expressions_in}
use Rattle.cdk_contexts.proofs.contexts.wrong_context.Goals as goal

-- what is wrong, by the two tests
wrong_by : (p : Placed) (b : Body) (marked missing : Bool) → b ≡ p.body → marked ≡ list_any (has_marked_run p.contexts) (expressions_in b) → missing ≡ list_any (misses_context p.contexts) (expressions_in b)
    → when marked LiteralMarker ++ when missing NoContext ≡ wrong_contexts_at p
wrong_by p b marked missing same is_marked is_missing =
    ap (λ m. when m LiteralMarker ++ when missing NoContext) is_marked
    ∙ ap (λ m. when (list_any (has_marked_run p.contexts) (expressions_in b)) LiteralMarker ++ when m NoContext) is_missing
    ∙ ap (λ d. when (list_any (has_marked_run p.contexts) (expressions_in d)) LiteralMarker ++ when (list_any (misses_context p.contexts) (expressions_in d)) NoContext) same

pub returns-then-branch-2 : goal.returns-then-branch-2
returns-then-branch-2 c =
    let p = construct_at (constructs c.args.tree.now) c.args.at in
    let b = kind_view c.node.result.now.kind in
    ap first (wrong_by p b false true c.node.ensures.body (sym c.if-branch.false ∙ c.in_ok-kind_has_flaw.ensures) (sym c.if-branch-2.true ∙ (c.in_ok-kind_has_flaw-2).ensures))

pub returns : goal.returns
returns c =
    let p = construct_at (constructs c.args.tree.now) c.args.at in
    let b = kind_view c.node.result.now.kind in
    ap first (wrong_by p b false false c.node.ensures.body (sym c.if-branch.false ∙ c.in_ok-kind_has_flaw.ensures) (sym c.if-branch-2.false ∙ (c.in_ok-kind_has_flaw-2).ensures))
