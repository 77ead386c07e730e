use Rattle.std.proofs.Common.{◌≡◌, ◌∷◌, ◌++◌, ◌+◌, ◌||◌, [], drop, string_bytes, sym, ap, ◌∙◌, arith, append_assoc}
use Rattle.std.proofs.lemmas.List.{drop_all, drop_more}
use Rattle.cdk_language.specs.Expression.{expressions_view, view}
use Rattle.cdk_language.specs.Runs.{is_marked_run}
use Rattle.cdk_tree.specs.Placed.{construct_at}
use Rattle.cdk_tree.specs.TreeView.{constructs}
use Rattle.cdk_contexts.specs.Contexts.{literals_of, pieces_literals}
use Rattle.cdk_contexts.proofs.contexts.+scans.Goals as goal

pub scan_pieces-loop-piece-preserved : goal.scan_pieces-loop-piece-preserved
scan_pieces-loop-piece-preserved t c = λ more.
    let l = c.loop-piece in
    let scopes = (construct_at (constructs c.args.tree.now) c.args.at).contexts in
    let xs = c.as_slice-piece-items.result.now in
    let x = c.piece-item.result in
    let rest = drop (l.piece-index + 1) xs in
    let here : drop l.piece-index xs ≡ x ∷ rest = drop_more xs l.piece-index x (omega arith) ∙ ap (λ y. y ∷ rest) (sym c.piece-item.is) in
    let run = string_bytes l.run in
    let next = string_bytes c.scan.new.run in
    let later = pieces_literals scopes (expressions_view rest) ++ more in
    l.invariant more ∙ ap (λ ys. is_marked_run run (pieces_literals scopes (expressions_view ys) ++ more)) here
    ∙ ap (is_marked_run run) (append_assoc (literals_of scopes (view x)) (pieces_literals scopes (expressions_view rest)) more)
    ∙ c.in_ok-scan.ensures later ∙ ap (λ b. b || is_marked_run next later) c.if-branch.false

pub scan_pieces-returns-then-branch : goal.scan_pieces-returns-then-branch
scan_pieces-returns-then-branch t c = λ more.
    let l = c.loop-piece in
    let scopes = (construct_at (constructs c.args.tree.now) c.args.at).contexts in
    let xs = c.as_slice-piece-items.result.now in
    let x = c.piece-item.result in
    let rest = drop (l.piece-index + 1) xs in
    let here : drop l.piece-index xs ≡ x ∷ rest = drop_more xs l.piece-index x (omega arith) ∙ ap (λ y. y ∷ rest) (sym c.piece-item.is) in
    let run = string_bytes l.run in
    let next = string_bytes c.scan.new.run in
    let later = pieces_literals scopes (expressions_view rest) ++ more in
    ap (λ ys. is_marked_run (string_bytes c.args.run.now) (pieces_literals scopes (expressions_view ys) ++ more)) (sym c.as_slice-piece-items.ensures)
    ∙ l.invariant more ∙ ap (λ ys. is_marked_run run (pieces_literals scopes (expressions_view ys) ++ more)) here
    ∙ ap (is_marked_run run) (append_assoc (literals_of scopes (view x)) (pieces_literals scopes (expressions_view rest)) more)
    ∙ c.in_ok-scan.ensures later ∙ ap (λ b. b || is_marked_run next later) c.if-branch.true

pub scan_pieces-returns : goal.scan_pieces-returns
scan_pieces-returns t c = λ more.
    let l = c.loop-piece in
    let scopes = (construct_at (constructs c.args.tree.now) c.args.at).contexts in
    let xs = c.as_slice-piece-items.result.now in
    let none : drop l.piece-index xs ≡ [] = drop_all l.piece-index xs (omega arith) in
    ap (λ ys. is_marked_run (string_bytes c.args.run.now) (pieces_literals scopes (expressions_view ys) ++ more)) (sym c.as_slice-piece-items.ensures)
    ∙ l.invariant more ∙ ap (λ ys. is_marked_run (string_bytes l.run) (pieces_literals scopes (expressions_view ys) ++ more)) none
