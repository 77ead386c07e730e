use Rattle.std.proofs.Common.{◌≡◌, ◌+◌, ◌∷◌, drop, map, sym, ap, ◌∙◌, arith}
use Rattle.std.specs.Prelude.{◌||◌, filter_map, codes}
use Rattle.std.proofs.lemmas.List.{drop_more}
use Rattle.cdk_eval.specs.Assembly.{entries, literal_name, literal_names}
use Rattle.cdk_eval.specs.Reach.{is_among}
use Rattle.cdk_eval.specs.Sections.{section}
use Rattle.cdk_eval.specs.Views.{stack_view}
use Rattle.cdk_scopes.specs.Scopes.{has_name}
use Rattle.cdk_evaluator.proofs.Lookups.{put_all}
use Rattle.cdk_evaluator.proofs.literal_names.literal_names.Goals as goal

pub loop-stack-preserved : goal.loop-stack-preserved
loop-stack-preserved c e =
    let i = c.loop-stack.stack-index in
    let xs = c.args.stacks.now in
    let x = c.stack-item.result in
    let old = has_name c.loop-stack.names e in
    let own = filter_map literal_name (entries (section (codes "Outputs") (stack_view x).template)) in
    let rest = literal_names (map stack_view (drop (i + 1) xs)) in
    let here : drop i xs ≡ x ∷ drop (i + 1) xs = drop_more xs i x (omega arith) ∙ ap (λ y. y ∷ drop (i + 1) xs) (sym c.stack-item.is) in
    c.loop-stack.invariant e ∙ ap (λ ys. old || is_among e (literal_names (map stack_view ys))) here ∙ put_all old e own rest ∙ ap (λ b. b || is_among e rest) (sym (c.in_ok-put_names_of.ensures e))
