use Rattle.std.proofs.Common.{◌≡◌, ◌+◌, ◌∷◌, ℕ, List, Some, None, cond, drop, map, sym, ap, ◌∙◌, arith}
use Rattle.std.specs.Prelude.{bytes_eq}
use Rattle.std.specs.Option.{option_or}
use Rattle.std.proofs.lemmas.List.{drop_more}
use Rattle.cdk_eval.specs.Stack.{lookup}
use Rattle.cdk_scopes.specs.Scopes.{exports_view}
use Rattle.cdk_evaluator.specs.Made.{export_pair}
use Rattle.cdk_evaluator.proofs.Lookups.{lookup_step}
use Rattle.cdk_evaluator.proofs.report.add_all.Goals as goal

pub loop-export-preserved : goal.loop-export-preserved
loop-export-preserved c e =
    let l = c.loop-export in
    let i = l.export-index in
    let xs = c.args.made.now in
    let x = c.export-item.result in
    let rest = map export_pair (drop (i + 1) xs) in
    let here : drop i xs ≡ x ∷ drop (i + 1) xs = drop_more xs i x (omega arith) ∙ ap (λ y. y ∷ drop (i + 1) xs) (sym c.export-item.is) in
    let o = exports_view l.exports e in
    let added : exports_view c.add.new.self e ≡ option_or o (cond (bytes_eq x.name e) (Some x.text) None) =
    c.in_ok-add.ensures e ∙ ap (λ (n : List ℕ). option_or o (cond (bytes_eq n e) (Some c.as_str-in-loop-export.result.now) None)) c.as_str.ensures ∙ ap (λ (t : List ℕ). option_or o (cond (bytes_eq x.name e) (Some t) None)) c.as_str-in-loop-export.ensures in
    l.invariant e ∙ ap (λ ys. option_or o (lookup e (map export_pair ys))) here ∙ lookup_step o e x.name x.text rest ∙ ap (λ v. option_or v (lookup e rest)) (sym added)
