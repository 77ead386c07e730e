use Rattle.std.proofs.Common.{◌≡◌, ◌==◌, ℕ, List, [], ◌∷◌, ◌++◌, length, refl, sym, ap, subst, ◌∙◌}
use Rattle.std.proofs.lemmas.Result.{on_ok_weaker}
use Rattle.serde_json.specs.Data.{Data}
use Rattle.serde_json.specs.View.{view}
use Rattle.cdk_keeping.proofs.MoreKept.{nil_of, not_nil_of, nothing_missing}
use Rattle.cdk_keeping.specs.Steps.{StepsOver, with_result}
use Rattle.cdk_leaves.specs.Kept.{results_in}
use Rattle.cdk_leaves.specs.Lazies.{Results}
use Rattle.cdk_leaves.specs.Views.{scope_view}
use Rattle.cdk_rendering.specs.Missing.{value_missing}
use Rattle.cdk_rendering.specs.TokenJson.{value_json}
use Rattle.cdk_rendering.specs.Views.{json_in, missing_in}
use Rattle.cdk_keeping.proofs.keeping.keep_value.Goals as goal

is_kept : (missing : List ℕ) (found d : Data) (n : ℕ) (before after : Results) (waiting : List ℕ) → missing ≡ [] → found ≡ d
    → ((m : ℕ) → after m ≡ with_result before n found m) → StepsOver missing d n before waiting after waiting
is_kept missing found d n before after waiting none same kept =
    let P : List ℕ → Type 0 = λ ms. StepsOver ms d n before waiting after waiting in
    subst P (sym none) ((λ m. kept m ∙ ap (λ x. with_result before n x m) same), refl)

waits : (missing : List ℕ) (d : Data) (n : ℕ) (before : Results) (old new : List ℕ) → (missing ≡ [] → ⊥) → new ≡ old ++ n ∷ missing → StepsOver missing d n before old before new
waits [] d n before old new some more = absurd (some refl)
waits (x ∷ xs) d n before old new some more = ((λ m. refl), more)

pub returns-then-is_empty-clause-ok : goal.returns-then-is_empty-clause-ok
returns-then-is_empty-clause-ok c =
    let s = scope_view c.args.scope.now in
    let kept = results_in c.args.kept.now in
    let d = view c.args.value.now in
    let empty = nil_of c.value_json.new.missing.items (ap (λ ns. length ns == 0) (sym c.as_slice-missing.ensures.value) ∙ (sym c.is_empty.ensures ∙ c.if-is_empty.true)) in
    let none = nothing_missing s kept d c.new-missing.result.items c.value_json.new.missing.items c.new-missing.ensures.items c.in_ok-json.ensures.missing empty in
    on_ok_weaker c.put.result
    (is_kept (value_missing (missing_in s kept) d) (view c.in_ok-json.json) (value_json (json_in s kept) d) c.args.lazy kept (results_in c.put.new.self) c.args.waiting.now.items none c.in_ok-json.ensures.json)
    c.put.ensures.ok

pub returns-clause-ok : goal.returns-clause-ok
returns-clause-ok c =
    let s = scope_view c.args.scope.now in
    let kept = results_in c.args.kept.now in
    let d = view c.args.value.now in
    let lost = value_missing (missing_in s kept) d in
    let read = c.as_slice-missing.result.now in
    let some = not_nil_of read (sym c.is_empty.ensures ∙ c.if-is_empty.false) in
    let same : read ≡ lost = c.as_slice-missing.ensures.value ∙ (c.in_ok-json.ensures.missing ∙ ap (λ ns. ns ++ lost) c.new-missing.ensures.items) in
    on_ok_weaker c.wait_behind.result
    (λ more. waits lost (value_json (json_in s kept) d) c.args.lazy kept c.args.waiting.now.items c.wait_behind.new.waiting.items
    (λ none. some (same ∙ none))
    (more ∙ ap (λ ns. c.args.waiting.now.items ++ c.args.lazy ∷ ns) same))
    c.wait_behind.ensures
