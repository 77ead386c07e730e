use Rattle.std.proofs.Common.{◌≡◌, ◌∷◌, ◌+◌, drop, string_bytes, sym, ap, ◌∙◌, arith}
use Rattle.std.proofs.lemmas.List.{drop_more}
use Rattle.serde_json.specs.Data.{string, put}
use Rattle.serde_json.specs.View.{view, members_view}
use Rattle.serde_json.specs.declared.value.Value.{String}
use Rattle.serde_json.proofs.Views.{members_view-insert_entry}
use Rattle.cdk_language.specs.Application.{laid_over}
use Rattle.cdk_settings.proofs.Seen.{view-String}
use Rattle.cdk_settings.proofs.laid.lay_over.Goals as goal

pub loop-setting-preserved : goal.loop-setting-preserved
loop-setting-preserved c =
    let l = c.loop-setting in
    let ss = c.args.settings.now in
    let s = c.setting-item.result in
    let here : drop l.setting-index ss ≡ s ∷ drop (l.setting-index + 1) ss = drop_more ss l.setting-index s (omega arith) ∙ ap (λ y. y ∷ drop (l.setting-index + 1) ss) (sym c.setting-item.is) in
    let ms = members_view l.context.entries in
    let v = String c.in_ok-value.value in
    let seen : view v ≡ string s.value = view-String c.in_ok-value.value ∙ ap string (c.in_ok-value.ensures.ok ∙ c.as_str-in-loop-setting.ensures) in
    let named : string_bytes c.in_ok-key.key ≡ s.key = c.in_ok-key.ensures.ok ∙ c.as_str.ensures in
    let inserted : members_view c.insert.new.self.entries ≡ put s.key (string s.value) ms =
    ap members_view c.in_ok-insert.ensures.entries ∙ members_view-insert_entry l.context.entries c.in_ok-key.key v ∙ ap (λ k. put k (view v) ms) named ∙ ap (λ d. put s.key d ms) seen in
    l.invariant ∙ ap (laid_over ms) here ∙ ap (λ xs. laid_over xs (drop (l.setting-index + 1) ss)) (sym inserted)
