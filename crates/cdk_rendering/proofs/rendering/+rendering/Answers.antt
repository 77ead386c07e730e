use Rattle.std.proofs.Common.{◌≡◌, ◌∷◌, ◌++◌, ◌+◌, [], codes, drop, Some, None, option_and_then, option_map, unwrap_or, refl, sym, ap, ap₂, ◌∙◌, append-nil, arith, rules}
use Rattle.std.proofs.lemmas.List.{drop_all, drop_more}
use Rattle.std.proofs.lemmas.Result.{IfOk-weaker, on_ok_weaker}
use Rattle.serde_json.proofs.Views.{view-Array}
use Rattle.serde_json.specs.Data.{array, item, number, string, unsigned}
use Rattle.serde_json.specs.View.{items_view, members_view, view}
use Rattle.cdk_leaves.specs.Kept.{results_in}
use Rattle.cdk_leaves.specs.Lazies.{shown}
use Rattle.cdk_leaves.specs.Views.{scope_view}
use Rattle.cdk_markers.specs.Cut.{cut_of}
use Rattle.cdk_markers.specs.Left.{left, piece_view}
use Rattle.cdk_markers.specs.ListKey.{list_key_of}
use Rattle.cdk_plain.specs.Rendered.{attribute_json, import_json, one, rendered_join, split_json, three, two}
use Rattle.cdk_rendering.proofs.FormsLaid.{form_laid, form_lost, three_laid}
use Rattle.cdk_rendering.proofs.Laying.{before_none, found_missing, items_before, items_then, members_in_order, members_onto, missing_as, missing_of_known, missing_of_two, missing_then, pieces_then, unknown_array, unknown_missing}
use Rattle.cdk_rendering.proofs.TokenFound.{found_of_token, same_known, token_below}
use Rattle.cdk_rendering.proofs.Weights.{form_weight, items_weight, lighter, weight}
use Rattle.cdk_rendering.specs.Missing.{form_missing, items_missing, piece_missing, pieces_missing, value_missing}
use Rattle.cdk_rendering.specs.TokenJson.{form_json, items_json, pieces_json}
use Rattle.cdk_rendering.specs.Views.{json_below, missing_below}
use Rattle.cdk_spelling.specs.Assembled.{assembled_items}
use Rattle.cdk_tokens.specs.TableView.{tokens_in}
use Rattle.cdk_tokens.specs.Token.{find_token}
use Rattle.cdk_tokens.specs.Views.{form_view, token_view}
use Rattle.cdk_rendering.proofs.rendering.+rendering.Goals as goal

pub items_json-loop-item-preserved : goal.items_json-loop-item-preserved
items_json-loop-item-preserved t c =
    let l = c.loop-item in
    let known = json_below (scope_view c.args.scope.now) (results_in c.args.kept.now) c.args.below in
    let lost = missing_below (scope_view c.args.scope.now) (results_in c.args.kept.now) c.args.below in
    let xs = c.deref-item-items.result.now in
    let x = c.item-item.result in
    let ys = drop (l.item-index + 1) xs in
    let here : items_view (drop l.item-index xs) ≡ item (view x) (items_view ys) = ap items_view (drop_more xs l.item-index x (omega arith) ∙ ap (λ y. y ∷ ys) (sym c.item-item.is)) in
    let weights = ap items_weight here in record {
      json = items_then known (items_json known (items_view xs)) l.values.items c.push.new.self.items c.in_ok-value.value (view x) (items_view ys) (items_view (drop l.item-index xs))
          l.invariant.json here c.in_ok-value.ensures.json c.in_ok-push.ensures.items;
      missing = missing_then (c.args.missing.now.items ++ items_missing lost (items_view xs)) l.missing.items c.json_below.new.missing.items
          (value_missing lost (view x)) (items_missing lost (items_view ys)) (items_missing lost (items_view (drop l.item-index xs)))
          l.invariant.missing (ap (items_missing lost) here) c.in_ok-value.ensures.missing;
      lighter = omega (arith, weights, l.invariant.lighter);
    }

pub items_json-returns-clause-json : goal.items_json-returns-clause-json
items_json-returns-clause-json t c =
    let l = c.loop-item in
    let known = json_below (scope_view c.args.scope.now) (results_in c.args.kept.now) c.args.below in
    let xs = c.deref-item-items.result.now in
    let none : drop l.item-index xs ≡ [] = drop_all l.item-index xs (omega arith) in
    sym (ap (λ vs. items_json known (items_view vs)) (sym c.deref-item-items.ensures.value)
    ∙ (l.invariant.json ∙ (ap (λ vs. items_before l.values.items (items_json known (items_view vs))) none ∙ before_none l.values.items)))

pub members_json-returns-clause-json : goal.members_json-returns-clause-json
members_json-returns-clause-json t c =
    let l = c.loop-key in
    let known = json_below (scope_view c.args.scope.now) (results_in c.args.kept.now) c.args.below in
    let rest = ap (λ xs. members_onto known (members_view l.values.entries) (members_view xs)) c.in-None.ensures.steps.0 in
    sym (sym (members_in_order known c.args.members.now.entries c.iter-key-items.ensures.ordered) ∙ (l.invariant.json ∙ rest))

pub text_json-loop-piece-preserved : goal.text_json-loop-piece-preserved
text_json-loop-piece-preserved t c =
    let l = c.loop-piece in
    let known = json_below (scope_view c.args.scope.now) (results_in c.args.kept.now) c.args.below in
    let lost = missing_below (scope_view c.args.scope.now) (results_in c.args.kept.now) c.args.below in
    let p = piece_view c.in-Some.piece in
    let rest = left c.next.new.self in
    let here : left l.piece-iterator ≡ p ∷ rest = c.in-Some.ensures.steps in record {
      can_next = tt;
      is_finite = tt;
      json = pieces_then known (pieces_json known (cut_of c.args.text.now)) l.parts.items c.push.new.self.items c.in_ok-part.part p rest (left l.piece-iterator)
          l.invariant.json here c.in_ok-part.ensures.json c.in_ok-push.ensures.items;
      missing = missing_then (c.args.missing.now.items ++ pieces_missing lost (cut_of c.args.text.now)) l.missing.items c.piece_json.new.missing.items
          (piece_missing lost p) (pieces_missing lost rest) (pieces_missing lost (left l.piece-iterator))
          l.invariant.missing (ap (pieces_missing lost) here) c.in_ok-part.ensures.missing;
    }

pub text_json-returns-clause-json : goal.text_json-returns-clause-json
text_json-returns-clause-json t c =
    let l = c.loop-piece in
    let known = json_below (scope_view c.args.scope.now) (results_in c.args.kept.now) c.args.below in
    let all : items_view l.parts.items ≡ pieces_json known (cut_of c.args.text.now) =
    sym (l.invariant.json ∙ (ap (λ ps. items_before l.parts.items (pieces_json known ps)) c.in-None.ensures.steps.0 ∙ before_none l.parts.items)) in
    IfOk-weaker c.assembled.result _ _ (λ v h. h ∙ ap assembled_items all) c.assembled.ensures

pub key_json-form_json-requires : goal.key_json-form_json-requires
key_json-form_json-requires t c =
    let low = lighter (tokens_in c.args.scope.now.table.now) (token_view c.in-Some-token.token.now) c.in-Some.number c.args.below (sym c.in-Some-token.ensures) c.if-number-below.false in search (rules, low)

pub key_json-returns-clause-json : goal.key_json-returns-clause-json
key_json-returns-clause-json t c =
    let s = scope_view c.args.scope.now in
    let n = c.in-Some.number in
    let found : find_token s.tokens c.args.key.now ≡ Some n = sym c.find.ensures ∙ c.in-Some.is in
    found_of_token (form_json s.homes (shown (results_in c.args.kept.now))) s.tokens c.args.below n c.args.key.now (token_view c.in-Some-token.token.now) (view c.in_ok-json.json)
    found c.if-number-below.false (sym c.in-Some-token.ensures) c.in_ok-json.ensures.json

pub key_json-returns-clause-missing : goal.key_json-returns-clause-missing
key_json-returns-clause-missing t c =
    let s = scope_view c.args.scope.now in
    let kept = results_in c.args.kept.now in
    let n = c.in-Some.number in
    let token = token_view c.in-Some-token.token.now in
    let found : find_token s.tokens c.args.key.now ≡ Some n = sym c.find.ensures ∙ c.in-Some.is in
    missing_of_known (missing_below s kept c.args.below c.args.key.now) c.args.missing.now.items c.form_json.new.missing.items (form_missing kept (missing_below s kept n) token.form)
    c.in_ok-json.ensures.missing
    (token_below (form_missing kept) s.tokens c.args.below n c.args.key.now token found c.if-number-below.false (sym c.in-Some-token.ensures))

pub json_below-returns-in-Some-clause-missing : goal.json_below-returns-in-Some-clause-missing
json_below-returns-in-Some-clause-missing t c =
    let s = scope_view c.args.scope.now in
    let kept = results_in c.args.kept.now in
    let known = json_below s kept c.args.below in
    let lost = missing_below s kept c.args.below in
    let d = view c.args.value.now in
    let ds = items_view c.in-Array.items.items in
    let seen : d ≡ array ds = ap view c.in-Array.is ∙ view-Array c.in-Array.items in
    let found : Some (view c.in-Some.json) ≡ option_and_then known (list_key_of d) = ap (option_map view) (sym c.in-Some.is) ∙ c.in_ok-json-in-Array.ensures.json in
    missing_as c.args.missing.now.items c.list_json.new.missing.items (unwrap_or (option_and_then lost (list_key_of d)) []) (value_missing lost d)
    c.in_ok-json-in-Array.ensures.missing
    (found_missing known lost (same_known (form_json s.homes (shown kept)) (form_missing kept) s.tokens c.args.below) d ds (view c.in-Some.json) seen found)

pub json_below-returns-in_ok-values-in-Array-clause-json : goal.json_below-returns-in_ok-values-in-Array-clause-json
json_below-returns-in_ok-values-in-Array-clause-json t c =
    let known = json_below (scope_view c.args.scope.now) (results_in c.args.kept.now) c.args.below in
    let d = view c.args.value.now in
    let seen = ap view c.in-Array.is ∙ view-Array c.in-Array.items in
    let none : None ≡ option_and_then known (list_key_of d) = ap (option_map view) (sym c.in_default.is) ∙ c.in_ok-json-in-Array.ensures.json in
    view-Array c.in_ok-values-in-Array.values ∙ (ap array c.in_ok-values-in-Array.ensures.json ∙ unknown_array known d (items_view c.in-Array.items.items) seen none)

pub json_below-returns-in_ok-values-in-Array-clause-missing : goal.json_below-returns-in_ok-values-in-Array-clause-missing
json_below-returns-in_ok-values-in-Array-clause-missing t c =
    let s = scope_view c.args.scope.now in
    let kept = results_in c.args.kept.now in
    let known = json_below s kept c.args.below in
    let lost = missing_below s kept c.args.below in
    let d = view c.args.value.now in
    let ds = items_view c.in-Array.items.items in
    let seen : d ≡ array ds = ap view c.in-Array.is ∙ view-Array c.in-Array.items in
    let none : None ≡ option_and_then known (list_key_of d) = ap (option_map view) (sym c.in_default.is) ∙ c.in_ok-json-in-Array.ensures.json in
    missing_of_two c.args.missing.now.items c.list_json.new.missing.items c.items_json.new.missing.items
    (unwrap_or (option_and_then lost (list_key_of d)) []) (items_missing lost ds) (value_missing lost d)
    c.in_ok-json-in-Array.ensures.missing c.in_ok-values-in-Array.ensures.missing
    (unknown_missing known lost (same_known (form_json s.homes (shown kept)) (form_missing kept) s.tokens c.args.below) d ds seen none)

pub form_json-returns-in-Pseudo-clause-json : goal.form_json-returns-in-Pseudo-clause-json
form_json-returns-in-Pseudo-clause-json t c =
    let s = scope_view c.args.scope.now in
    let kept = results_in c.args.kept.now in
    form_laid s.homes (shown kept) (json_below s kept c.args.below) c.pseudo_value.result _ (form_view c.args.form.now) _ (ap form_view c.in-Pseudo.is) refl c.pseudo_value.ensures

pub form_json-returns-in-Pseudo-clause-missing : goal.form_json-returns-in-Pseudo-clause-missing
form_json-returns-in-Pseudo-clause-missing t c =
    let s = scope_view c.args.scope.now in
    let kept = results_in c.args.kept.now in
    form_lost kept (missing_below s kept c.args.below) c.pseudo_value.result c.args.missing.now.items c.args.missing.now.items (form_view c.args.form.now) _ (ap form_view c.in-Pseudo.is) (sym (append-nil c.args.missing.now.items))

pub form_json-returns-in-Ref-clause-json : goal.form_json-returns-in-Ref-clause-json
form_json-returns-in-Ref-clause-json t c =
    let s = scope_view c.args.scope.now in
    let kept = results_in c.args.kept.now in
    form_laid s.homes (shown kept) (json_below s kept c.args.below) c.reference_value.result _ (form_view c.args.form.now) _ (ap form_view c.in-Ref.is) refl c.reference_value.ensures

pub form_json-returns-in-Ref-clause-missing : goal.form_json-returns-in-Ref-clause-missing
form_json-returns-in-Ref-clause-missing t c =
    let s = scope_view c.args.scope.now in
    let kept = results_in c.args.kept.now in
    form_lost kept (missing_below s kept c.args.below) c.reference_value.result c.args.missing.now.items c.args.missing.now.items (form_view c.args.form.now) _ (ap form_view c.in-Ref.is) (sym (append-nil c.args.missing.now.items))

pub form_json-returns-in-GetAtt-clause-json : goal.form_json-returns-in-GetAtt-clause-json
form_json-returns-in-GetAtt-clause-json t c =
    let s = scope_view c.args.scope.now in
    let kept = results_in c.args.kept.now in
    form_laid s.homes (shown kept) (json_below s kept c.args.below) c.attribute.result
    (attribute_json c.as_str.result.now (s.homes.attribute c.in-GetAtt.at c.as_str.result.now))
    (form_view c.args.form.now) _ (ap form_view c.in-GetAtt.is)
    (ap (λ a. attribute_json a (s.homes.attribute c.in-GetAtt.at a)) c.as_str.ensures)
    c.attribute.ensures

pub form_json-returns-in-GetAtt-clause-missing : goal.form_json-returns-in-GetAtt-clause-missing
form_json-returns-in-GetAtt-clause-missing t c =
    let s = scope_view c.args.scope.now in
    let kept = results_in c.args.kept.now in
    form_lost kept (missing_below s kept c.args.below) c.attribute.result c.args.missing.now.items c.args.missing.now.items (form_view c.args.form.now) _ (ap form_view c.in-GetAtt.is) (sym (append-nil c.args.missing.now.items))

pub form_json-returns-in_ok-list-in-Join-clause-json : goal.form_json-returns-in_ok-list-in-Join-clause-json
form_json-returns-in_ok-list-in-Join-clause-json t c =
    let s = scope_view c.args.scope.now in
    let kept = results_in c.args.kept.now in
    form_laid s.homes (shown kept) (json_below s kept c.args.below) c.join.result
    (rendered_join c.as_str-in-Join.result.now (view c.in_ok-list-in-Join.list))
    (form_view c.args.form.now) _ (ap form_view c.in-Join.is)
    (ap₂ rendered_join c.as_str-in-Join.ensures c.in_ok-list-in-Join.ensures.json)
    c.join.ensures

pub form_json-returns-in_ok-list-in-Join-clause-missing : goal.form_json-returns-in_ok-list-in-Join-clause-missing
form_json-returns-in_ok-list-in-Join-clause-missing t c =
    let s = scope_view c.args.scope.now in
    let kept = results_in c.args.kept.now in
    form_lost kept (missing_below s kept c.args.below) c.join.result c.args.missing.now.items c.json_below.new.missing.items (form_view c.args.form.now) _ (ap form_view c.in-Join.is) c.in_ok-list-in-Join.ensures.missing

pub form_json-returns-in_ok-list-in-Select-clause-json : goal.form_json-returns-in_ok-list-in-Select-clause-json
form_json-returns-in_ok-list-in-Select-clause-json t c =
    let s = scope_view c.args.scope.now in
    let kept = results_in c.args.kept.now in
    form_laid s.homes (shown kept) (json_below s kept c.args.below) c.select.result
    (one (codes "Fn::Select") (two (number (unsigned c.in-Select.index)) (view c.in_ok-list-in-Select.list)))
    (form_view c.args.form.now) _ (ap form_view c.in-Select.is)
    (ap (λ d. one (codes "Fn::Select") (two (number (unsigned c.in-Select.index)) d)) c.in_ok-list-in-Select.ensures.json)
    c.select.ensures

pub form_json-returns-in_ok-list-in-Select-clause-missing : goal.form_json-returns-in_ok-list-in-Select-clause-missing
form_json-returns-in_ok-list-in-Select-clause-missing t c =
    let s = scope_view c.args.scope.now in
    let kept = results_in c.args.kept.now in
    form_lost kept (missing_below s kept c.args.below) c.select.result c.args.missing.now.items c.json_below-in-Select.new.missing.items (form_view c.args.form.now) _ (ap form_view c.in-Select.is) c.in_ok-list-in-Select.ensures.missing

pub form_json-returns-in_ok-text-in-Split-clause-json : goal.form_json-returns-in_ok-text-in-Split-clause-json
form_json-returns-in_ok-text-in-Split-clause-json t c =
    let s = scope_view c.args.scope.now in
    let kept = results_in c.args.kept.now in
    form_laid s.homes (shown kept) (json_below s kept c.args.below) c.split.result
    (split_json c.as_str-in-Split.result.now (view c.in_ok-text-in-Split.text))
    (form_view c.args.form.now) _ (ap form_view c.in-Split.is)
    (ap₂ split_json c.as_str-in-Split.ensures c.in_ok-text-in-Split.ensures.json)
    c.split.ensures

pub form_json-returns-in_ok-text-in-Split-clause-missing : goal.form_json-returns-in_ok-text-in-Split-clause-missing
form_json-returns-in_ok-text-in-Split-clause-missing t c =
    let s = scope_view c.args.scope.now in
    let kept = results_in c.args.kept.now in
    form_lost kept (missing_below s kept c.args.below) c.split.result c.args.missing.now.items c.json_below-in-Split.new.missing.items (form_view c.args.form.now) _ (ap form_view c.in-Split.is) c.in_ok-text-in-Split.ensures.missing

pub form_json-returns-in_ok-yes-in-If-clause-json : goal.form_json-returns-in_ok-yes-in-If-clause-json
form_json-returns-in_ok-yes-in-If-clause-json t c =
    let s = scope_view c.args.scope.now in
    let kept = results_in c.args.kept.now in
    form_laid s.homes (shown kept) (json_below s kept c.args.below) c.choice.result
    (one (codes "Fn::If") (three (string c.name.result.now) (view c.in_ok-yes-in-If.yes) (view c.in_ok-yes-in-If.no)))
    (form_view c.args.form.now) _ (ap form_view c.in-If.is)
    (three_laid (codes "Fn::If") c.name.result.now (s.homes.condition c.in-If.at) (view c.in_ok-yes-in-If.yes) _ (view c.in_ok-yes-in-If.no) _ c.name.ensures c.in_ok-yes-in-If.ensures.json.0 c.in_ok-yes-in-If.ensures.json.1)
    c.choice.ensures

pub form_json-returns-in_ok-yes-in-If-clause-missing : goal.form_json-returns-in_ok-yes-in-If-clause-missing
form_json-returns-in_ok-yes-in-If-clause-missing t c =
    let s = scope_view c.args.scope.now in
    let kept = results_in c.args.kept.now in
    form_lost kept (missing_below s kept c.args.below) c.choice.result c.args.missing.now.items c.two_json.new.missing.items (form_view c.args.form.now) _ (ap form_view c.in-If.is) c.in_ok-yes-in-If.ensures.missing

pub form_json-returns-in_ok-first-in-FindInMap-clause-json : goal.form_json-returns-in_ok-first-in-FindInMap-clause-json
form_json-returns-in_ok-first-in-FindInMap-clause-json t c =
    let s = scope_view c.args.scope.now in
    let kept = results_in c.args.kept.now in
    form_laid s.homes (shown kept) (json_below s kept c.args.below) c.find_in_map.result
    (one (codes "Fn::FindInMap") (three (string c.name-in-FindInMap.result.now) (view c.in_ok-first-in-FindInMap.first) (view c.in_ok-first-in-FindInMap.second)))
    (form_view c.args.form.now) _ (ap form_view c.in-FindInMap.is)
    (three_laid (codes "Fn::FindInMap") c.name-in-FindInMap.result.now (s.homes.mapping c.in-FindInMap.at) (view c.in_ok-first-in-FindInMap.first) _ (view c.in_ok-first-in-FindInMap.second) _ c.name-in-FindInMap.ensures c.in_ok-first-in-FindInMap.ensures.json.0 c.in_ok-first-in-FindInMap.ensures.json.1)
    c.find_in_map.ensures

pub form_json-returns-in_ok-first-in-FindInMap-clause-missing : goal.form_json-returns-in_ok-first-in-FindInMap-clause-missing
form_json-returns-in_ok-first-in-FindInMap-clause-missing t c =
    let s = scope_view c.args.scope.now in
    let kept = results_in c.args.kept.now in
    form_lost kept (missing_below s kept c.args.below) c.find_in_map.result c.args.missing.now.items c.two_json-in-FindInMap.new.missing.items (form_view c.args.form.now) _ (ap form_view c.in-FindInMap.is) c.in_ok-first-in-FindInMap.ensures.missing

pub form_json-returns-in-ImportValue-clause-json : goal.form_json-returns-in-ImportValue-clause-json
form_json-returns-in-ImportValue-clause-json t c =
    let s = scope_view c.args.scope.now in
    let kept = results_in c.args.kept.now in
    form_laid s.homes (shown kept) (json_below s kept c.args.below) c.import_value.result
    (import_json c.as_str-in-ImportValue.result.now)
    (form_view c.args.form.now) _ (ap form_view c.in-ImportValue.is)
    (ap import_json c.as_str-in-ImportValue.ensures)
    c.import_value.ensures

pub form_json-returns-in-ImportValue-clause-missing : goal.form_json-returns-in-ImportValue-clause-missing
form_json-returns-in-ImportValue-clause-missing t c =
    let s = scope_view c.args.scope.now in
    let kept = results_in c.args.kept.now in
    form_lost kept (missing_below s kept c.args.below) c.import_value.result c.args.missing.now.items c.args.missing.now.items (form_view c.args.form.now) _ (ap form_view c.in-ImportValue.is) (sym (append-nil c.args.missing.now.items))

pub form_json-returns-in-Lazy-clause-json : goal.form_json-returns-in-Lazy-clause-json
form_json-returns-in-Lazy-clause-json t c =
    let s = scope_view c.args.scope.now in
    let kept = results_in c.args.kept.now in
    form_laid s.homes (shown kept) (json_below s kept c.args.below) c.lazy_json.result
    (shown kept c.in-Lazy.lazy)
    (form_view c.args.form.now) _ (ap form_view c.in-Lazy.is)
    (refl)
    c.lazy_json.ensures.json

pub form_json-returns-in-Lazy-clause-missing : goal.form_json-returns-in-Lazy-clause-missing
form_json-returns-in-Lazy-clause-missing t c =
    let s = scope_view c.args.scope.now in
    let kept = results_in c.args.kept.now in
    let form = form_missing kept (missing_below s kept c.args.below) in
    on_ok_weaker c.lazy_json.result (λ more. more ∙ ap (λ f. c.args.missing.now.items ++ form f) (sym (ap form_view c.in-Lazy.is))) c.lazy_json.ensures.missing

pub two_json-json_below-requires : goal.two_json-json_below-requires
two_json-json_below-requires t c =
    omega arith

pub two_json-json_below-requires-2 : goal.two_json-json_below-requires-2
two_json-json_below-requires-2 t c =
    omega arith

pub list_json-key_json-requires : goal.list_json-key_json-requires
list_json-key_json-requires t c =
    omega arith

pub piece_json-key_json-requires : goal.piece_json-key_json-requires
piece_json-key_json-requires t c =
    omega arith

pub text_json-piece_json-requires : goal.text_json-piece_json-requires
text_json-piece_json-requires t c =
    omega arith

pub items_json-json_below-requires : goal.items_json-json_below-requires
items_json-json_below-requires t c =
    let l = c.loop-item in
    let xs = c.deref-item-items.result.now in
    let x = c.item-item.result in
    let ys = drop (l.item-index + 1) xs in
    let here : items_view (drop l.item-index xs) ≡ item (view x) (items_view ys) = ap items_view (drop_more xs l.item-index x (omega arith) ∙ ap (λ y. y ∷ ys) (sym c.item-item.is)) in
    let weights = ap items_weight here in
    let all = ap (λ vs. items_weight (items_view vs)) c.deref-item-items.ensures.value in
    omega (arith, weights, all, l.invariant.lighter)

pub json_below-list_json-requires : goal.json_below-list_json-requires
json_below-list_json-requires t c =
    let own = ap weight (ap view c.in-Array.is ∙ view-Array c.in-Array.items) in
    omega (arith, own)

pub json_below-items_json-requires : goal.json_below-items_json-requires
json_below-items_json-requires t c =
    let own = ap weight (ap view c.in-Array.is ∙ view-Array c.in-Array.items) in
    omega (arith, own)

pub form_json-json_below-requires : goal.form_json-json_below-requires
form_json-json_below-requires t c =
    let own = ap (λ f. form_weight (form_view f)) c.in-Join.is in
    omega (arith, own)

pub form_json-json_below-requires-in-Select : goal.form_json-json_below-requires-in-Select
form_json-json_below-requires-in-Select t c =
    let own = ap (λ f. form_weight (form_view f)) c.in-Select.is in
    omega (arith, own)

pub form_json-json_below-requires-in-Split : goal.form_json-json_below-requires-in-Split
form_json-json_below-requires-in-Split t c =
    let own = ap (λ f. form_weight (form_view f)) c.in-Split.is in
    omega (arith, own)

pub form_json-two_json-requires : goal.form_json-two_json-requires
form_json-two_json-requires t c =
    let own = ap (λ f. form_weight (form_view f)) c.in-If.is in
    omega (arith, own)

pub form_json-two_json-requires-in-FindInMap : goal.form_json-two_json-requires-in-FindInMap
form_json-two_json-requires-in-FindInMap t c =
    let own = ap (λ f. form_weight (form_view f)) c.in-FindInMap.is in
    omega (arith, own)
