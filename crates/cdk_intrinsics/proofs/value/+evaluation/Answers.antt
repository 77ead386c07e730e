use Rattle.std.proofs.Common.{◌≡◌, ◌+◌, [], ◌∷◌, drop, map, length, Some, option_map, string_bytes, sym, ap, ◌∙◌, subst, arith, rules}
use Rattle.std.proofs.lemmas.List.{drop_more, drop_all}
use Rattle.std.proofs.lemmas.Result.{IfOk-weaker}
use Rattle.serde_json.specs.Data.{array, object, no_members}
use Rattle.std.specs.List.Sorted.{IsStrictlySortedBy}
use Rattle.std.specs.Map.{keys_of}
use Rattle.std.specs.String.{string_cmp}
use Rattle.serde_json.specs.View.{view, items_view, members_view}
use Rattle.serde_json.specs.declared.value.Value.TheVariants as values
use Rattle.serde_json.proofs.Views.{Entry, view-Array, view-Object}
use Rattle.cdk_eval.specs.Outcomes.{array_outcome, object_outcome, first_item, first_member}
use Rattle.cdk_eval.specs.Outcomes as outcomes
use Rattle.cdk_eval.specs.SubText.{sub_parts}
use Rattle.cdk_eval.specs.Template.{parts, outcome, item_outcomes, member_outcomes, single_form, map_form, sub_form, sub_items, each_member}
use Rattle.cdk_eval.specs.Views.{outcome_view}
use Rattle.cdk_texts.specs.Steps.{part_view}
use Rattle.cdk_texts.proofs.Cutting.{values_before-none}
use Rattle.cdk_intrinsics.specs.Forms.{pair_form, map_listed, intrinsic_at, where_there}
use Rattle.cdk_intrinsics.specs.Found.{put_outcome}
use Rattle.cdk_scopes.specs.Scopes.{scope_view, has_name}
use Rattle.cdk_intrinsics.specs.Substitution.{look, items_by, joined_items}
use Rattle.cdk_intrinsics.proofs.Listing.{listed_before, listed_value, fielded_before, fielded_none, fielded_next, fielded_fault, before_nothing, AreAbove, above_none, all_above_next, sorted_rest}
use Rattle.cdk_intrinsics.proofs.Parts.{pair_other, map_other, map_three, sub_two, items_same, form_same, view-String}
use Rattle.cdk_intrinsics.proofs.value.+evaluation.Goals as goal
use Rattle.cdk_intrinsics.proofs.value.+evaluation.Goals.{array_outcome-in-Value+in_ok-push-in-Value, array_outcome-in-Gone}

pub pair_form-returns-in_default-two_of : goal.pair_form-returns-in_default-two_of
pair_form-returns-in_default-two_of t c =
    let s = scope_view c.args.scope.now in
    pair_other s c.args.form c.in-Array.items.items c.in_default-two_of.ensures ∙ sym (ap (λ d. pair_form c.args.form (parts s d)) (ap view c.in-Array.is ∙ view-Array c.in-Array.items))

pub if_form-returns : goal.if_form-returns
if_form-returns t c = IfOk-weaker c.outcome_of.result _ _ (λ o h. h ∙ c.in-Ok.ensures.picked) c.outcome_of.ensures

pub map_form-returns-in_default-three_of : goal.map_form-returns-in_default-three_of
map_form-returns-in_default-three_of t c =
    let s = scope_view c.args.scope.now in
    map_other s c.in-Array.items.items c.in_default-three_of.ensures ∙ sym (ap (λ d. map_form s (parts s d)) (ap view c.in-Array.is ∙ view-Array c.in-Array.items))

pub map_form-returns : goal.map_form-returns
map_form-returns t c =
    let s = scope_view c.args.scope.now in
    let vs = c.in-Array.items.items in
    let opened = ap (λ d. map_form s (parts s d)) (ap view c.in-Array.is ∙ view-Array c.in-Array.items) ∙ map_three s vs c.in-Some._mapping.now c.in-Some._top.now c.in-Some._second.now c.in-Some.ensures in
    IfOk-weaker c.leaf_outcome.result _ _ (λ o h. h ∙ ap (map_listed s) c.in_ok-names.ensures ∙ sym opened) c.leaf_outcome.ensures

pub named_sub-returns-in_default : goal.named_sub-returns-in_default
named_sub-returns-in_default t c = c.in_default.ensures (scope_view c.args.scope.now)

pub named_sub-returns : goal.named_sub-returns
named_sub-returns t c =
    let s = scope_view c.args.scope.now in
    let text = c.in-Some.text.now in
    let names = c.in-Some.members.now in
    let ps = map part_view c.in-Some-2.parts.items in
    let ms = members_view names.entries in
    let by = look c.in_ok-named.named in
    let found : Some ps ≡ sub_parts (string_bytes text) =
    ap (option_map (λ v. map part_view v.items)) (sym c.in-Some-2.is) ∙ c.in_ok-parts.ensures ∙ ap sub_parts c.as_str.ensures.value in
    let whole = sub_two s c.args.items.now.items (values.String text) (values.Object names) (string_bytes text) ms ps c.in-Some.ensures (view-String text) (view-Object names) found in
    let same = items_same s by (each_member s ms) (has_name c.in_ok-used.used) c.in_ok-named.ensures (map part_view c.as_slice.result.now) c.in_ok-used.ensures in
    let used = same ∙ ap (λ qs. sub_items s (each_member s ms) (map part_view qs)) c.as_slice.ensures.value in
    IfOk-weaker c.sub_outcome.result _ _
    (λ o h. h ∙ ap (λ qs. joined_items (items_by s by (map part_view qs))) (c.as_slice-2.ensures.value ∙ sym c.as_slice.ensures.value) ∙ ap joined_items used ∙ sym whole)
    c.sub_outcome.ensures

pub array_outcome-loop-item-preserved : goal.array_outcome-loop-item-preserved
array_outcome-loop-item-preserved t c =
    let l = c.loop-item in
    let s = scope_view c.args.scope.now in
    let xs = c.deref-item-items.result.now in
    let x = c.item-item.result in
    let rest = item_outcomes s (items_view (drop (l.item-index + 1) xs)) in
    let here : drop l.item-index xs ≡ x ∷ drop (l.item-index + 1) xs = drop_more xs l.item-index x (omega arith) ∙ ap (λ y. y ∷ drop (l.item-index + 1) xs) (sym c.item-item.is) in
    let was = l.invariant ∙ ap (λ ys. listed_before l.found.items (item_outcomes s (items_view ys))) here ∙ ap (λ o. listed_before l.found.items (first_item o rest)) (sym c.in_ok-value.ensures) in
    elim c.match-branch-2.branch [
      | array_outcome-in-Value+in_ok-push-in-Value w ↦ was ∙ ap (λ o. listed_before l.found.items (first_item (outcome_view o) rest)) w.in-Value.is
          ∙ listed_value l.found.items w.in-Value.value rest ∙ ap (λ vs. listed_before vs rest) (sym (ap (λ v. v.items) w.found-is ∙ w.in_ok-push-in-Value.ensures.items))
      | array_outcome-in-Gone w ↦ was ∙ ap (λ o. listed_before l.found.items (first_item (outcome_view o) rest)) w.in-Gone.is ∙ ap (λ v. listed_before v.items rest) (sym w.found-is)
    ]

pub array_outcome-returns : goal.array_outcome-returns
array_outcome-returns t c =
    let l = c.loop-item in
    let s = scope_view c.args.scope.now in
    let xs = c.deref-item-items.result.now in
    let none : drop l.item-index xs ≡ [] = drop_all l.item-index xs (omega arith) in
    sym (ap (λ ys. array_outcome (item_outcomes s (items_view ys))) (sym c.deref-item-items.ensures.value) ∙ ap array_outcome (l.invariant ∙ ap (λ ys. listed_before l.found.items (item_outcomes s (items_view ys))) none)
    ∙ ap (λ ds. outcomes.Value (array ds)) (values_before-none l.found.items) ∙ ap outcomes.Value (sym (view-Array l.found)))

pub object_outcome-loop-key-init : goal.object_outcome-loop-key-init
object_outcome-loop-key-init t c =
    let s = scope_view c.args.scope.now in
    let es = c.into_iter-key-iterator.result in
    let all : es ≡ c.args.members.now.entries = c.into_iter-key-iterator.ensures.into_iter_gives ∙ c.iter-key-items.ensures.rest in
    let none : members_view c.new-found.result.entries ≡ no_members = ap members_view c.new-found.ensures.empty in (
      subst (λ xs. IsStrictlySortedBy string_cmp (keys_of xs)) (sym all) c.iter-key-items.ensures.ordered,
      subst (AreAbove es) (sym none) (above_none es),
      ap (λ xs. member_outcomes s (members_view xs)) (sym all) ∙ fielded_none (member_outcomes s (members_view es)) ∙ ap (λ ms. fielded_before ms (member_outcomes s (members_view es))) (sym none),
    )

pub object_outcome-returns-in-Some-2 : goal.object_outcome-returns-in-Some-2
object_outcome-returns-in-Some-2 t c =
    let l = c.loop-key in
    let s = scope_view c.args.scope.now in
    let k = string_bytes c.in-Some.key.now in
    let o = outcome_view c.in_ok-outcome.outcome in
    let rest = member_outcomes s (members_view c.next.new.self) in
    let ms = members_view l.found.entries in
    sym (ap object_outcome (l.invariant.2 ∙ ap (λ xs. fielded_before ms (member_outcomes s (members_view xs))) c.in-Some.ensures.steps ∙ ap (λ x. fielded_before ms (first_member k x rest)) (sym c.in_ok-outcome.ensures))
    ∙ fielded_fault k o c.in-Some-2.fault ms rest (sym c.in-Some-2.is ∙ c.in_ok-fault.ensures.0))

pub object_outcome-loop-key-preserved : goal.object_outcome-loop-key-preserved
object_outcome-loop-key-preserved t c =
    let l = c.loop-key in
    let s = scope_view c.args.scope.now in
    let e : Entry = (c.in-Some.key.now, c.in-Some.member.now) in
    let k = string_bytes c.in-Some.key.now in
    let o = outcome_view c.in_ok-outcome.outcome in
    let left = c.next.new.self in
    let rest = member_outcomes s (members_view left) in
    let ms = members_view l.found.entries in
    let sorted = subst (λ xs. IsStrictlySortedBy string_cmp (keys_of xs)) c.in-Some.ensures.steps l.invariant.0 in
    let above = subst (λ xs. AreAbove xs ms) c.in-Some.ensures.steps l.invariant.1 in
    let entered : members_view c.put_outcome.new.found.entries ≡ put_outcome k o ms = c.in_ok-fault.ensures.1 in
    let was = l.invariant.2 ∙ ap (λ xs. fielded_before ms (member_outcomes s (members_view xs))) c.in-Some.ensures.steps
    ∙ ap (λ x. fielded_before ms (first_member k x rest)) (sym c.in_ok-outcome.ensures) ∙ fielded_next k o ms rest (sym c.in_default.is ∙ c.in_ok-fault.ensures.0) above.0 in
    (sorted_rest e left sorted, subst (AreAbove left) (sym entered) (all_above_next e left o ms sorted above.0 above.1), was ∙ ap (λ xs. fielded_before xs rest) (sym entered))

pub object_outcome-returns : goal.object_outcome-returns
object_outcome-returns t c =
    let l = c.loop-key in
    let s = scope_view c.args.scope.now in
    let ms = members_view l.found.entries in
    sym (ap object_outcome (l.invariant.2 ∙ ap (λ xs. fielded_before ms (member_outcomes s (members_view xs))) c.in-None.ensures.steps.0)
    ∙ ap (λ xs. outcomes.Value (object xs)) (before_nothing ms) ∙ ap outcomes.Value (sym (view-Object l.found)))

pub single_form-returns-in-Some-intrinsic_at : goal.single_form-returns-in-Some-intrinsic_at
single_form-returns-in-Some-intrinsic_at t c =
    let s = scope_view c.args.scope.now in
    let k = string_bytes c.in-Some.key.now in
    let d = view c.in-Some.argument.now in
    let none : c.next.new.self ≡ [] = search rules in
    let alone : c.args.members.now.entries ≡ (c.in-Some.key.now, c.in-Some.argument.now) ∷ [] = sym c.iter-entries.ensures.rest ∙ c.in-Some.ensures.steps ∙ ap (λ es. (c.in-Some.key.now, c.in-Some.argument.now) ∷ es) none in
    let there : Some c.in-Some-intrinsic_at.intrinsic ≡ intrinsic_at k s.is_operand = c.in-Some-intrinsic_at.ensures ∙ ap (λ x. intrinsic_at x s.is_operand) c.as_str.ensures.value in
    let opened = ap (λ es. single_form s (members_view es)) alone ∙ form_same s k d (outcome s d) (parts s d) ∙ sym (ap (λ i. where_there s i d (outcome s d) (parts s d)) there) in
    IfOk-weaker c.form_outcome.result _ _ (λ o h. h ∙ sym opened) c.form_outcome.ensures
