use Rattle.std.proofs.Common.{◌+◌, drop, Some, sym, ap, ◌∙◌}
use Rattle.std.proofs.lemmas.List.{drop_all}
use Rattle.std.proofs.lemmas.Result.{IfOk-weaker}
use Rattle.serde_json.specs.View.{view, items_view, members_view}
use Rattle.serde_json.proofs.Views.{Entry, view-Array, view-Object}
use Rattle.cdk_language.specs.Findings.{inside, in_items, in_members, first}
use Rattle.cdk_findings.proofs.Firsts.{own_first, own_none}
use Rattle.cdk_findings.proofs.NextPart.{item_found, item_passed, member_found, member_passed}
use Rattle.cdk_runs.proofs.NextItem.{next_item}
use Rattle.cdk_findings.proofs.first.+walk.Goals as goal

pub first_at-returns-in-Some : goal.first_at-returns-in-Some
first_at-returns-in-Some t c =
    let role = c.args.role in
    let d = view c.args.value.now in
    let here = own_first c.args.marked role d (inside role d) c.in-Some.code (sym c.in_ok-code.ensures ∙ c.in-Some.is) in
    IfOk-weaker c.found_here.result _ _ (λ f h. h ∙ sym here) c.found_here.ensures

pub first_at-returns-in-Object : goal.first_at-returns-in-Object
first_at-returns-in-Object t c =
    let role = c.args.role in
    let d = view c.args.value.now in
    let opened = ap (inside role) (ap view c.in-Object.is ∙ view-Object c.in-Object.members) in
    let none = own_none c.args.marked role d (inside role d) (sym c.in_ok-code.ensures ∙ c.in_default.is) in
    IfOk-weaker c.first_in_members.result _ _ (λ f h. h ∙ ap first (sym opened) ∙ sym none) c.first_in_members.ensures

pub first_at-returns-in-Array : goal.first_at-returns-in-Array
first_at-returns-in-Array t c =
    let role = c.args.role in
    let d = view c.args.value.now in
    let opened = ap (inside role) (ap view c.in-Array.is ∙ view-Array c.in-Array.items) in
    let none = own_none c.args.marked role d (inside role d) (sym c.in_ok-code.ensures ∙ c.in_default.is) in
    IfOk-weaker c.first_in_items.result _ _ (λ f h. h ∙ ap first (sym opened) ∙ sym none) c.first_in_items.ensures

pub first_in_items-returns-in-Some : goal.first_in_items-returns-in-Some
first_in_items-returns-in-Some t c =
    let l = c.loop-item in
    let role = c.args.role in
    let v = c.item-item.result in
    let here = next_item c.deref-item-items.result.now l.item-index v c.loop-item-test.true c.item-item.is in
    ap (λ f. Some f) c.in_ok-under_index.ensures
    ∙ item_found role l.at v (drop (l.item-index + 1) c.deref-item-items.result.now) c.item_role.result c.in-Some.finding c.item_role.ensures (sym c.in-Some.is ∙ c.in_ok-finding.ensures)
    ∙ ap (λ vs. first (in_items role l.at (items_view vs))) (sym here) ∙ sym l.invariant.1 ∙ ap (λ vs. first (in_items role 0 (items_view vs))) c.deref-item-items.ensures.value

pub first_in_items-loop-item-preserved : goal.first_in_items-loop-item-preserved
first_in_items-loop-item-preserved t c =
    let l = c.loop-item in
    let role = c.args.role in
    let v = c.item-item.result in
    let here = next_item c.deref-item-items.result.now l.item-index v c.loop-item-test.true c.item-item.is in (
      ap (λ n. n + 1) l.invariant.0,
      l.invariant.1 ∙ ap (λ vs. first (in_items role l.at (items_view vs))) here
          ∙ item_passed role l.at v (drop (l.item-index + 1) c.deref-item-items.result.now) c.item_role.result c.item_role.ensures (sym c.in_default.is ∙ c.in_ok-finding.ensures),
    )

pub first_in_items-returns : goal.first_in_items-returns
first_in_items-returns t c =
    let l = c.loop-item in
    let role = c.args.role in
    let all = drop_all l.item-index c.deref-item-items.result.now c.loop-item-test.false in
    ap (λ vs. first (in_items role l.at (items_view vs))) (sym all) ∙ sym l.invariant.1 ∙ ap (λ vs. first (in_items role 0 (items_view vs))) c.deref-item-items.ensures.value

pub first_in_members-returns-in-Some-2 : goal.first_in_members-returns-in-Some-2
first_in_members-returns-in-Some-2 t c =
    let frame = c.frame_of-frame.result in
    let e : Entry = (c.in-Some.key.now, c.in-Some.member.now) in
    ap (λ f. Some f) c.in_ok-under.ensures
    ∙ member_found frame e c.next.new.self c.as_str-key.result.now c.has_marker.result c.member_role-role.result c.in-Some-2.finding
    c.as_str-key.ensures.value c.has_marker.ensures c.member_role-role.ensures (sym c.in-Some-2.is ∙ c.in_ok-finding.ensures)
    ∙ ap (λ es. first (in_members frame (members_view es))) (sym c.in-Some.ensures.steps) ∙ sym c.loop-key.invariant.2
    ∙ ap (λ f. first (in_members f (members_view c.args.members.now.entries))) c.frame_of-frame.ensures

pub first_in_members-loop-key-preserved : goal.first_in_members-loop-key-preserved
first_in_members-loop-key-preserved t c =
    let frame = c.frame_of-frame.result in
    let e : Entry = (c.in-Some.key.now, c.in-Some.member.now) in (
      tt,
      tt,
      c.loop-key.invariant.2 ∙ ap (λ es. first (in_members frame (members_view es))) c.in-Some.ensures.steps
          ∙ member_passed frame e c.next.new.self c.as_str-key.result.now c.has_marker.result c.member_role-role.result
          c.as_str-key.ensures.value c.has_marker.ensures c.member_role-role.ensures (sym c.in_default.is ∙ c.in_ok-finding.ensures),
    )

pub first_in_members-returns : goal.first_in_members-returns
first_in_members-returns t c =
    let frame = c.frame_of-frame.result in
    ap (λ es. first (in_members frame (members_view es))) (sym c.in-None.ensures.steps.0) ∙ sym c.loop-key.invariant.2
    ∙ ap (λ f. first (in_members f (members_view c.args.members.now.entries))) c.frame_of-frame.ensures
