use Rattle.std.proofs.Common.{rules, ◌≡◌, [], ◌∷◌, ◌+◌, drop, Some, option_map, string_bytes, sym, ap, ◌∙◌, arith}
use Rattle.std.proofs.lemmas.List.{drop_more, drop_all}
use Rattle.serde_json.specs.View.{view as json_view, items_view, members_view}
use Rattle.serde_json.proofs.Views.{view-Object}
use Rattle.cdk_language.specs.Application.{expression_of, expressions_of, fields_of}
use Rattle.cdk_language.specs.Expression as expression
use Rattle.cdk_language.specs.Expression.{view, field_view}
use Rattle.cdk_members.proofs.Giving.{gives}
use Rattle.cdk_members.specs.Forms.{form_named}
use Rattle.cdk_substitution.specs.Steps.{before}
use Rattle.cdk_expressions.specs.Forms.{form_with}
use Rattle.cdk_expressions.proofs.Arguments.{refused, boxed_view, pair_view, triple_view, view-Join, view-Select, view-Split, view-If, view-FindInMap, select_at, join_with, join_by, split_with, split_by, choice_with, choice_by, find_in_map_with, find_in_map_by, with_members}
use Rattle.cdk_expressions.proofs.FormLemmas.{form_by_name, no_form}
use Rattle.cdk_expressions.proofs.Reading.{read_next, all_read, fields_before, read_next_field, field_view-made, all_fields_read}
use Rattle.cdk_expressions.proofs.expressions.+read.Goals as goal

pub expressions_of-loop-item-preserved : goal.expressions_of-loop-item-preserved
expressions_of-loop-item-preserved t c =
    let l = c.loop-item in
    let xs = c.deref-item-items.result.now in
    let x = c.item-item.result in
    let here : drop l.item-index xs ≡ x ∷ drop (l.item-index + 1) xs = drop_more xs l.item-index x (omega arith) ∙ ap (λ y. y ∷ drop (l.item-index + 1) xs) (sym c.item-item.is) in
    let rest = expressions_of (items_view (drop (l.item-index + 1) xs)) in
    let was = l.invariant ∙ ap (λ ys. option_map (before l.found) (expressions_of (items_view ys))) here in
    read_next l.found c.in_ok-read_expression.field-0 (expression_of (json_view x)) rest _ was c.in_ok-read_expression.ensures ∙ ap (λ es. option_map (before es) rest) (sym c.in_ok-push.ensures.ok)

pub expressions_of-returns : goal.expressions_of-returns
expressions_of-returns t c =
    let l = c.loop-item in
    let xs = c.deref-item-items.result.now in
    let none : drop l.item-index xs ≡ [] = drop_all l.item-index xs (omega arith) in
    ap (λ ys. expressions_of (items_view ys)) (sym c.deref-item-items.ensures.value)
    ∙ all_read l.found _ (l.invariant ∙ ap (λ ys. option_map (before l.found) (expressions_of (items_view ys))) none)

pub read_field-returns : goal.read_field-returns
read_field-returns t c =
    let k = c.args.key.now in
    let key = c.in_ok-key.key in
    let e = c.in_ok-value.value in
    ap (option_map (λ x. (k, x))) c.in_ok-value.ensures ∙ ap (λ n. Some (n, view e)) (sym c.in_ok-key.ensures) ∙ ap Some (sym (field_view-made key e))

pub fields_of-loop-key-preserved : goal.fields_of-loop-key-preserved
fields_of-loop-key-preserved t c =
    let l = c.loop-key in
    let rest = fields_of (members_view c.next.new.self) in
    let k = string_bytes c.in-Some.key.now in
    let first = expression_of (json_view c.in-Some.member.now) in
    let f = c.in_ok-read_field.field-0 in
    let was = l.invariant ∙ ap (λ es. option_map (fields_before l.found) (fields_of (members_view es))) c.in-Some.ensures.steps in
    let is : option_map (λ e. (k, e)) first ≡ Some (field_view f) = ap (λ n. option_map (λ e. (n, e)) first) (sym c.as_str.ensures.value) ∙ c.in_ok-read_field.ensures in
    read_next_field l.found f k first rest _ was is ∙ ap (λ fs. option_map (fields_before fs) rest) (sym c.in_ok-push.ensures.ok)

pub fields_of-returns : goal.fields_of-returns
fields_of-returns t c =
    let l = c.loop-key in
    all_fields_read l.found _ (l.invariant ∙ ap (λ es. option_map (fields_before l.found) (fields_of (members_view es))) c.in-None.ensures.steps.0)

pub form_of-returns-in_default : goal.form_of-returns-in_default
form_of-returns-in_default t c = no_form c.args.members.now.entries c.in_default.ensures

pub form_of-returns-in-Some-form_named : goal.form_of-returns-in-Some-form_named
form_of-returns-in-Some-form_named t c =
    let named = c.in-Some-form_named.ensures ∙ ap form_named c.as_str.ensures.value in
    gives view _ _ _ c.form_with.ensures (form_by_name c.args.members.now.entries (c.in-Some.key.now, c.in-Some.member.now) _ c.in-Some.ensures named)

pub form_of-returns-in-None : goal.form_of-returns-in-None
form_of-returns-in-None t c =
    form_by_name c.args.members.now.entries (c.in-Some.key.now, c.in-Some.member.now) _ c.in-Some.ensures (c.in-None.ensures ∙ ap form_named c.as_str.ensures.value)

-- each form is read by its own reader
pub form_with-returns-in-Ref : goal.form_with-returns-in-Ref
form_with-returns-in-Ref t c = gives view _ _ _ c.ref_of.ensures (ap (λ f. form_with f (json_view c.args.value.now)) c.in-Ref.is)

pub form_with-returns-in-GetAtt : goal.form_with-returns-in-GetAtt
form_with-returns-in-GetAtt t c = gives view _ _ _ c.get_att_of.ensures (ap (λ f. form_with f (json_view c.args.value.now)) c.in-GetAtt.is)

pub form_with-returns-in-Join : goal.form_with-returns-in-Join
form_with-returns-in-Join t c = gives view _ _ _ c.join_of.ensures (ap (λ f. form_with f (json_view c.args.value.now)) c.in-Join.is)

pub form_with-returns-in-Select : goal.form_with-returns-in-Select
form_with-returns-in-Select t c = gives view _ _ _ c.select_of.ensures (ap (λ f. form_with f (json_view c.args.value.now)) c.in-Select.is)

pub form_with-returns-in-Split : goal.form_with-returns-in-Split
form_with-returns-in-Split t c = gives view _ _ _ c.split_of.ensures (ap (λ f. form_with f (json_view c.args.value.now)) c.in-Split.is)

pub form_with-returns-in-If : goal.form_with-returns-in-If
form_with-returns-in-If t c = gives view _ _ _ c.choice_of.ensures (ap (λ f. form_with f (json_view c.args.value.now)) c.in-If.is)

pub form_with-returns-in-FindInMap : goal.form_with-returns-in-FindInMap
form_with-returns-in-FindInMap t c = gives view _ _ _ c.find_in_map_of.ensures (ap (λ f. form_with f (json_view c.args.value.now)) c.in-FindInMap.is)

pub form_with-returns-in-ImportValue : goal.form_with-returns-in-ImportValue
form_with-returns-in-ImportValue t c = gives view _ _ _ c.import_value_of.ensures (ap (λ f. form_with f (json_view c.args.value.now)) c.in-ImportValue.is)

pub form_with-returns-in-Sub : goal.form_with-returns-in-Sub
form_with-returns-in-Sub t c = gives view _ _ _ c.substituted_of.ensures (ap (λ f. form_with f (json_view c.args.value.now)) c.in-Sub.is)

pub form_with-returns-in-Concat : goal.form_with-returns-in-Concat
form_with-returns-in-Concat t c = gives view _ _ _ c.concat_of.ensures (ap (λ f. form_with f (json_view c.args.value.now)) c.in-Concat.is)

pub form_with-returns-in-Context : goal.form_with-returns-in-Context
form_with-returns-in-Context t c = gives view _ _ _ c.context_of.ensures (ap (λ f. form_with f (json_view c.args.value.now)) c.in-Context.is)

pub form_with-returns-in-Lazy : goal.form_with-returns-in-Lazy
form_with-returns-in-Lazy t c = gives view _ _ _ c.lazy_of.ensures (ap (λ f. form_with f (json_view c.args.value.now)) c.in-Lazy.is)

pub join_of-returns : goal.join_of-returns
join_of-returns t c = join_by (json_view c.args.value.now) ∙ ap (option_map join_with) c.in_ok-delimiter.ensures ∙ ap Some (sym (view-Join c.in_ok-delimiter.delimiter c.in_ok-delimiter.list))

pub join_of-returns-in_err-delimiter : goal.join_of-returns-in_err-delimiter
join_of-returns-in_err-delimiter t c = refused pair_view view join_with c.from_residual.result _ _ _ (join_by (json_view c.args.value.now)) (search rules) c.in_err-delimiter.ensures

pub split_of-returns : goal.split_of-returns
split_of-returns t c = split_by (json_view c.args.value.now) ∙ ap (option_map split_with) c.in_ok-delimiter.ensures ∙ ap Some (sym (view-Split c.in_ok-delimiter.delimiter c.in_ok-delimiter.text))

pub split_of-returns-in_err-delimiter : goal.split_of-returns-in_err-delimiter
split_of-returns-in_err-delimiter t c = refused pair_view view split_with c.from_residual.result _ _ _ (split_by (json_view c.args.value.now)) (search rules) c.in_err-delimiter.ensures

pub choice_of-returns : goal.choice_of-returns
choice_of-returns t c = choice_by (json_view c.args.value.now) ∙ ap (option_map choice_with) c.in_ok-condition.ensures ∙ ap Some (sym (view-If c.in_ok-condition.condition c.in_ok-condition.holds c.in_ok-condition.fails))

pub choice_of-returns-in_err-condition : goal.choice_of-returns-in_err-condition
choice_of-returns-in_err-condition t c = refused triple_view view choice_with c.from_residual.result _ _ _ (choice_by (json_view c.args.value.now)) (search rules) c.in_err-condition.ensures

pub find_in_map_of-returns : goal.find_in_map_of-returns
find_in_map_of-returns t c = find_in_map_by (json_view c.args.value.now) ∙ ap (option_map find_in_map_with) c.in_ok-mapping.ensures ∙ ap Some (sym (view-FindInMap c.in_ok-mapping.mapping c.in_ok-mapping.row c.in_ok-mapping.column))

pub find_in_map_of-returns-in_err-mapping : goal.find_in_map_of-returns-in_err-mapping
find_in_map_of-returns-in_err-mapping t c = refused triple_view view find_in_map_with c.from_residual.result _ _ _ (find_in_map_by (json_view c.args.value.now)) (search rules) c.in_err-mapping.ensures

pub select_of-returns : goal.select_of-returns
select_of-returns t c =
    let n = c.in-Some.index in
    let e = json_view c.in-Some.list.now in
    select_at (json_view c.args.value.now) n e c.in-Some.ensures.parts ∙ ap (option_map (expression.select n)) c.in_ok-read_boxed.ensures ∙ ap Some (sym (view-Select n c.in_ok-read_boxed.field-0))

pub select_of-returns-in_err-read_boxed : goal.select_of-returns-in_err-read_boxed
select_of-returns-in_err-read_boxed t c =
    let n = c.in-Some.index in
    let e = json_view c.in-Some.list.now in
    refused boxed_view view (expression.select n) c.from_residual.result _ _ _ (select_at (json_view c.args.value.now) n e c.in-Some.ensures.parts) (search rules) c.in_err-read_boxed.ensures

pub select_of-read_boxed-requires : goal.select_of-read_boxed-requires
select_of-read_boxed-requires t c = (omega (arith, c.decreases, c.in-Some.ensures.smaller), tt)

pub text_and_expression-read_boxed-requires : goal.text_and_expression-read_boxed-requires
text_and_expression-read_boxed-requires t c = (omega (arith, c.decreases, c.in-Some.ensures.smaller), tt)

pub substituted_of-returns-in-Object : goal.substituted_of-returns-in-Object
substituted_of-returns-in-Object t c =
    gives view _ _ _ c.substituted_with.ensures
    (with_members (json_view c.args.value.now) c.in-Some-text_and_value.text.now (members_view c.in-Object.members.entries) (json_view c.in-Some-text_and_value.variables.now)
    c.in_default.ensures c.in-Some-text_and_value.ensures.parts (ap json_view c.in-Object.is ∙ view-Object c.in-Object.members))
