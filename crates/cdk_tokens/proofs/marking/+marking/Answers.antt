use Rattle.std.proofs.Common.{◌≡◌, ◌∷◌, ◌++◌, ◌+◌, [], drop, length, map, option_map, refl, sym, ap, ◌∙◌, arith, string_bytes}
use Rattle.std.proofs.lemmas.List.{append-nil, drop_all, drop_more, map-append}
use Rattle.serde_json.specs.Data.{array, no_members, object, put, string}
use Rattle.serde_json.proofs.Views.{view-Array as json_view-Array, view-Object as json_view-Object}
use Rattle.serde_json.specs.View.{view as json_view, items_of, members_view}
use Rattle.cdk_language.specs.Expression as expression
use Rattle.cdk_language.specs.Expression.{view, expressions_view, fields_view}
use Rattle.cdk_tree.specs.TreeView.{constructs}
use Rattle.cdk_tokens.specs.Marking.{all_tokens, fields_tokens, marked, marked_items, marked_members, marked_text, target, tokens}
use Rattle.cdk_tokens.specs.TableView.{tokens_in}
use Rattle.cdk_tokens.specs.Token as token
use Rattle.cdk_tokens.specs.Whole.{marked_list}
use Rattle.cdk_contexts.proofs.Seen.{seen_field}
use Rattle.cdk_tokens.proofs.MarkingLemmas.{all_tokens_then, fields_tokens_then, items_of-marked_list, marked_list_then, marked_members_then, marked_text_then, view-Bool, view-String}
use Rattle.cdk_tokens.proofs.TokenLemmas.{no_tokens, put_tokens, put_value, seen_tokens, seen_value, next-choice, next-find_in_map, next-get_att, next-import_value, next-join, next-lazy, next-pseudo, next-ref, next-select, next-split, view-Concat, view-Context, view-FindInMap, view-GetAtt, view-If, view-ImportValue, view-Join, view-Lazy, view-List, view-Object, view-Pseudo, view-Ref, view-Select, view-Split, view-Text, view-Truth, view-Whole}
use Rattle.cdk_tokens.proofs.marking.+marking.Goals as goal

pub mark_fields-loop-field-init : goal.mark_fields-loop-field-init
mark_fields-loop-field-init t c =
    let cs = constructs c.args.tree.now in
    let n = length (tokens_in c.args.table.now) in
    (ap (marked_members cs c.args.at n (fields_view c.as_slice-field-items.result.now)) (sym (ap members_view c.new-members.ensures.empty)), refl)

pub mark_fields-loop-field-preserved : goal.mark_fields-loop-field-preserved
mark_fields-loop-field-preserved t c =
    let l = c.loop-field in
    let cs = constructs c.args.tree.now in
    let at = c.args.at in
    let xs = c.as_slice-field-items.result.now in
    let x = c.field-item.result in
    let old = tokens_in l.table in
    let new = tokens_in c.mark_expression.new.table in
    let done = members_view l.members.entries in
    let rest = fields_view (drop (l.field-index + 1) xs) in
    let here : drop l.field-index xs ≡ x ∷ drop (l.field-index + 1) xs = drop_more xs l.field-index x (omega arith) ∙ ap (λ y. y ∷ drop (l.field-index + 1) xs) (sym c.field-item.is) in
    let seen : fields_view (drop l.field-index xs) ≡ expression.field x.key (view x.value) rest = ap fields_view here ∙ ap (λ p. expression.field p.0 p.1 rest) (seen_field x) in
    let more = c.in_ok-value.ensures.tokens in (
      l.invariant.0 ∙ ap (λ fs. marked_members cs at (length old) fs done) seen
          ∙ marked_members_then cs at (view x.value) old new more (json_view c.in_ok-value.value) c.in_ok-value.ensures.value x.key rest done
          ∙ ap (λ k. marked_members cs at (length new) rest (put k (json_view c.in_ok-value.value) done)) (sym c.as_str.ensures)
          ∙ ap (marked_members cs at (length new) rest) (sym c.in_ok-put.ensures.ok),
      l.invariant.1 ∙ ap (λ fs. old ++ fields_tokens cs at (length old) fs) seen ∙ fields_tokens_then cs at (view x.value) old new more x.key rest,
    )

pub mark_fields-returns-clause-value : goal.mark_fields-returns-clause-value
mark_fields-returns-clause-value t c =
    let l = c.loop-field in
    let cs = constructs c.args.tree.now in
    let at = c.args.at in
    let xs = c.as_slice-field-items.result.now in
    let none : drop l.field-index xs ≡ [] = drop_all l.field-index xs (omega arith) in
    json_view-Object l.members ∙ ap object (sym (
    ap (λ fs. marked_members cs at (length (tokens_in c.args.table.now)) (fields_view fs) no_members) (sym c.as_slice-field-items.ensures)
    ∙ l.invariant.0 ∙ ap (λ fs. marked_members cs at (length (tokens_in l.table)) (fields_view fs) (members_view l.members.entries)) none
    ))

pub mark_fields-returns-clause-tokens : goal.mark_fields-returns-clause-tokens
mark_fields-returns-clause-tokens t c =
    let l = c.loop-field in
    let cs = constructs c.args.tree.now in
    let at = c.args.at in
    let xs = c.as_slice-field-items.result.now in
    let old = tokens_in c.args.table.now in
    let new = tokens_in l.table in
    let none : drop l.field-index xs ≡ [] = drop_all l.field-index xs (omega arith) in
    sym (
    ap (λ fs. old ++ fields_tokens cs at (length old) (fields_view fs)) (sym c.as_slice-field-items.ensures)
    ∙ l.invariant.1 ∙ ap (λ fs. new ++ fields_tokens cs at (length new) (fields_view fs)) none ∙ append-nil new
    )

pub mark_items-loop-item-init : goal.mark_items-loop-item-init
mark_items-loop-item-init t c =
    let cs = constructs c.args.tree.now in
    let n = length (tokens_in c.args.table.now) in
    (ap (λ vs. map json_view vs ++ marked_list cs c.args.at n (map view c.as_slice-item-items.result.now)) (sym c.new-values.ensures.items), refl)

pub mark_items-loop-item-preserved : goal.mark_items-loop-item-preserved
mark_items-loop-item-preserved t c =
    let l = c.loop-item in
    let cs = constructs c.args.tree.now in
    let at = c.args.at in
    let xs = c.as_slice-item-items.result.now in
    let x = c.item-item.result in
    let v = c.in_ok-value.value in
    let old = tokens_in l.table in
    let new = tokens_in c.mark_expression.new.table in
    let rest = drop (l.item-index + 1) xs in
    let here : drop l.item-index xs ≡ x ∷ rest = drop_more xs l.item-index x (omega arith) ∙ ap (λ y. y ∷ rest) (sym c.item-item.is) in
    let more = c.in_ok-value.ensures.tokens in (
      l.invariant.0 ∙ ap (λ ys. map json_view l.values.items ++ marked_list cs at (length old) (map view ys)) here
          ∙ marked_list_then cs at (view x) old new more (json_view v) c.in_ok-value.ensures.value (map json_view l.values.items) (map view rest)
          ∙ ap (λ ds. ds ++ marked_list cs at (length new) (map view rest)) (sym (map-append json_view l.values.items (v ∷ [])))
          ∙ ap (λ vs. map json_view vs ++ marked_list cs at (length new) (map view rest)) (sym c.in_ok-push.ensures.items),
      l.invariant.1 ∙ ap (λ ys. old ++ all_tokens cs at (length old) (expressions_view ys)) here ∙ all_tokens_then cs at (view x) old new more (expressions_view rest),
    )

pub mark_items-returns-clause-value : goal.mark_items-returns-clause-value
mark_items-returns-clause-value t c =
    let l = c.loop-item in
    let cs = constructs c.args.tree.now in
    let at = c.args.at in
    let xs = c.as_slice-item-items.result.now in
    let n = length (tokens_in c.args.table.now) in
    let none : drop l.item-index xs ≡ [] = drop_all l.item-index xs (omega arith) in
    let done = map json_view l.values.items in
    let all : done ≡ marked_list cs at n (map view xs) =
    sym (l.invariant.0 ∙ ap (λ ys. done ++ marked_list cs at (length (tokens_in l.table)) (map view ys)) none ∙ append-nil done) in
    json_view-Array l.values ∙ ap array (ap items_of all ∙ items_of-marked_list cs at n (map view xs) ∙ ap (λ ys. marked_items cs at n (expressions_view ys)) c.as_slice-item-items.ensures)

pub mark_items-returns-clause-tokens : goal.mark_items-returns-clause-tokens
mark_items-returns-clause-tokens t c =
    let l = c.loop-item in
    let cs = constructs c.args.tree.now in
    let at = c.args.at in
    let xs = c.as_slice-item-items.result.now in
    let old = tokens_in c.args.table.now in
    let new = tokens_in l.table in
    let none : drop l.item-index xs ≡ [] = drop_all l.item-index xs (omega arith) in
    sym (
    ap (λ ys. old ++ all_tokens cs at (length old) (expressions_view ys)) (sym c.as_slice-item-items.ensures)
    ∙ l.invariant.1 ∙ ap (λ ys. new ++ all_tokens cs at (length new) (expressions_view ys)) none ∙ append-nil new
    )

pub mark_pieces-loop-piece-init : goal.mark_pieces-loop-piece-init
mark_pieces-loop-piece-init t c =
    let cs = constructs c.args.tree.now in
    let n = length (tokens_in c.args.table.now) in
    (ap (λ s. s ++ marked_text cs c.args.at n (expressions_view c.as_slice-piece-items.result.now)) (sym c.new-text.ensures.bytes), refl)

pub mark_pieces-loop-piece-preserved : goal.mark_pieces-loop-piece-preserved
mark_pieces-loop-piece-preserved t c =
    let l = c.loop-piece in
    let cs = constructs c.args.tree.now in
    let at = c.args.at in
    let xs = c.as_slice-piece-items.result.now in
    let x = c.piece-item.result in
    let v = json_view c.in_ok-value.value in
    let old = tokens_in l.table in
    let new = tokens_in c.mark_expression.new.table in
    let rest = drop (l.piece-index + 1) xs in
    let here : drop l.piece-index xs ≡ x ∷ rest = drop_more xs l.piece-index x (omega arith) ∙ ap (λ y. y ∷ rest) (sym c.piece-item.is) in
    let more = c.in_ok-value.ensures.tokens in (
      l.invariant.0 ∙ ap (λ ys. string_bytes l.text ++ marked_text cs at (length old) (expressions_view ys)) here
          ∙ marked_text_then cs at (view x) old new more v c.in_ok-value.ensures.value (string_bytes l.text) (expressions_view rest)
          ∙ ap (λ s. s ++ marked_text cs at (length new) (expressions_view rest)) (sym c.in_ok-push_text.ensures),
      l.invariant.1 ∙ ap (λ ys. old ++ all_tokens cs at (length old) (expressions_view ys)) here ∙ all_tokens_then cs at (view x) old new more (expressions_view rest),
    )

pub mark_pieces-returns-clause-value : goal.mark_pieces-returns-clause-value
mark_pieces-returns-clause-value t c =
    let l = c.loop-piece in
    let cs = constructs c.args.tree.now in
    let at = c.args.at in
    let xs = c.as_slice-piece-items.result.now in
    let done = string_bytes l.text in
    let none : drop l.piece-index xs ≡ [] = drop_all l.piece-index xs (omega arith) in
    view-String l.text ∙ ap string (sym (
    ap (λ ys. marked_text cs at (length (tokens_in c.args.table.now)) (expressions_view ys)) (sym c.as_slice-piece-items.ensures)
    ∙ l.invariant.0 ∙ ap (λ ys. done ++ marked_text cs at (length (tokens_in l.table)) (expressions_view ys)) none ∙ append-nil done
    ))

pub mark_pieces-returns-clause-tokens : goal.mark_pieces-returns-clause-tokens
mark_pieces-returns-clause-tokens t c =
    let l = c.loop-piece in
    let cs = constructs c.args.tree.now in
    let at = c.args.at in
    let xs = c.as_slice-piece-items.result.now in
    let old = tokens_in c.args.table.now in
    let new = tokens_in l.table in
    let none : drop l.piece-index xs ≡ [] = drop_all l.piece-index xs (omega arith) in
    sym (
    ap (λ ys. old ++ all_tokens cs at (length old) (expressions_view ys)) (sym c.as_slice-piece-items.ensures)
    ∙ l.invariant.1 ∙ ap (λ ys. new ++ all_tokens cs at (length new) (expressions_view ys)) none ∙ append-nil new
    )

pub mark_expression-returns-in-Text : goal.mark_expression-returns-in-Text
mark_expression-returns-in-Text t c =
    let cs = constructs c.args.tree.now in
    let at = c.args.at in
    let old = tokens_in c.args.table.now in
    let e = view c.args.e.now in
    let a = c.in-Text in
    let seen : e ≡ expression.text a.text = ap view a.is ∙ view-Text a.text in
    record { value = seen_value cs at old json_view c.text_value.result e (expression.text a.text) seen c.text_value.ensures; tokens = no_tokens cs at old c.text_value.result e (expression.text a.text) seen refl }

pub mark_expression-returns-in-Whole-clause-tokens : goal.mark_expression-returns-in-Whole-clause-tokens
mark_expression-returns-in-Whole-clause-tokens t c =
    let a = c.in-Whole in
    no_tokens (constructs c.args.tree.now) c.args.at (tokens_in c.args.table.now) c.whole_value.result (view c.args.e.now) (expression.whole a.n) (ap view a.is ∙ view-Whole a.n) refl

pub mark_expression-returns-in-Truth : goal.mark_expression-returns-in-Truth
mark_expression-returns-in-Truth t c =
    let cs = constructs c.args.tree.now in
    let at = c.args.at in
    let old = tokens_in c.args.table.now in
    let a = c.in-Truth in
    let seen : view c.args.e.now ≡ expression.truth a.b = ap view a.is ∙ view-Truth a.b in
    record {
      value = view-Bool a.b ∙ ap (marked cs at (length old)) (sym seen);
      tokens = sym (append-nil old) ∙ ap (λ e. old ++ tokens cs at (length old) e) (sym seen);
    }

pub mark_expression-returns-in-Context : goal.mark_expression-returns-in-Context
mark_expression-returns-in-Context t c =
    let cs = constructs c.args.tree.now in
    let at = c.args.at in
    let old = tokens_in c.args.table.now in
    let e = view c.args.e.now in
    let a = c.in-Context in
    let seen : e ≡ expression.context a.key (option_map json_view a.default) = ap view a.is ∙ view-Context a.key a.default in
    record { value = seen_value cs at old json_view c.context_value.result e (expression.context a.key (option_map json_view a.default)) seen c.context_value.ensures; tokens = no_tokens cs at old c.context_value.result e (expression.context a.key (option_map json_view a.default)) seen refl }

pub mark_expression-returns-in-List : goal.mark_expression-returns-in-List
mark_expression-returns-in-List t c =
    let cs = constructs c.args.tree.now in
    let at = c.args.at in
    let old = tokens_in c.args.table.now in
    let e = view c.args.e.now in
    let a = c.in-List in
    let seen : e ≡ expression.list (expressions_view a.items) = ap view a.is ∙ view-List a.items in
    record { value = seen_value cs at old json_view c.mark_items.result e (expression.list (expressions_view a.items)) seen c.mark_items.ensures.value; tokens = seen_tokens cs at old c.mark_items.result (tokens_in c.mark_items.new.table) e (expression.list (expressions_view a.items)) seen c.mark_items.ensures.tokens }

pub mark_expression-returns-in-Object : goal.mark_expression-returns-in-Object
mark_expression-returns-in-Object t c =
    let cs = constructs c.args.tree.now in
    let at = c.args.at in
    let old = tokens_in c.args.table.now in
    let e = view c.args.e.now in
    let a = c.in-Object in
    let seen : e ≡ expression.object (fields_view a.fields) = ap view a.is ∙ view-Object a.fields in
    record { value = seen_value cs at old json_view c.mark_fields.result e (expression.object (fields_view a.fields)) seen c.mark_fields.ensures.value; tokens = seen_tokens cs at old c.mark_fields.result (tokens_in c.mark_fields.new.table) e (expression.object (fields_view a.fields)) seen c.mark_fields.ensures.tokens }

pub mark_expression-returns-in-Concat : goal.mark_expression-returns-in-Concat
mark_expression-returns-in-Concat t c =
    let cs = constructs c.args.tree.now in
    let at = c.args.at in
    let old = tokens_in c.args.table.now in
    let e = view c.args.e.now in
    let a = c.in-Concat in
    let seen : e ≡ expression.concat (expressions_view a.pieces) = ap view a.is ∙ view-Concat a.pieces in
    record { value = seen_value cs at old json_view c.mark_pieces.result e (expression.concat (expressions_view a.pieces)) seen c.mark_pieces.ensures.value; tokens = seen_tokens cs at old c.mark_pieces.result (tokens_in c.mark_pieces.new.table) e (expression.concat (expressions_view a.pieces)) seen c.mark_pieces.ensures.tokens }

pub mark_expression-returns-in-Pseudo : goal.mark_expression-returns-in-Pseudo
mark_expression-returns-in-Pseudo t c =
    let cs = constructs c.args.tree.now in
    let at = c.args.at in
    let old = tokens_in c.args.table.now in
    let e = view c.args.e.now in
    let a = c.in-Pseudo in
    let r = c.push_token.result in
    let all = tokens_in c.push_token.new.table in
    let form : token.Form = token.pseudo a.pseudo in
    let next = next-pseudo cs at old e a.pseudo (ap view a.is ∙ view-Pseudo a.pseudo) in
    record { value = put_value cs at old json_view r old e form next c.push_token.ensures.value; tokens = put_tokens cs at old r old all e form next c.push_token.ensures.tokens }

pub mark_expression-returns-in-Ref : goal.mark_expression-returns-in-Ref
mark_expression-returns-in-Ref t c =
    let cs = constructs c.args.tree.now in
    let at = c.args.at in
    let old = tokens_in c.args.table.now in
    let e = view c.args.e.now in
    let a = c.in-Ref in
    let r = c.push_token-in-Ref.result in
    let all = tokens_in c.push_token-in-Ref.new.table in
    let form : token.Form = token.ref c.target_of.result in
    let next = next-ref cs at old e a.path c.target_of.result (ap view a.is ∙ view-Ref a.path) c.target_of.ensures in
    record { value = put_value cs at old json_view r old e form next c.push_token-in-Ref.ensures.value; tokens = put_tokens cs at old r old all e form next c.push_token-in-Ref.ensures.tokens }

pub mark_expression-returns-in-Lazy : goal.mark_expression-returns-in-Lazy
mark_expression-returns-in-Lazy t c =
    let cs = constructs c.args.tree.now in
    let at = c.args.at in
    let old = tokens_in c.args.table.now in
    let e = view c.args.e.now in
    let a = c.in-Lazy in
    let r = c.push_token-in-Lazy.result in
    let all = tokens_in c.push_token-in-Lazy.new.table in
    let form : token.Form = token.lazy c.target_of-in-Lazy.result in
    let next = next-lazy cs at old e a.path c.target_of-in-Lazy.result (ap view a.is ∙ view-Lazy a.path) c.target_of-in-Lazy.ensures in
    record { value = put_value cs at old json_view r old e form next c.push_token-in-Lazy.ensures.value; tokens = put_tokens cs at old r old all e form next c.push_token-in-Lazy.ensures.tokens }

pub mark_expression-returns-in-GetAtt : goal.mark_expression-returns-in-GetAtt
mark_expression-returns-in-GetAtt t c =
    let cs = constructs c.args.tree.now in
    let at = c.args.at in
    let old = tokens_in c.args.table.now in
    let e = view c.args.e.now in
    let a = c.in-GetAtt in
    let r = c.push_get_att.result in
    let all = tokens_in c.push_get_att.new.table in
    let form : token.Form = token.get_att (target cs a.path) a.attribute in
    let next = next-get_att cs at old e a.path a.attribute (ap view a.is ∙ view-GetAtt a.path a.attribute) in
    record { value = put_value cs at old json_view r old e form next c.push_get_att.ensures.value; tokens = put_tokens cs at old r old all e form next c.push_get_att.ensures.tokens }

pub mark_expression-returns-in-ImportValue : goal.mark_expression-returns-in-ImportValue
mark_expression-returns-in-ImportValue t c =
    let cs = constructs c.args.tree.now in
    let at = c.args.at in
    let old = tokens_in c.args.table.now in
    let e = view c.args.e.now in
    let a = c.in-ImportValue in
    let r = c.push_import_value.result in
    let all = tokens_in c.push_import_value.new.table in
    let form : token.Form = token.import_value a.name in
    let next = next-import_value cs at old e a.name (ap view a.is ∙ view-ImportValue a.name) in
    record { value = put_value cs at old json_view r old e form next c.push_import_value.ensures.value; tokens = put_tokens cs at old r old all e form next c.push_import_value.ensures.tokens }

pub mark_expression-returns-in_ok-list-in-Join : goal.mark_expression-returns-in_ok-list-in-Join
mark_expression-returns-in_ok-list-in-Join t c =
    let cs = constructs c.args.tree.now in
    let at = c.args.at in
    let old = tokens_in c.args.table.now in
    let e = view c.args.e.now in
    let a = c.in-Join in
    let r = c.push_join.result in
    let all = tokens_in c.push_join.new.table in
    let new = tokens_in c.mark_expression.new.table in
    let form : token.Form = token.join a.delimiter (json_view c.in_ok-list-in-Join.list) in
    let x = view a.list.value in
    let is : json_view c.in_ok-list-in-Join.list ≡ marked cs at (length old) x = c.in_ok-list-in-Join.ensures.value ∙ ap (λ y. marked cs at (length old) (view y)) c.deref.ensures in
    let more : new ≡ old ++ tokens cs at (length old) x = c.in_ok-list-in-Join.ensures.tokens ∙ ap (λ y. old ++ tokens cs at (length old) (view y)) c.deref.ensures in
    let next = next-join cs at old new e (view a.list.value) (json_view c.in_ok-list-in-Join.list)
    is more a.delimiter (ap view a.is ∙ view-Join a.delimiter a.list) in
    record { value = put_value cs at old json_view r new e form next c.push_join.ensures.value; tokens = put_tokens cs at old r new all e form next c.push_join.ensures.tokens }

pub mark_expression-returns-in_ok-list-in-Select : goal.mark_expression-returns-in_ok-list-in-Select
mark_expression-returns-in_ok-list-in-Select t c =
    let cs = constructs c.args.tree.now in
    let at = c.args.at in
    let old = tokens_in c.args.table.now in
    let e = view c.args.e.now in
    let a = c.in-Select in
    let r = c.push_token-in-Select.result in
    let all = tokens_in c.push_token-in-Select.new.table in
    let new = tokens_in c.mark_expression-in-Select.new.table in
    let form : token.Form = token.select a.n (json_view c.in_ok-list-in-Select.list) in
    let x = view a.list.value in
    let is : json_view c.in_ok-list-in-Select.list ≡ marked cs at (length old) x = c.in_ok-list-in-Select.ensures.value ∙ ap (λ y. marked cs at (length old) (view y)) c.deref-in-Select.ensures in
    let more : new ≡ old ++ tokens cs at (length old) x = c.in_ok-list-in-Select.ensures.tokens ∙ ap (λ y. old ++ tokens cs at (length old) (view y)) c.deref-in-Select.ensures in
    let next = next-select cs at old new e (view a.list.value) (json_view c.in_ok-list-in-Select.list)
    is more a.n (ap view a.is ∙ view-Select a.n a.list) in
    record { value = put_value cs at old json_view r new e form next c.push_token-in-Select.ensures.value; tokens = put_tokens cs at old r new all e form next c.push_token-in-Select.ensures.tokens }

pub mark_expression-returns-in_ok-text-in-Split : goal.mark_expression-returns-in_ok-text-in-Split
mark_expression-returns-in_ok-text-in-Split t c =
    let cs = constructs c.args.tree.now in
    let at = c.args.at in
    let old = tokens_in c.args.table.now in
    let e = view c.args.e.now in
    let a = c.in-Split in
    let r = c.push_split.result in
    let all = tokens_in c.push_split.new.table in
    let new = tokens_in c.mark_expression-in-Split.new.table in
    let form : token.Form = token.split a.delimiter (json_view c.in_ok-text-in-Split.text) in
    let x = view a.text.value in
    let is : json_view c.in_ok-text-in-Split.text ≡ marked cs at (length old) x = c.in_ok-text-in-Split.ensures.value ∙ ap (λ y. marked cs at (length old) (view y)) c.deref-in-Split.ensures in
    let more : new ≡ old ++ tokens cs at (length old) x = c.in_ok-text-in-Split.ensures.tokens ∙ ap (λ y. old ++ tokens cs at (length old) (view y)) c.deref-in-Split.ensures in
    let next = next-split cs at old new e (view a.text.value) (json_view c.in_ok-text-in-Split.text)
    is more a.delimiter (ap view a.is ∙ view-Split a.delimiter a.text) in
    record { value = put_value cs at old json_view r new e form next c.push_split.ensures.value; tokens = put_tokens cs at old r new all e form next c.push_split.ensures.tokens }

pub mark_expression-returns-in_ok-y-in-If : goal.mark_expression-returns-in_ok-y-in-If
mark_expression-returns-in_ok-y-in-If t c =
    let cs = constructs c.args.tree.now in
    let at = c.args.at in
    let old = tokens_in c.args.table.now in
    let e = view c.args.e.now in
    let a = c.in-If in
    let r = c.push_token-in-If.result in
    let all = tokens_in c.push_token-in-If.new.table in
    let mid = tokens_in c.mark_expression-in-If.new.table in
    let new = tokens_in c.mark_expression-in-If-2.new.table in
    let form : token.Form = token.choice c.target_of-in-If.result (json_view c.in_ok-x-in-If.x) (json_view c.in_ok-y-in-If.y) in
    let next = next-choice cs at old mid new e (view a.x.value) (view a.y.value) (json_view c.in_ok-x-in-If.x) (json_view c.in_ok-y-in-If.y) c.target_of-in-If.result a.path c.target_of-in-If.ensures
    (c.in_ok-x-in-If.ensures.value ∙ ap (λ x. marked cs at (length old) (view x)) c.deref-in-If.ensures)
    (c.in_ok-x-in-If.ensures.tokens ∙ ap (λ x. old ++ tokens cs at (length old) (view x)) c.deref-in-If.ensures)
    (c.in_ok-y-in-If.ensures.value ∙ ap (λ x. marked cs at (length mid) (view x)) c.deref-in-If-2.ensures)
    (c.in_ok-y-in-If.ensures.tokens ∙ ap (λ x. mid ++ tokens cs at (length mid) (view x)) c.deref-in-If-2.ensures)
    (ap view a.is ∙ view-If a.path a.x a.y) in
    record { value = put_value cs at old json_view r new e form next c.push_token-in-If.ensures.value; tokens = put_tokens cs at old r new all e form next c.push_token-in-If.ensures.tokens }

pub mark_expression-returns-in_ok-y-in-FindInMap : goal.mark_expression-returns-in_ok-y-in-FindInMap
mark_expression-returns-in_ok-y-in-FindInMap t c =
    let cs = constructs c.args.tree.now in
    let at = c.args.at in
    let old = tokens_in c.args.table.now in
    let e = view c.args.e.now in
    let a = c.in-FindInMap in
    let r = c.push_token-in-FindInMap.result in
    let all = tokens_in c.push_token-in-FindInMap.new.table in
    let mid = tokens_in c.mark_expression-in-FindInMap.new.table in
    let new = tokens_in c.mark_expression-in-FindInMap-2.new.table in
    let form : token.Form = token.find_in_map c.target_of-in-FindInMap.result (json_view c.in_ok-x-in-FindInMap.x) (json_view c.in_ok-y-in-FindInMap.y) in
    let next = next-find_in_map cs at old mid new e (view a.x.value) (view a.y.value) (json_view c.in_ok-x-in-FindInMap.x) (json_view c.in_ok-y-in-FindInMap.y) c.target_of-in-FindInMap.result a.path c.target_of-in-FindInMap.ensures
    (c.in_ok-x-in-FindInMap.ensures.value ∙ ap (λ x. marked cs at (length old) (view x)) c.deref-in-FindInMap.ensures)
    (c.in_ok-x-in-FindInMap.ensures.tokens ∙ ap (λ x. old ++ tokens cs at (length old) (view x)) c.deref-in-FindInMap.ensures)
    (c.in_ok-y-in-FindInMap.ensures.value ∙ ap (λ x. marked cs at (length mid) (view x)) c.deref-in-FindInMap-2.ensures)
    (c.in_ok-y-in-FindInMap.ensures.tokens ∙ ap (λ x. mid ++ tokens cs at (length mid) (view x)) c.deref-in-FindInMap-2.ensures)
    (ap view a.is ∙ view-FindInMap a.path a.x a.y) in
    record { value = put_value cs at old json_view r new e form next c.push_token-in-FindInMap.ensures.value; tokens = put_tokens cs at old r new all e form next c.push_token-in-FindInMap.ensures.tokens }
