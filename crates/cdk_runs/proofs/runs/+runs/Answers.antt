use Rattle.std.proofs.Common.{◌≡◌, ◌+◌, ◌++◌, Bool, [], ◌∷◌, drop, Some, None, IfOk, String, Global, string_bytes, sym, subst, ap, ◌∙◌, arith, rules}
use Rattle.std.proofs.lemmas.List.{drop_all}
use Rattle.serde_json.specs.declared.number.Number.{Number}
use Rattle.serde_json.specs.declared.value.Value as values
use Rattle.serde_json.specs.declared.value.Value.{the_lemmas}
use Rattle.serde_json.specs.Data.{array, boolean, number, string}
use Rattle.serde_json.specs.View.{view, number_view, items_view, members_view}
use Rattle.serde_json.proofs.Views.{Entry, view-Array, view-Object}
use Rattle.cdk_language.specs.Runs.{is_marked_run, literals_of, form_literals, concat_literals, items_literals, substituted_literals, piece_literals, sub_literals, variables_literals}
use Rattle.cdk_members.specs.SubView.{piece_view}
use Rattle.cdk_language.specs.Sub.{pieces_of}
use Rattle.cdk_language.proofs.Pieces.{after-shorter, after-text}
use Rattle.cdk_runs.specs.Reads.{Reads, opening}
use Rattle.cdk_runs.proofs.NextItem.{next_item}
use Rattle.cdk_runs.proofs.Numerals.{reads-number_as_other}
use Rattle.cdk_runs.proofs.SubRuns.{item_read, no_form_literals, concat_form, sub_form, other_form, uncut, next_cut, next_same, last_same, name_found, not_two, two_other, two_no_text, two_same}
use Rattle.cdk_runs.proofs.runs.+runs.Goals as goal

view-Number : (x : Number) → view (values.Number x) ≡ number (number_view x)
view-Number x = search (rules, the_lemmas)

view-String : (x : String Global) → view (values.String x) ≡ string (string_bytes x)
view-String x = search (rules, the_lemmas)

view-Bool : (b : Bool) → view (values.Bool b) ≡ boolean b
view-Bool b = search (rules, the_lemmas)

pub read_value-returns-in-Number-clause-reads : goal.read_value-returns-in-Number-clause-reads
read_value-returns-in-Number-clause-reads t c =
    subst (λ d. Reads c.args.matched (literals_of d) c.read_other.result) (sym (ap view c.in-Number.is ∙ view-Number c.in-Number.field-0)) (reads-number_as_other c.args.matched c.read_other.result (number_view c.in-Number.field-0) c.requires c.read_other.ensures)

pub read_piece-returns-in-Some-clause-reads : goal.read_piece-returns-in-Some-clause-reads
read_piece-returns-in-Some-clause-reads t c =
    let ms = members_view c.args.variables.now.entries in
    let e = ap (λ p. piece_literals (variables_literals ms) (piece_view p)) c.in-Name.is
    ∙ name_found c.in-Name.name.now ms (Some (view c.in-Some.value.now)) (sym c.if-not-is_variable_name.ensures) (sym c.in-Some.ensures) in
    subst (λ x. IfOk c.read_value.result (λ m. Reads c.args.matched x m)) (sym e) c.read_value.ensures.reads

pub read_piece-returns-in-None-clause-reads : goal.read_piece-returns-in-None-clause-reads
read_piece-returns-in-None-clause-reads t c =
    let ms = members_view c.args.variables.now.entries in
    let e = ap (λ p. piece_literals (variables_literals ms) (piece_view p)) c.in-Name.is
    ∙ name_found c.in-Name.name.now ms None (sym c.if-not-is_variable_name.ensures) (sym c.in-None.ensures) in
    subst (λ x. Reads c.args.matched x c.read_other-in-None.result) (sym e) c.read_other-in-None.ensures

pub read_pieces-returns-in-Literal-clause-reads : goal.read_pieces-returns-in-Literal-clause-reads
read_pieces-returns-in-Literal-clause-reads t c =
    let l = c.loop-before in
    let vs = variables_literals (members_view c.args.variables.now.entries) in
    record { bound = c.read_text.ensures.bound; same = λ more. l.invariant.same more ∙ last_same l.matched c.read_text.result l.rest.now vs more (sym c.in-Literal.ensures) c.read_text.ensures }

pub read_pieces-loop-before-smaller : goal.read_pieces-loop-before-smaller
read_pieces-loop-before-smaller t c = after-shorter c.loop-before.rest.now c.in-Piece.before.now (piece_view c.in-Piece.piece) c.in-Piece.after.now (sym c.in-Piece.ensures)

pub read_pieces-loop-before-preserved : goal.read_pieces-loop-before-preserved
read_pieces-loop-before-preserved t c =
    let l = c.loop-before in
    let p = piece_view c.in-Piece.piece in
    let first = sym c.in-Piece.ensures in
    let vs = variables_literals (members_view c.args.variables.now.entries) in
    let m = c.read_text-in-Piece.result in
    let k = c.in_ok-matched-in-Piece.matched in
    let reads = c.in_ok-matched-in-Piece.ensures.reads in
    record {
      fewer = omega arith;
      bound = reads.bound;
      cut = next_cut l.rest.now c.in-Piece.before.now c.in-Piece.after.now p first l.invariant.cut;
      same = λ more. l.invariant.same more ∙ next_same l.matched m k l.rest.now c.in-Piece.before.now c.in-Piece.after.now p vs more first l.invariant.cut c.read_text-in-Piece.ensures reads;
      text = after-text l.rest.now c.in-Piece.before.now p c.in-Piece.after.now l.invariant.text first;
    }

pub read_form-returns-in_default-clause-reads : goal.read_form-returns-in_default-clause-reads
read_form-returns-in_default-clause-reads t c =
    subst (λ x. Reads c.args.matched x c.read_other.result) (sym (no_form_literals c.args.members.now.entries c.in_default.ensures)) c.read_other.ensures

pub read_items-loop-item-preserved : goal.read_items-loop-item-preserved
read_items-loop-item-preserved t c =
    let l = c.loop-item in
    let items = c.deref-item-items.result.now in
    let v = c.item-item.result in
    let reads = c.in_ok-matched.ensures.reads in
    let here = next_item items l.item-index v c.loop-item-test.true c.item-item.is in
    record {
      fewer = omega arith;
      bound = reads.bound;
      same = λ more. l.invariant.same more ∙ ap (λ vs. is_marked_run (opening l.matched) (items_literals (items_view vs) ++ more)) here
          ∙ item_read l.matched c.in_ok-matched.matched v (drop (l.item-index + 1) items) more reads;
    }

pub read_items-returns-clause-reads : goal.read_items-returns-clause-reads
read_items-returns-clause-reads t c =
    let l = c.loop-item in
    let items = c.deref-item-items.result.now in
    let all = drop_all l.item-index items c.loop-item-test.false in
    subst (λ vs. Reads c.args.matched (items_literals (items_view vs)) l.matched) c.deref-item-items.ensures.value (record {
      bound = l.invariant.bound;
      same = λ more. l.invariant.same more ∙ ap (λ vs. is_marked_run (opening l.matched) (items_literals (items_view vs) ++ more)) all;
    })

pub read_array_sub-returns-in_default-clause-reads : goal.read_array_sub-returns-in_default-clause-reads
read_array_sub-returns-in_default-clause-reads t c =
    subst (λ x. Reads c.args.matched x c.read_other.result) (sym (not_two c.args.items.now.items c.in_default.ensures)) c.read_other.ensures

pub read_array_sub-returns-in_default-as_object-clause-reads : goal.read_array_sub-returns-in_default-as_object-clause-reads
read_array_sub-returns-in_default-as_object-clause-reads t c =
    let two = c.in-Some in
    let e = ap (λ vs. substituted_literals (array (items_view vs))) two.ensures ∙ two_other (view two.text.now) (view two.variables.now) (sym c.in_default-as_object.ensures) in
    subst (λ x. Reads c.args.matched x c.read_other-in_default-as_object.result) (sym e) c.read_other-in_default-as_object.ensures

pub read_array_sub-returns-in_default-as_str-clause-reads : goal.read_array_sub-returns-in_default-as_str-clause-reads
read_array_sub-returns-in_default-as_str-clause-reads t c =
    let two = c.in-Some in
    let e = ap (λ vs. substituted_literals (array (items_view vs))) two.ensures ∙ two_no_text (view two.text.now) (view two.variables.now) (sym c.in_default-as_str.ensures) in
    subst (λ x. Reads c.args.matched x c.read_other-in_default-as_str.result) (sym e) c.read_other-in_default-as_str.ensures

pub read_array_sub-returns-then-is_wrong_sub_text-clause-reads : goal.read_array_sub-returns-then-is_wrong_sub_text-clause-reads
read_array_sub-returns-then-is_wrong_sub_text-clause-reads t c =
    let two = c.in-Some in
    let ms = members_view c.in-Some-as_object.variables.now.entries in
    let text = c.in-Some-as_str.text.now in
    let e = ap (λ vs. substituted_literals (array (items_view vs))) two.ensures
    ∙ two_same (view two.text.now) (view two.variables.now) ms text (sym c.in-Some-as_object.ensures) (sym c.in-Some-as_str.ensures)
    ∙ ap (sub_literals (variables_literals ms)) (uncut text (sym c.if-is_wrong_sub_text.ensures)) in
    subst (λ x. Reads c.args.matched x c.read_other-then-is_wrong_sub_text.result) (sym e) c.read_other-then-is_wrong_sub_text.ensures

pub read_array_sub-returns-clause-reads : goal.read_array_sub-returns-clause-reads
read_array_sub-returns-clause-reads t c =
    let two = c.in-Some in
    let e = ap (λ vs. substituted_literals (array (items_view vs))) two.ensures
    ∙ two_same (view two.text.now) (view two.variables.now) (members_view c.in-Some-as_object.variables.now.entries) c.in-Some-as_str.text.now
    (sym c.in-Some-as_object.ensures) (sym c.in-Some-as_str.ensures) in
    subst (λ x. IfOk c.read_pieces.result (λ m. Reads c.args.matched x m)) (sym e) c.read_pieces.ensures.reads

pub read_sub-returns-in-String-clause-reads : goal.read_sub-returns-in-String-clause-reads
read_sub-returns-in-String-clause-reads t c =
    let e = ap substituted_literals (ap view c.in-String.is ∙ view-String c.in-String.text) ∙ ap (λ s. sub_literals [] (pieces_of s)) (sym c.as_str.ensures.value) in
    subst (λ x. IfOk c.read_text_sub.result (λ m. Reads c.args.matched x m)) (sym e) c.read_text_sub.ensures.reads

pub read_sub-returns-in-Array-clause-reads : goal.read_sub-returns-in-Array-clause-reads
read_sub-returns-in-Array-clause-reads t c =
    let e = ap substituted_literals (ap view c.in-Array.is ∙ view-Array c.in-Array.items) in
    subst (λ x. IfOk c.read_array_sub.result (λ m. Reads c.args.matched x m)) (sym e) c.read_array_sub.ensures.reads

pub read_form-returns-in-text-clause-reads : goal.read_form-returns-in-text-clause-reads
read_form-returns-in-text-clause-reads t c =
    let e : Entry = (c.in-Some.key.now, c.in-Some.member.now) in
    let same = ap (λ es. form_literals (members_view es)) c.in-Some.ensures ∙ concat_form e c.as_str.result.now c.as_str.ensures.value c.in-text.is in
    subst (λ x. IfOk c.read_concat.result (λ m. Reads c.args.matched x m)) (sym same) c.read_concat.ensures.reads

pub read_form-returns-in-text-2-clause-reads : goal.read_form-returns-in-text-2-clause-reads
read_form-returns-in-text-2-clause-reads t c =
    let e : Entry = (c.in-Some.key.now, c.in-Some.member.now) in
    let same = ap (λ es. form_literals (members_view es)) c.in-Some.ensures ∙ sub_form e c.as_str.result.now c.as_str.ensures.value c.in-text-2.is in
    subst (λ x. IfOk c.read_sub.result (λ m. Reads c.args.matched x m)) (sym same) c.read_sub.ensures.reads

pub read_form-returns-in_default-as_str-clause-reads : goal.read_form-returns-in_default-as_str-clause-reads
read_form-returns-in_default-as_str-clause-reads t c =
    let e : Entry = (c.in-Some.key.now, c.in-Some.member.now) in
    let other = c.in_default-as_str in
    let same = ap (λ es. form_literals (members_view es)) c.in-Some.ensures ∙ other_form e c.as_str.result.now c.as_str.ensures.value other.not-text other.not-text-2 in
    subst (λ x. Reads c.args.matched x c.read_other-in_default-as_str.result) (sym same) c.read_other-in_default-as_str.ensures

pub read_value-returns-in-Object-clause-reads : goal.read_value-returns-in-Object-clause-reads
read_value-returns-in-Object-clause-reads t c =
    let e = ap literals_of (ap view c.in-Object.is ∙ view-Object c.in-Object.members) in
    subst (λ x. IfOk c.read_form.result (λ m. Reads c.args.matched x m)) (sym e) c.read_form.ensures.reads

pub read_value-returns-in-String-value-clause-reads : goal.read_value-returns-in-String-value-clause-reads
read_value-returns-in-String-value-clause-reads t c =
    let text = c.in-String-value.text in
    let e = ap literals_of (ap view c.in-String-value.is ∙ view-String text) ∙ ap (λ s. Some s ∷ []) (sym c.as_str-in-String-value.ensures.value) in
    subst (λ x. Reads c.args.matched x c.read_text.result) (sym e) c.read_text.ensures

pub read_value-returns-in-Bool-clause-reads : goal.read_value-returns-in-Bool-clause-reads
read_value-returns-in-Bool-clause-reads t c =
    let e = ap literals_of (ap view c.in-Bool.is ∙ view-Bool c.in-Bool.truth) in
    subst (λ x. Reads c.args.matched x c.read_truth.result) (sym e) c.read_truth.ensures

pub read_concat-returns-in-Array-clause-reads : goal.read_concat-returns-in-Array-clause-reads
read_concat-returns-in-Array-clause-reads t c =
    let e = ap concat_literals (ap view c.in-Array.is ∙ view-Array c.in-Array.items) in
    subst (λ x. IfOk c.read_items.result (λ m. Reads c.args.matched x m)) (sym e) c.read_items.ensures.reads
