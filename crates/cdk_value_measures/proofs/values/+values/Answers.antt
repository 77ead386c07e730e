use Rattle.std.proofs.Common.{◌≡◌, ◌∷◌, true, Some, sym, ap, ap₂, ◌∙◌, arith, rules}
use Rattle.serde_json.specs.View.{items_view, members_view}
use Rattle.cdk_markers.specs.Cut.{cut_of}
use Rattle.cdk_markers.specs.Left.{left, piece_view}
use Rattle.cdk_value_measures.proofs.Running.{items_after, items_running, members_after, members_running, text_after, text_running}
use Rattle.cdk_value_measures.proofs.TokenMeasures.{measured_below}
use Rattle.cdk_value_measures.proofs.Weights.{lighter, members_weight}
use Rattle.cdk_value_measures.specs.Expanding.{assembled_measure, kept_at, piece_measure}
use Rattle.cdk_value_measures.specs.Keeping.{known_to}
use Rattle.cdk_measure.specs.Wholes.{no_parts, with_part}
use Rattle.cdk_value_measures.specs.Constructs.{path_in}
use Rattle.cdk_tokens.specs.TableView.{tokens_in}
use Rattle.cdk_tokens.specs.Token.{find_token}
use Rattle.cdk_tokens.specs.Views.{token_view}
use Rattle.cdk_tree.specs.TreeView.{constructs}
use Rattle.cdk_value_measures.proofs.values.+values.Goals as goal

pub items_parts-loop-item-init : goal.items_parts-loop-item-init
items_parts-loop-item-init t c =
    let known = known_to c.args.tree.now c.args.table.now c.args.kept.now c.args.below in
    let ds = items_view c.deref-item-items.result.now in
    record { same = items_running known ds ∙ ap (λ ps. items_after known ps ds) (sym c.none-parts.ensures); lighter = omega arith }

pub members_parts-loop-key-init : goal.members_parts-loop-key-init
members_parts-loop-key-init t c =
    let known = known_to c.args.tree.now c.args.table.now c.args.kept.now c.args.below in
    let ms = members_view c.args.members.now.entries in
    let all : members_view c.into_iter-key-iterator.result ≡ ms = ap members_view (c.into_iter-key-iterator.ensures.into_iter_gives ∙ c.iter-key-items.ensures.rest) in
    let weights = ap members_weight all in
    record {
      can_next = tt;
      is_finite = tt;
      same = members_running known ms ∙ (ap (λ ps. members_after known ps ms) (sym c.none-parts.ensures) ∙ ap (members_after known c.none-parts.result) (sym all));
      lighter = omega (arith, weights);
    }

pub text_measure-loop-piece-init : goal.text_measure-loop-piece-init
text_measure-loop-piece-init t c =
    let known = known_to c.args.tree.now c.args.table.now c.args.kept.now c.args.below in
    let p = piece_view c.in-Some.piece in
    let rest = left c.next.new.self in
    let first = c.piece_measure-first.result in
    let cut : cut_of c.args.text.now ≡ p ∷ rest = sym c.pieces-rest.ensures.computed ∙ c.in-Some.ensures.steps in
    let parts : with_part 0 (piece_measure known p) no_parts ≡ c.with-parts.result =
    ap₂ (with_part 0) (sym c.piece_measure-first.ensures) (sym c.none.ensures) ∙ sym c.with-parts.ensures in
    record {
      can_next = tt;
      is_finite = tt;
      same =
          ap (assembled_measure known) cut
          ∙ (text_running known p rest
          ∙ (ap₂ (λ m ps. text_after known m true ps rest) (sym c.piece_measure-first.ensures) parts
          ∙ ap (λ s. text_after known first true c.with-parts.result (left s)) (sym c.into_iter-piece-iterator.ensures.into_iter_gives)));
    }

pub key_measure-form_measure-requires : goal.key_measure-form_measure-requires
key_measure-form_measure-requires t c =
    let low = lighter (tokens_in c.args.table.now) (token_view c.in_ok-token.token.now) c.in_ok-number.number c.args.below (sym c.in_ok-token.ensures) c.if-number-below.false in search (rules, low)

pub key_measure-returns : goal.key_measure-returns
key_measure-returns t c =
    let path = path_in (constructs c.args.tree.now) in
    let lazies = kept_at c.args.kept.now in
    let ts = tokens_in c.args.table.now in
    let number = c.in_ok-number.number in
    let found : find_token ts c.args.key.now ≡ Some number = sym c.find.ensures ∙ c.in_ok-number.was in
    measured_below path lazies ts c.args.below number c.args.key.now (token_view c.in_ok-token.token.now) c.form_measure.result found c.if-number-below.false (sym c.in_ok-token.ensures) c.form_measure.ensures
