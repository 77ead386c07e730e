use Rattle.std.proofs.Common.{◌≡◌, ◌<◌, ◌∷◌, ◌++◌, ◌+◌, ℕ, [], Bool, true, false, cond, Some, None, drop, length, map, sym, ap, ◌∙◌, arith}
use Rattle.std.specs.Prelude.{nat_lt}
use Rattle.std.proofs.lemmas.List.{append-nil, drop_all, drop_more, map-append}
use Rattle.cdk_language.specs.Construct.{kind_view}
use Rattle.cdk_tree.specs.Placed.{construct_at, nowhere}
use Rattle.cdk_tree.specs.TreeView.{constructs}
use Rattle.cdk_tokens.specs.TableView.{tokens_in}
use Rattle.cdk_tokens.specs.Views.{part_view}
use Rattle.cdk_contexts.specs.Expressions.{expressions_in}
use Rattle.cdk_tokens.specs.Whole.{marked_body, marked_from, tokens_from, tokens_of_list}
use Rattle.cdk_tokens.proofs.ListLemmas.{marked_from_then, tokens_from_then}
use Rattle.cdk_tokens.proofs.whole.mark_constructs.Goals as goal

id_is : (b : Bool) (n at : ℕ) → Some at ≡ cond b (Some n) None → at ≡ n
id_is true n at h = cc
id_is false n at h = cc

pub loop-number-preserved : goal.loop-number-preserved
loop-number-preserved c =
    let l = c.loop-number in
    let cs = constructs c.args.tree.now in
    let n = l.number in
    let old = tokens_in l.table in
    let new = tokens_in c.mark_kind.new.table in
    let kind = kind_view c.node.result.now.kind in
    let part = part_view c.in_ok-part.part in
    let done = map part_view l.parts.items in
    let rest = drop (n + 1) cs in
    let within : n < length cs = omega (arith, c.len-number-end.ensures) in
    let at : c.in-Some.at ≡ n = id_is (nat_lt n (length cs)) n c.in-Some.at c.in-Some.ensures in
    let here : drop n cs ≡ construct_at cs n ∷ rest = drop_more cs n nowhere within in
    let body : kind ≡ (construct_at cs n).body = c.node.ensures.body ∙ ap (λ k. (construct_at cs k).body) at in
    let value : part ≡ marked_body cs n (length old) (construct_at cs n).body =
    c.in_ok-part.ensures.value ∙ ap (λ k. marked_body cs k (length old) kind) at ∙ ap (marked_body cs n (length old)) body in
    let more : new ≡ old ++ tokens_of_list cs n (length old) (expressions_in (construct_at cs n).body) =
    c.in_ok-part.ensures.tokens ∙ ap (λ k. old ++ tokens_of_list cs k (length old) (expressions_in kind)) at
    ∙ ap (λ b. old ++ tokens_of_list cs n (length old) (expressions_in b)) body in (
      l.invariant.0 ∙ ap (λ ps. done ++ marked_from cs n (length old) ps) here
          ∙ marked_from_then cs n (construct_at cs n) rest old new more done part value
          ∙ ap (λ ms. ms ++ marked_from cs (n + 1) (length new) rest) (sym (map-append part_view l.parts.items (c.in_ok-part.part ∷ [])))
          ∙ ap (λ ps. map part_view ps ++ marked_from cs (n + 1) (length new) rest) (sym c.in_ok-push.ensures.items),
      l.invariant.1 ∙ ap (λ ps. old ++ tokens_from cs n (length old) ps) here ∙ tokens_from_then cs n (construct_at cs n) rest old new more,
    )

pub node-requires : goal.node-requires
node-requires c =
    let at : c.in-Some.at ≡ c.loop-number.number = id_is (nat_lt c.loop-number.number (length (constructs c.args.tree.now))) c.loop-number.number c.in-Some.at c.in-Some.ensures in
    omega (arith, c.len-number-end.ensures)

pub mark_kind-requires : goal.mark_kind-requires
mark_kind-requires c =
    let at : c.in-Some.at ≡ c.loop-number.number = id_is (nat_lt c.loop-number.number (length (constructs c.args.tree.now))) c.loop-number.number c.in-Some.at c.in-Some.ensures in
    omega (arith, c.len-number-end.ensures)

pub returns : goal.returns
returns c =
    let l = c.loop-number in
    let cs = constructs c.args.tree.now in
    let done = map part_view l.parts.items in
    let now = tokens_in l.table in
    let none : drop l.number cs ≡ [] = drop_all l.number cs (omega (arith, c.len-number-end.ensures)) in (
      c.of.ensures ∙ sym (l.invariant.0 ∙ ap (λ ps. done ++ marked_from cs l.number (length now) ps) none ∙ append-nil done),
      sym (l.invariant.1 ∙ ap (λ ps. now ++ tokens_from cs l.number (length now) ps) none ∙ append-nil now),
    )
