use Rattle.std.proofs.Common.{◌≡◌, ◌+◌, ◌++◌, [], ◌∷◌, take, drop, sym, ap, ap₂, ◌∙◌, arith, append_assoc, append-nil}
use Rattle.std.proofs.lemmas.List.{drop_more, drop_all, take_all}
use Rattle.cdk_names.specs.Names.{visible}
use Rattle.cdk_names.specs.Steps.{next_last, part_text}
use Rattle.cdk_names.proofs.Parts.{human_text, human_text_step, human_text-start, take_twice, length_taken}
use Rattle.cdk_names.proofs.human.push_human.Goals as goal

pub loop-component-preserved : goal.loop-component-preserved
loop-component-preserved c =
    let l = c.loop-component in
    let xs = c.args.components.now in
    let x = c.component-item.result in
    let rest = drop (l.component-index + 1) xs in
    let here : drop l.component-index xs ≡ x ∷ rest = drop_more xs l.component-index x (omega arith) ∙ ap (λ y. y ∷ rest) (sym c.component-item.is) in
    let done = c.add_part-last.ensures in
    let seen = c.as_str.ensures in
    let last = l.last.now in
    let grown : c.add_part-last.new.name.bytes ≡ take 240 (l.name.bytes ++ part_text last x) = done.name ∙ ap (λ p. take 240 (l.name.bytes ++ part_text last p)) seen in
    let next : c.add_part-last.result.now ≡ next_last last x = done.last ∙ ap (next_last last) seen in (
      ap₂ (λ s p. take 240 (s ++ human_text p rest)) grown next ∙ take_twice 240 (l.name.bytes ++ part_text last x) _ ∙ ap (take 240) (append_assoc l.name.bytes (part_text last x) _)
          ∙ ap (λ s. take 240 (l.name.bytes ++ s)) (sym (human_text_step last x rest) ∙ ap (human_text last) (sym here)) ∙ l.invariant.0,
      length_taken 240 _ _ grown,
      c.add_part-last.utf8,
    )

pub returns : goal.returns
returns c =
    let l = c.loop-component in
    let none : drop l.component-index c.args.components.now ≡ [] = drop_all l.component-index c.args.components.now (omega arith) in
    sym (take_all 240 l.name.bytes l.invariant.1) ∙ ap (take 240) (sym (append-nil l.name.bytes)) ∙ ap (λ ys. take 240 (l.name.bytes ++ human_text l.last.now ys)) (sym none) ∙ l.invariant.0 ∙ ap (take 240) (human_text-start (visible c.args.components.now))
