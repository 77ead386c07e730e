use Rattle.std.proofs.Common.{[], ◌∷◌, ◌++◌, refl, ap, ◌∙◌, rules}
use Rattle.cdk_texts.specs.declared.sub.Part.TheVariants as parts
use Rattle.cdk_texts.proofs.Holes.{parts_done, parts_open, parts_more}
use Rattle.cdk_texts.proofs.sub.sub_parts.Goals as goal

pub returns-in_default : goal.returns-in_default
returns-in_default c = parts_done c.args.text.now c.parts.rest.now c.parts.parts.items _ c.parts.invariant.1 c.in_default.ensures.value _ refl c.in_ok-push.ensures.items

pub returns-in_default-around : goal.returns-in_default-around
returns-in_default-around c =
    parts_open c.args.text.now c.parts.rest.now c.parts.parts.items c.parts.parts.items c.parts.invariant.1 (c.in-Some.before.now, c.in-Some.opened.now) c.in-Some.ensures.value c.in_default-around.ensures.value

pub parts-preserved : goal.parts-preserved
parts-preserved c = (
  search rules,
  parts_more c.args.text.now c.parts.rest.now c.parts.parts.items _ c.parts.invariant.1 (c.in-Some.before.now, c.in-Some.opened.now) (c.in-Some-around.name.now, c.in-Some-around.after.now) (parts.Literal c.in-Some.before) (parts.Hole c.in-Some-around.name)
      c.in-Some.ensures.value c.in-Some-around.ensures.value refl refl (c.in_ok-push-3.ensures.items ∙ ap (λ ps. ps ++ parts.Hole c.in-Some-around.name ∷ []) c.in_ok-push-2.ensures.items),
)
