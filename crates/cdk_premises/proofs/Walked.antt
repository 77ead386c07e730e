-- The constructs of a carried application, each for itself, and all together.
use Rattle.std.proofs.Common.{◌≡◌, ◌≤◌, ℕ, ◌+◌, List, [], ◌∷◌, ◌++◌, length, true, false, ◌&&◌, nat_le, if◌then◌else◌, refl, sym, ap, ◌∙◌, true≢false, arith}
use Rattle.std.specs.List.{list_all}
use Rattle.std.proofs.lemmas.Bool.{leb-true}
use Rattle.cdk_carried.specs.Carried.{has_carried_head, has_carried_parts, has_no_items, have_carried_parts, is_carried_body, stacks}
use Rattle.cdk_elements.specs.OneStack.{has_none, is_alone, is_alone_body}
use Rattle.cdk_language.specs.Construct as language
use Rattle.cdk_language.specs.Construct.{Application, Body, Construct, Constructs, Head}
use Rattle.cdk_meaning.specs.Names.{Each}
use Rattle.cdk_tree.specs.Placed.{Placed, constructs_of, is_stage, placed_in, root_placed, walk, walk_children}
use Rattle.cdk_tree.proofs.Tests.{and_both, and_left, and_right}
use Rattle.cdk_premises.specs.WrittenLaws.{CarriedConstructsAreOneStack}
use Rattle.cdk_premises.proofs.Counted.{stacks_walked}

-- what is shown of each
record IsGoodPlaced (c : Placed) : Type 0 where
  pub alone : is_alone c ≡ true
  pub staged : c.stage ≡ 0

-- ---- one construct

none : {A : Type 0} (xs : List A) → has_no_items xs ≡ true → has_none xs ≡ true
none [] h = refl
none (x ∷ xs) h = h

no_stage : (b : Body) → is_carried_body b ≡ true → is_stage b ≡ false
no_stage language.root h = refl
no_stage language.stage h = absurd (true≢false (sym h))
no_stage (language.stack d) h = refl
no_stage language.group h = refl
no_stage (language.resource r) h = refl
no_stage (language.parameter p) h = refl
no_stage (language.condition_body c) h = refl
no_stage (language.mapping m) h = refl
no_stage (language.output o) h = refl
no_stage (language.lazy e) h = refl

alone_body : (b : Body) → is_carried_body b ≡ true → is_alone_body b ≡ true
alone_body language.root h = refl
alone_body language.stage h = h
alone_body (language.stack d) h = refl
alone_body language.group h = refl
alone_body (language.resource r) h = refl
alone_body (language.parameter p) h = refl
alone_body (language.condition_body c) h = refl
alone_body (language.mapping m) h = refl
alone_body (language.output o) h = h
alone_body (language.lazy e) h = refl

module _ (h : Head) (b : Body) (cs : Constructs) (carried : has_carried_parts (language.construct h b cs) ≡ true) where
  own_carried : (has_carried_head (language.construct h b cs) && is_carried_body b) ≡ true
  own_carried = and_left (has_carried_head (language.construct h b cs) && is_carried_body b) (have_carried_parts cs) carried

  head_carried : (has_no_items h.aspects && has_no_items h.depends) ≡ true
  head_carried = and_left (has_carried_head (language.construct h b cs)) (is_carried_body b) own_carried

  body_carried : is_carried_body b ≡ true
  body_carried = and_right (has_carried_head (language.construct h b cs)) (is_carried_body b) own_carried

  children_carried : have_carried_parts cs ≡ true
  children_carried = and_right (has_carried_head (language.construct h b cs) && is_carried_body b) (have_carried_parts cs) carried

  stands_alone : ((has_none h.depends && has_none h.aspects) && is_alone_body b) ≡ true
  stands_alone =
      let depends = none h.depends (and_right (has_no_items h.aspects) (has_no_items h.depends) head_carried) in
      let aspects = none h.aspects (and_left (has_no_items h.aspects) (has_no_items h.depends) head_carried) in
      and_both (has_none h.depends && has_none h.aspects) (is_alone_body b) (and_both (has_none h.depends) (has_none h.aspects) depends aspects) (alone_body b body_carried)

  root_good : IsGoodPlaced (root_placed h b)
  root_good = record { alone = stands_alone; staged = refl }

  placed_good : (n m : ℕ) (p : Placed) → p.stage ≡ 0 → IsGoodPlaced (placed_in n m p h b)
  placed_good n m p scope = record { alone = stands_alone; staged = ap (λ t. if t then n else p.stage) (no_stage b body_carried) ∙ scope }

-- ---- the walk

each_append : {A : Type 0} (P : A → Type 0) (xs ys : List A) → Each P xs → Each P ys → Each P (xs ++ ys)
each_append P [] ys h g = g
each_append P (x ∷ xs) ys h g = (h.0, each_append P xs ys h.1 g)

mutual
  walk_good : (n m : ℕ) (p : Placed) (c : Construct) → p.stage ≡ 0 → has_carried_parts c ≡ true → Each IsGoodPlaced (walk n m p c)
  walk_good n m p (language.construct h b cs) scope carried =
      let here = placed_good h b cs carried n m p scope in
      (here, children_good (n + 1) n (placed_in n m p h b) cs here.staged (children_carried h b cs carried))

  children_good : (n m : ℕ) (p : Placed) (cs : Constructs) → p.stage ≡ 0 → have_carried_parts cs ≡ true → Each IsGoodPlaced (walk_children n m p cs)
  children_good n m p language.no_constructs scope carried = tt
  children_good n m p (language.child c cs) scope carried =
      let later = n + length (walk n m p c) in
      each_append IsGoodPlaced (walk n m p c) (walk_children later m p cs)
      (walk_good n m p c scope (and_left (has_carried_parts c) (have_carried_parts cs) carried))
      (children_good later m p cs scope (and_right (has_carried_parts c) (have_carried_parts cs) carried))

application_good : (a : Application) → has_carried_parts a ≡ true → Each IsGoodPlaced (constructs_of a)
application_good (language.construct h b cs) carried =
    let here = root_good h b cs carried in
    (here, children_good 1 0 (root_placed h b) cs here.staged (children_carried h b cs carried))

-- ---- the application

each_staged : (cs : List Placed) → Each IsGoodPlaced cs → Each (λ c. c.stage ≡ 0) cs
each_staged [] h = tt
each_staged (c ∷ cs) h = (h.0.staged, each_staged cs h.1)

all_alone : (cs : List Placed) → Each IsGoodPlaced cs → list_all is_alone cs ≡ true
all_alone [] h = refl
all_alone (c ∷ cs) h = and_both (is_alone c) (list_all is_alone cs) h.0.alone (all_alone cs h.1)

pub carried_constructs_are_one_stack : CarriedConstructsAreOneStack
carried_constructs_are_one_stack a carried =
    let one : stacks a ≤ 1 = leb-true (stacks a) 1 (and_right (has_carried_parts a) (nat_le (stacks a) 1) carried) in
    let each = application_good a (and_left (has_carried_parts a) (nat_le (stacks a) 1) carried) in
    record { alone = all_alone (constructs_of a) each; staged = each_staged (constructs_of a) each; few = omega (arith, one, stacks_walked a) }
