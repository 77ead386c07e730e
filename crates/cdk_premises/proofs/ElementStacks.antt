-- In a tree of one stack each element stands in that stack: it stands in the stack of its parent, which is a stack of the tree.
use Rattle.std.proofs.Common.{◌≡◌, ◌<◌, ℕ, ◌+◌, List, [], ◌∷◌, ◌++◌, length, Bool, true, false, true≢false, cond, Option, Some, None, refl, sym, ap, ◌∙◌, subst, arith, append_assoc, length-append, inl, inr}
use Rattle.std.specs.Prelude.{◌||◌, ◌&&◌, is_none, is_some, nat_le, not, ⊤}
use Rattle.std.proofs.lemmas.Bool.{cases_lt, or_parts}
use Rattle.std.proofs.lemmas.List.{get_or_append_left, get_or_past}
use Rattle.std.proofs.Math.Seq.{get_or-append_seam}
use Rattle.cdk_base.specs.declared.code.Code.TheVariants.{BadId, SameId, BadPlace}
use Rattle.cdk_elements.specs.Elements.{name_around}
use Rattle.cdk_elements.specs.Kinds.{stacks_of}
use Rattle.cdk_language.specs.Construct as language
use Rattle.cdk_language.specs.Construct.{Application, Body, Construct, Constructs, Head}
use Rattle.cdk_meaning.specs.Names.{Each, IsIn}
use Rattle.cdk_tree.proofs.Findings.{findings_from-append}
use Rattle.cdk_tree.specs.PlaceFindings.{findings_from, found_at, has_taken_id, is_element, is_id, is_misplaced, place_findings, when, wrong_at}
use Rattle.cdk_tree.specs.Placed.{Placed, construct_at, constructs_of, is_stack, is_stage, nowhere, placed_in, root_placed, walk, walk_children}
use Rattle.cdk_premises.specs.MentionsLaws.{ElementsStandInTheStack}
use Rattle.cdk_premises.specs.OneTree.{IsOneTree, IsRooted}
use Rattle.cdk_premises.proofs.Lists.{each_append, is_picked, map_nil, only_one, placed_at}

-- ---- what the findings say

both_nil : {A : Type 0} (xs ys : List A) → xs ++ ys ≡ [] → (xs ≡ []) × (ys ≡ [])
both_nil [] ys e = (refl, e)
both_nil (x ∷ xs) ys e = cc

last_when : (a b c : Bool) → when a BadId ++ (when b SameId ++ when c BadPlace) ≡ [] → c ≡ false
last_when true b c e = cc
last_when false true c e = cc
last_when false false true e = cc
last_when false false false e = refl

some_when : (o : Option ℕ) → is_none o ≡ false → is_some o ≡ true
some_when None h = absurd (true≢false h)
some_when (Some n) h = refl

-- an element that is well placed stands in a stack
inside_one : (o : Option ℕ) (level : ℕ) (b : Body) → is_element b ≡ true → is_misplaced o level b ≡ false → is_some o ≡ true
inside_one o level b is h =
    let second = (or_parts ((is_stack b || is_stage b) && is_some o) ((is_element b && is_none o) || nat_le 11 level) h).1 in
    let own = (or_parts (is_element b && is_none o) (nat_le 11 level) second).0 in
    some_when o (ap (λ t. t && is_none o) (sym is) ∙ own)

element_no_stack : (b : Body) → is_element b ≡ true → is_stack b ≡ false
element_no_stack (language.stack d) h = absurd (true≢false (sym h))
element_no_stack (language.resource r) h = refl
element_no_stack (language.parameter p) h = refl
element_no_stack (language.condition_body c) h = refl
element_no_stack (language.mapping m) h = refl
element_no_stack (language.output o) h = refl
element_no_stack language.root h = refl
element_no_stack language.stage h = refl
element_no_stack language.group h = refl
element_no_stack (language.lazy e) h = refl

-- ---- the walk

module _ (cs : List Placed) where
  abbrev IsStackOf : Option ℕ → Type 0
  IsStackOf None = ⊤
  IsStackOf (Some k) = is_stack (construct_at cs k).body ≡ true

  -- its stack is a stack of the tree, and an element has one
  record StandsWell (c : Placed) : Type 0 where
    stack : IsStackOf c.stack
    inside : is_element c.body ≡ true → is_some c.stack ≡ true

  -- the construct m is p, and its stack is a stack of the tree
  record IsScope (before : List Placed) (m : ℕ) (p : Placed) : Type 0 where
    there : m < length before
    is : construct_at before m ≡ p
    stack : IsStackOf p.stack

  -- what is left of the tree, and nothing is wrong with it
  record IsRest (before rest : List Placed) : Type 0 where
    whole : cs ≡ before ++ rest
    clean : findings_from before rest ≡ []

  after_some : (before xs ys : List Placed) → IsRest before (xs ++ ys) → IsRest (before ++ xs) ys
  after_some before xs ys r = record {
    whole = r.whole ∙ sym (append_assoc before xs ys);
    clean = (both_nil (findings_from before xs) (findings_from (before ++ xs) ys) (sym (findings_from-append before xs ys) ∙ r.clean)).1;
  }

  regrouped : (before xs ys zs : List Placed) → IsRest before ((xs ++ ys) ++ zs) → IsRest before (xs ++ (ys ++ zs))
  regrouped before xs ys zs r = subst (IsRest before) (append_assoc xs ys zs) r

  still_scope : (before xs : List Placed) (m : ℕ) (p : Placed) → IsScope before m p → IsScope (before ++ xs) m p
  still_scope before xs m p s = record { there = omega (arith, length-append before xs, s.there); is = get_or_append_left before xs nowhere m s.there ∙ s.is; stack = s.stack }

  -- the next construct
  module _ (before : List Placed) (n m : ℕ) (p : Placed) (h : Head) (b : Body) (more : List Placed) (at : length before ≡ n) (scope : IsScope before m p) (r : IsRest before (placed_in n m p h b ∷ more)) where
    abbrev c : Placed
    c = placed_in n m p h b

    is_there : construct_at cs n ≡ c
    is_there = ap (λ l. construct_at l n) r.whole ∙ ap (construct_at (before ++ c ∷ more)) (sym at) ∙ get_or-append_seam before c more nowhere

    own_stack : (t : Bool) → is_stack b ≡ t → IsStackOf (cond t (Some n) p.stack)
    own_stack true e = ap (λ (q : Placed). is_stack q.body) is_there ∙ e
    own_stack false e = scope.stack

    well_placed : is_misplaced p.stack c.level b ≡ false
    well_placed =
        let none = (map_nil (found_at c.path) (wrong_at before c (Some m)) (findings_from (before ++ c ∷ []) more) r.clean).0 in
        ap (λ (q : Placed). is_misplaced q.stack c.level b) (sym scope.is) ∙ last_when (not (is_id h.id)) (has_taken_id before c) (is_misplaced (construct_at before m).stack c.level b) none

    here : StandsWell c
    here = record {
      stack = own_stack (is_stack b) refl;
      inside = λ is. ap (λ t. is_some (cond t (Some n) p.stack)) (element_no_stack b is) ∙ inside_one p.stack c.level b is well_placed;
    }

    next_rest : IsRest (before ++ c ∷ []) more
    next_rest = after_some before (c ∷ []) more r

    next_at : length (before ++ c ∷ []) ≡ n + 1
    next_at = omega (arith, length-append before (c ∷ []), at)

    next_scope : IsScope (before ++ c ∷ []) n c
    next_scope = record { there = omega (arith, next_at); is = ap (construct_at (before ++ c ∷ [])) (sym at) ∙ get_or-append_seam before c [] nowhere; stack = here.stack }

  mutual
    walk_stands : (n m : ℕ) (p : Placed) (x : Construct) (before after : List Placed) → length before ≡ n → IsScope before m p → IsRest before (walk n m p x ++ after) → Each StandsWell (walk n m p x)
    walk_stands n m p (language.construct h b xs) before after at scope r =
        let c = placed_in n m p h b in
        let more = walk_children (n + 1) n c xs ++ after in (
          here before n m p h b more at scope r,
          children_stand (n + 1) n c xs (before ++ c ∷ []) after (next_at before n m p h b more at scope r) (next_scope before n m p h b more at scope r) (next_rest before n m p h b more at scope r),
        )

    children_stand : (n m : ℕ) (p : Placed) (xs : Constructs) (before after : List Placed) → length before ≡ n → IsScope before m p → IsRest before (walk_children n m p xs ++ after) → Each StandsWell (walk_children n m p xs)
    children_stand n m p language.no_constructs before after at scope r = tt
    children_stand n m p (language.child x xs) before after at scope r =
        let first = walk n m p x in
        let later = n + length first in
        let rest = walk_children later m p xs in
        let split = regrouped before first rest after r in
        each_append StandsWell first rest (walk_stands n m p x before (rest ++ after) at scope split)
        (children_stand later m p xs (before ++ first) after (omega (arith, length-append before first, at)) (still_scope before first m p scope) (after_some before first (rest ++ after) split))

  -- the whole tree
  root_stands : (h : Head) (xs : Constructs) → cs ≡ constructs_of (language.construct h language.root xs) → place_findings cs ≡ [] → Each StandsWell (constructs_of (language.construct h language.root xs))
  root_stands h xs walked clean =
      let r = root_placed h language.root in
      let rest = walk_children 1 0 r xs in
      let whole : IsRest [] (r ∷ rest) = record { whole = walked; clean = ap (findings_from []) (sym walked) ∙ clean } in
      let scope : IsScope (r ∷ []) 0 r = record { there = omega arith; is = refl; stack = tt } in
      let below : IsRest (r ∷ []) (rest ++ []) = subst (IsRest (r ∷ [])) (sym (append_nil rest)) (after_some [] (r ∷ []) rest whole) in
      (record { stack = tt; inside = λ is. absurd (true≢false (sym is)) }, children_stand 1 0 r xs (r ∷ []) [] refl scope below)
    where
      append_nil : {A : Type 0} (ys : List A) → ys ++ [] ≡ ys
      append_nil [] = refl
      append_nil (y ∷ ys) = ap (λ zs. y ∷ zs) (append_nil ys)

  application_stands : (a : Application) → IsRooted a → cs ≡ constructs_of a → place_findings cs ≡ [] → Each StandsWell (constructs_of a)
  application_stands (language.construct h b xs) rooted walked clean =
      subst (λ c. Each StandsWell (constructs_of (language.construct h c xs))) (sym rooted)
      (root_stands h xs (walked ∙ ap (λ c. constructs_of (language.construct h c xs)) rooted) clean)

  each_stands : (a : Application) → IsRooted a → cs ≡ constructs_of a → place_findings cs ≡ [] → Each StandsWell cs
  each_stands a rooted walked clean = subst (Each StandsWell) (sym walked) (application_stands a rooted walked clean)

-- ---- the one stack

stack_within : (cs : List Placed) (k : ℕ) → is_stack (construct_at cs k).body ≡ true → k < length cs
stack_within cs k is = elim (cases_lt k (length cs)) [
  | inl within ↦ within
  | inr past ↦ absurd (true≢false (sym (ap (λ (c : Placed). is_stack c.body) (sym (get_or_past cs k nowhere past)) ∙ is)))
]

module _ (cs : List Placed) (stack : ℕ) (tree : IsOneTree cs stack) where
  the_stack : (o : Option ℕ) → IsStackOf cs o → is_some o ≡ true → o ≡ Some stack
  the_stack None is some = absurd (true≢false (sym some))
  the_stack (Some k) is some =
      let among : IsIn k (stacks_of cs) = is_picked (λ n. is_stack (construct_at cs n).body) k (length cs) (stack_within cs k is) is in
      ap Some (only_one k stack (stacks_of cs) tree.one.few among tree.there)

  pub stands_in_it : (n : ℕ) → n < length cs → is_element (construct_at cs n).body ≡ true → (construct_at cs n).stack ≡ Some stack
  stands_in_it n within is =
      let here = placed_at (StandsWell cs) cs n within (each_stands cs tree.application tree.rooted tree.walked tree.placed) in
      the_stack (construct_at cs n).stack here.stack (here.inside is)

pub elements_stand_in_the_stack : ElementsStandInTheStack
elements_stand_in_the_stack cs stack tree n within is = let at = stands_in_it cs stack tree n within is in (at, ap (name_around cs) at)
