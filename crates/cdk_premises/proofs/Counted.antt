-- How many stacks stand in the walk over an application.
use Rattle.std.proofs.Common.{◌≡◌, ◌<◌, ℕ, zero, suc, ◌+◌, List, [], ◌∷◌, ◌++◌, length, filter, Bool, true, false, cond, refl, sym, ap, ◌∙◌, arith, add-zero}
use Rattle.std.specs.List.{range_with_len}
use Rattle.cdk_carried.specs.Carried.{body_stacks, stacks, stacks_among}
use Rattle.cdk_elements.specs.Kinds.{stacks_of}
use Rattle.cdk_language.specs.Construct as language
use Rattle.cdk_language.specs.Construct.{Application, Body, Construct, Constructs}
use Rattle.cdk_tree.specs.Placed.{Placed, construct_at, constructs_of, is_stack, placed_in, root_placed, walk, walk_children}

abbrev stack_count : List Placed → ℕ
stack_count [] = 0
stack_count (c ∷ cs) = body_stacks c.body + stack_count cs

body_counts : (b : Body) → cond (is_stack b) 1 0 ≡ body_stacks b
body_counts language.root = refl
body_counts language.stage = refl
body_counts (language.stack d) = refl
body_counts language.group = refl
body_counts (language.resource r) = refl
body_counts (language.parameter p) = refl
body_counts (language.condition_body c) = refl
body_counts (language.mapping m) = refl
body_counts (language.output o) = refl
body_counts (language.lazy e) = refl

-- ---- the numbers of stacks

length-cond : (t : Bool) (n : ℕ) (ns : List ℕ) → length (cond t (n ∷ ns) ns) ≡ cond t 1 0 + length ns
length-cond true n ns = omega arith
length-cond false n ns = omega arith

count_from : (test : ℕ → Bool) (a : ℕ) (cs : List Placed) → ((k : ℕ) → k < length cs → test (a + k) ≡ is_stack (construct_at cs k).body) → length (filter test (range_with_len a (length cs))) ≡ stack_count cs
count_from test a [] h = refl
count_from test a (c ∷ cs) h =
    let later = filter test (range_with_len (a + 1) (length cs)) in
    let here : test a ≡ is_stack c.body = ap test (sym (add-zero a)) ∙ h zero (omega arith) in
    let rest : length later ≡ stack_count cs = count_from test (a + 1) cs (λ k lt. let same : a + 1 + k ≡ a + suc k = omega arith in ap test same ∙ h (suc k) (omega arith)) in
    length-cond (test a) a later ∙ ap (λ t. cond t 1 0 + length later) here ∙ ap (λ k. k + length later) (body_counts c.body) ∙ ap (λ k. body_stacks c.body + k) rest

stacks_counted : (cs : List Placed) → length (stacks_of cs) ≡ stack_count cs
stacks_counted cs = count_from (λ n. is_stack (construct_at cs n).body) 0 cs (λ k lt. let same : 0 + k ≡ k = omega arith in ap (λ n. is_stack (construct_at cs n).body) same)

-- ---- the stacks of the walk

stack_count-append : (cs ds : List Placed) → stack_count (cs ++ ds) ≡ stack_count cs + stack_count ds
stack_count-append [] ds = omega arith
stack_count-append (c ∷ cs) ds = omega (arith, stack_count-append cs ds)

mutual
  walk_counts : (n m : ℕ) (p : Placed) (c : Construct) → stack_count (walk n m p c) ≡ stacks c
  walk_counts n m p (language.construct h b cs) = ap (λ k. body_stacks b + k) (children_count (n + 1) n (placed_in n m p h b) cs)

  children_count : (n m : ℕ) (p : Placed) (cs : Constructs) → stack_count (walk_children n m p cs) ≡ stacks_among cs
  children_count n m p language.no_constructs = refl
  children_count n m p (language.child c cs) =
      let later = n + length (walk n m p c) in
      stack_count-append (walk n m p c) (walk_children later m p cs) ∙ ap (λ k. k + stack_count (walk_children later m p cs)) (walk_counts n m p c) ∙ ap (λ k. stacks c + k) (children_count later m p cs)

pub stacks_walked : (a : Application) → length (stacks_of (constructs_of a)) ≡ stacks a
stacks_walked (language.construct h b cs) =
    stacks_counted (constructs_of (language.construct h b cs)) ∙ ap (λ k. body_stacks b + k) (children_count 1 0 (root_placed h b) cs)
