-- In which templates a marker is left.
use Rattle.std.proofs.Common.{◌≡◌, ◌<◌, ◌≤◌, ℕ, zero, suc, ◌+◌, List, [], ◌∷◌, ◌++◌, map, length, Bool, true, false, cond, refl, sym, ap, ◌∙◌, subst, arith, true≢false, ⊎_elim}
use Rattle.std.specs.Prelude.{filter}
use Rattle.std.specs.List.{range_with_len}
use Rattle.std.proofs.lemmas.Bool.{cases_lt}
use Rattle.cdk_base.specs.declared.code.Code.TheVariants.{MarkerLeft}
use Rattle.cdk_elements.specs.Kinds.{stacks_of}
use Rattle.cdk_template.specs.Counts.{count_at}
use Rattle.cdk_template.specs.Markers.{has_marker_left, marker_findings, marker_findings_of}
use Rattle.cdk_tree.specs.PlaceFindings.{when}
use Rattle.cdk_tree.specs.Placed.{Placed, construct_at, is_stack}
use Rattle.cdk_tree.specs.declared.role.Found.{Found}

-- a stack is a construct
pub stack_within : (cs : List Placed) (n : ℕ) → is_stack (construct_at cs n).body ≡ true → n < length cs
stack_within [] zero h = absurd (true≢false (sym h))
stack_within [] (suc n) h = absurd (true≢false (sym h))
stack_within (c ∷ cs) zero h = omega arith
stack_within (c ∷ cs) (suc n) h = let below = stack_within cs n h in omega arith

nothing_left : (n : ℕ) (b : Bool) (rest : List Found) → map (count_at n) (when b MarkerLeft) ++ rest ≡ [] → (b ≡ false) × (rest ≡ [])
nothing_left n true rest h = cc
nothing_left n false rest h = (refl, h)

-- of the stacks among the numbers from a on
abbrev found_from : List Placed → ℕ → ℕ → List Found
found_from cs a n = marker_findings_of cs (filter (λ k. is_stack (construct_at cs k).body) (range_with_len a n))

later : (cs : List Placed) (a n : ℕ) → found_from cs a (suc n) ≡ [] → found_from cs (a + 1) n ≡ []
later cs a n h = at (is_stack (construct_at cs a).body) h
  where
    rest : List ℕ
    rest = filter (λ k. is_stack (construct_at cs k).body) (range_with_len (a + 1) n)

    at : (t : Bool) → marker_findings_of cs (cond t (a ∷ rest) rest) ≡ [] → marker_findings_of cs rest ≡ []
    at true e = (nothing_left a (has_marker_left cs a) (marker_findings_of cs rest) e).1
    at false e = e

own : (cs : List Placed) (a n : ℕ) → is_stack (construct_at cs a).body ≡ true → found_from cs a (suc n) ≡ [] → has_marker_left cs a ≡ false
own cs a n stack h =
    let rest = filter (λ k. is_stack (construct_at cs k).body) (range_with_len (a + 1) n) in
    let found : marker_findings_of cs (a ∷ rest) ≡ [] = subst (λ t. marker_findings_of cs (cond t (a ∷ rest) rest) ≡ []) stack h in
    (nothing_left a (has_marker_left cs a) (marker_findings_of cs rest) found).0

-- the number a, or one after it
step : (cs : List Placed) (stack a n : ℕ) → a ≤ stack → is_stack (construct_at cs stack).body ≡ true → found_from cs a (suc n) ≡ [] → (a < stack → found_from cs (a + 1) n ≡ [] → has_marker_left cs stack ≡ false) → has_marker_left cs stack ≡ false
step cs stack a n from is h rest = ⊎_elim further here (cases_lt a stack)
  where
    further : a < stack → has_marker_left cs stack ≡ false
    further lt = rest lt (later cs a n h)

    here : stack ≤ a → has_marker_left cs stack ≡ false
    here le =
        let same : a ≡ stack = omega arith in
        let its : is_stack (construct_at cs a).body ≡ true = subst (λ k. is_stack (construct_at cs k).body ≡ true) (sym same) is in
        subst (λ k. has_marker_left cs k ≡ false) same (own cs a n its h)

unmarked_from : (cs : List Placed) (stack a n : ℕ) → a ≤ stack → stack < a + n → is_stack (construct_at cs stack).body ≡ true → found_from cs a n ≡ [] → has_marker_left cs stack ≡ false
unmarked_from cs stack a zero from within is h = absurd (omega arith)
unmarked_from cs stack a (suc n) from within is h =
    step cs stack a n from is h (λ lt rest. unmarked_from cs stack (a + 1) n (omega arith) (omega arith) is rest)

pub unmarked : (cs : List Placed) (stack : ℕ) → marker_findings cs ≡ [] → is_stack (construct_at cs stack).body ≡ true → has_marker_left cs stack ≡ false
unmarked cs stack h is =
    let within = stack_within cs stack is in
    unmarked_from cs stack 0 (length cs) (omega arith) (omega arith) is h

-- where there is one stack
pub left_in_one : (cs : List Placed) (stack : ℕ) → stacks_of cs ≡ stack ∷ [] → has_marker_left cs stack ≡ true → marker_findings cs ≡ count_at stack MarkerLeft ∷ []
left_in_one cs stack one left = ap (marker_findings_of cs) one ∙ ap (λ t. map (count_at stack) (when t MarkerLeft) ++ []) left

pub none_in_one : (cs : List Placed) (stack : ℕ) → stacks_of cs ≡ stack ∷ [] → has_marker_left cs stack ≡ false → marker_findings cs ≡ []
none_in_one cs stack one none = ap (marker_findings_of cs) one ∙ ap (λ t. map (count_at stack) (when t MarkerLeft) ++ []) none
