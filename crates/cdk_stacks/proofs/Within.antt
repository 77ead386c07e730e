-- One step of the ids of a path, and of a name in stages; the names of all constructs.
use Rattle.std.proofs.Common.{◌≡◌, ℕ, zero, suc, ◌<◌, ◌≤◌, List, [], ◌∷◌, ◌++◌, map, length, get_or, Bool, true, false, cond, Some, None, codes, sym, ap, ◌∙◌, arith, append_assoc, ⊎_elim}
use Rattle.std.specs.Prelude.{◌||◌, ◌==◌, unwrap_or, slice_get}
use Rattle.std.specs.List.{range_with_len}
use Rattle.std.proofs.lemmas.Bool.{cases_lt}
use Rattle.std.proofs.lemmas.Bool.Decides.{nat_tests}
use Rattle.std.proofs.lemmas.List.FromFn.{length-map-range_with_len, get_or-map-range_with_len}
use Rattle.std.proofs.lemmas.Option.{unwrap_or-slice_get, slice_get_past}
use Rattle.cdk_language.specs.Construct.{Body}
use Rattle.cdk_tree.specs.Placed.{Placed, construct_at, is_stack, is_stage, nowhere}
use Rattle.cdk_tree.specs.PlaceFindings.{is_element}
use Rattle.cdk_stacks.specs.Made.{names_of, nameless}
use Rattle.cdk_stacks.specs.Names.{assembly_of, ids_within, logical_in, scope_of, stack_artifact, staged_name, staged_within}
use Rattle.cdk_stacks.specs.declared.named.Named.{Named}

-- those of the outer scope, and its own
pub ids_more : (most : ℕ) (cs : List Placed) (scope n m : ℕ) → (n == scope || n == 0) ≡ false → scope_of cs n ≡ m → m < n → n ≤ most
    → (old mid new : List (List ℕ)) → ((k : ℕ) → m ≤ k → mid ≡ old ++ ids_within k cs scope m) → new ≡ mid ++ (construct_at cs n).head.id ∷ []
    → new ≡ old ++ ids_within most cs scope n
ids_more zero cs scope n m h e below fits old mid new outer last = absurd (omega arith)
ids_more (suc most) cs scope n m h e below fits old mid new outer last =
    let id = (construct_at cs n).head.id in
    let fit : m ≤ most = omega arith in
    let here : ids_within (suc most) cs scope n ≡ ids_within most cs scope m ++ id ∷ [] =
    ap (λ b. cond b [] (ids_within most cs scope (scope_of cs n) ++ id ∷ [])) h ∙ ap (λ k. ids_within most cs scope k ++ id ∷ []) e in
    last ∙ ap (λ l. l ++ id ∷ []) (outer most fit) ∙ append_assoc old (ids_within most cs scope m) (id ∷ []) ∙ sym (ap (λ l. old ++ l) here)

-- the name of the stage around it, and its own id
pub staged_more : (most : ℕ) (cs : List Placed) (n m : ℕ) → assembly_of cs n ≡ m → (m == 0) ≡ false → m < n → n ≤ most
    → (old mid new : List ℕ) → ((k : ℕ) → m ≤ k → mid ≡ old ++ staged_within k cs m) → new ≡ (mid ++ 45 ∷ []) ++ (construct_at cs n).head.id
    → new ≡ old ++ staged_within most cs n
staged_more zero cs n m e inside below fits old mid new outer last = absurd (omega arith)
staged_more (suc most) cs n m e inside below fits old mid new outer last =
    let id = (construct_at cs n).head.id in
    let fit : m ≤ most = omega arith in
    let here : staged_within (suc most) cs n ≡ staged_within most cs m ++ 45 ∷ id =
    ap (λ k. cond (k == 0) id (staged_within most cs k ++ 45 ∷ id)) e ∙ ap (λ b. cond b id (staged_within most cs m ++ 45 ∷ id)) inside in
    last ∙ append_assoc mid (45 ∷ []) id ∙ ap (λ l. l ++ 45 ∷ id) (outer most fit) ∙ append_assoc old (staged_within most cs m) (45 ∷ id) ∙ sym (ap (λ l. old ++ l) here)

-- ---- numbers

pub apart : (n scope m : ℕ) → (n ≡ scope → ⊥) → m < n → (n == scope || n == 0) ≡ false
apart n scope m h below = grind (arith, nat_tests)

pub not_zero : (n : ℕ) → 0 < n → (n == 0) ≡ false
not_zero n h = grind (arith, nat_tests)

-- the construct of a number
pub id_is : (b : Bool) (n at : ℕ) → Some at ≡ cond b (Some n) None → at ≡ n
id_is true n at h = cc
id_is false n at h = cc

-- ---- names by number

nameless_nowhere : (cs : List Placed) (n : ℕ) → construct_at cs n ≡ nowhere → names_of cs n ≡ nameless
nameless_nowhere cs n h =
    let named : Body → Named = λ b. record {
      logical = cond (is_element b) (logical_in cs n (construct_at cs n).stack) None;
      stack = cond (is_stack b) (Some (staged_name cs n)) None;
      stage = cond (is_stage b) (Some (staged_name cs n)) None;
      artifact = cond (is_stack b) (stack_artifact cs n) (cond (is_stage b) (Some (codes "assembly-" ++ staged_name cs n)) None);
    } in
    ap named (ap (λ p. p.body) h)

past : {X : Type 0} (xs : List X) (n : ℕ) (d : X) → length xs ≤ n → get_or xs n d ≡ d
past xs n d h = sym (unwrap_or-slice_get xs n d) ∙ ap (λ o. unwrap_or o d) (slice_get_past xs n h)

-- of a construct, and of none
pub names_all : (cs : List Placed) (each : List Named) (end : ℕ) → each ≡ map (names_of cs) (range_with_len 0 end) → end ≡ length cs
    → (n : ℕ) → unwrap_or (slice_get each n) nameless ≡ names_of cs n
names_all cs each end h e n = unwrap_or-slice_get each n nameless ∙ ap (λ l. get_or l n nameless) h ∙ ⊎_elim inside outside (cases_lt n end)
  where
    inside : n < end → get_or (map (names_of cs) (range_with_len 0 end)) n nameless ≡ names_of cs n
    inside lt = get_or-map-range_with_len (names_of cs) 0 end n n nameless lt (omega arith)

    outside : end ≤ n → get_or (map (names_of cs) (range_with_len 0 end)) n nameless ≡ names_of cs n
    outside le =
        let long : length (map (names_of cs) (range_with_len 0 end)) ≤ n = omega (arith, length-map-range_with_len (names_of cs) 0 end) in
        let over : length cs ≤ n = omega arith in
        past (map (names_of cs) (range_with_len 0 end)) n nameless long ∙ sym (nameless_nowhere cs n (past cs n nowhere over))
