-- The stacks of an application of one stack: all stand in the root assembly, and no other artifacts do.
use Rattle.std.proofs.Common.{◌≡◌, ℕ, zero, suc, ◌+◌, ◌<◌, List, [], ◌∷◌, ◌++◌, map, length, length-append, get_or, codes, Bool, true, false, cond, Option, Some, None, IsSomeAnd, IfSome, refl, sym, ap, subst, ◌∙◌, arith, inl, inr}
use Rattle.std.specs.Prelude.{◌==◌, ◌&&◌, ◌||◌, if◌then◌else◌, filter, unwrap_or}
use Rattle.std.specs.List.{list_all, range_with_len}
use Rattle.std.proofs.lemmas.List.FromFn.{length-range_with_len, get_or-range_with_len}
use Rattle.cdk_base.specs.declared.code.Code.{Code}
use Rattle.cdk_base.specs.declared.code.Code.TheVariants.{BadName, SameName}
use Rattle.cdk_elements.specs.Kinds.{stacks_of}
use Rattle.cdk_elements.specs.OneStack.{AreOneStack, has_none, is_alone, is_alone_body}
use Rattle.cdk_language.specs.Construct as language
use Rattle.cdk_language.specs.Construct.{Body}
use Rattle.cdk_meaning.specs.Names.{Each, IsIn}
use Rattle.cdk_names.specs.Forms.{is_stack_name, is_stack_name_byte}
use Rattle.cdk_names.specs.Laws.{IsAlphanumericName}
use Rattle.cdk_names.specs.Names.{unique_id}
use Rattle.cdk_names.proofs.Alphanumerics.{and_both, both_and, unique_id_lem}
use Rattle.cdk_tree.specs.Placed.{Placed, construct_at, is_stack, is_stage, nowhere}
use Rattle.cdk_tree.specs.PlaceFindings.{when}
use Rattle.cdk_tree.specs.declared.role.Found.{Found}
use Rattle.cdk_stacks.specs.Claims.{found_at, has_taken_name, name_findings, name_findings_of, wrong_names}
use Rattle.cdk_stacks.specs.Names as names
use Rattle.cdk_stacks.specs.Names.{artifact_id, assembly_of, ids_below, is_artifact_id, is_element_misnamed, is_misnamed, is_some_and, is_stack_misnamed, is_stage_misnamed, scope_of, stack_artifact, staged_name, staged_within}
use Rattle.cdk_stacks.proofs.NameLaws.{stacks_have_names}
use Rattle.cdk_stacks.proofs.Tests.{not_refused, or_left, or_right}
use Rattle.cdk_manifest.specs.Manifest.{artifacts_of, is_artifact_of, telling_of, template_file}
use Rattle.cdk_manifest.proofs.FileNames.{letter_in_names, letters_in_names}

-- ---- lists

each_at : (P : Placed → Type 0) (cs : List Placed) (n : ℕ) → P nowhere → Each P cs → P (construct_at cs n)
each_at P [] n none h = none
each_at P (c ∷ cs) zero none h = h.0
each_at P (c ∷ cs) (suc n) none h = each_at P cs n none h.1

all_at : (p : Placed → Bool) (cs : List Placed) (n : ℕ) → p nowhere ≡ true → list_all p cs ≡ true → p (construct_at cs n) ≡ true
all_at p [] n none h = none
all_at p (c ∷ cs) zero none h = (and_both (p c) (list_all p cs) h).0
all_at p (c ∷ cs) (suc n) none h = all_at p cs n none (and_both (p c) (list_all p cs) h).1

same_tests : (p q : ℕ → Bool) → ((n : ℕ) → p n ≡ q n) → (ns : List ℕ) → filter p ns ≡ filter q ns
same_tests p q h [] = refl
same_tests p q h (n ∷ ns) = ap (λ b. cond b (n ∷ filter p ns) (filter p ns)) (h n) ∙ ap (λ ms. cond (q n) (n ∷ ms) ms) (same_tests p q h ns)

in_filter : (p : ℕ → Bool) (n : ℕ) (ns : List ℕ) → IsIn n (filter p ns) → IsIn n ns × (p n ≡ true)
in_filter p n [] h = absurd h
in_filter p n (m ∷ ns) h = at (p m) refl (λ i. let found = in_filter p n ns i in (inr found.0, found.1)) h
  where
    at : (b : Bool) → p m ≡ b → (IsIn n (filter p ns) → IsIn n (m ∷ ns) × (p n ≡ true)) → IsIn n (cond b (m ∷ filter p ns) (filter p ns)) → IsIn n (m ∷ ns) × (p n ≡ true)
    at true is more (inl e) = (inl e, ap p (sym e) ∙ is)
    at true is more (inr i) = more i
    at false is more i = more i

in_range : (n a k : ℕ) → IsIn n (range_with_len a k) → n < a + k
in_range n a zero h = absurd h
in_range n a (suc k) (inl e) = omega (arith, e)
in_range n a (suc k) (inr i) = let later = in_range n (a + 1) k i in omega (arith, later)

-- ---- the artifacts of the root assembly

not_stage : (b : Body) → is_alone_body b ≡ true → is_stage b ≡ false
not_stage language.root h = refl
not_stage language.stage h = cc
not_stage (language.stack d) h = refl
not_stage language.group h = refl
not_stage (language.resource r) h = refl
not_stage (language.parameter p) h = refl
not_stage (language.condition_body c) h = refl
not_stage (language.mapping m) h = refl
not_stage (language.output o) h = refl
not_stage (language.lazy e) h = refl

no_stage_at : (cs : List Placed) → AreOneStack cs → (n : ℕ) → is_stage (construct_at cs n).body ≡ false
no_stage_at cs w n =
    let c = construct_at cs n in
    not_stage c.body (and_both (has_none c.head.depends && has_none c.head.aspects) (is_alone_body c.body) (all_at is_alone cs n refl w.alone)).1

pub at_root : (cs : List Placed) → AreOneStack cs → (n : ℕ) → assembly_of cs n ≡ 0
at_root cs w n = each_at (λ c. c.stage ≡ 0) cs (scope_of cs n) refl w.staged

stack_alone : (a b : Bool) (m : ℕ) → b ≡ false → m ≡ 0 → ((a || b) && m == 0) ≡ a
stack_alone true b m e f = ap (λ k. k == 0) f
stack_alone false b m e f = ap (λ c. c && m == 0) e

-- they are the stacks
pub artifacts_are_stacks : (cs : List Placed) → AreOneStack cs → artifacts_of cs 0 ≡ stacks_of cs
artifacts_are_stacks cs w =
    same_tests (is_artifact_of cs 0) (λ n. is_stack (construct_at cs n).body) (λ n. stack_alone (is_stack (construct_at cs n).body) (is_stage (construct_at cs n).body) (assembly_of cs n) (no_stage_at cs w n) (at_root cs w n))
    (range_with_len 0 (length cs))

pub stack_at : (cs : List Placed) (n : ℕ) → IsIn n (stacks_of cs) → (n < length cs) × (is_stack (construct_at cs n).body ≡ true)
stack_at cs n h =
    let found = in_filter (λ k. is_stack (construct_at cs k).body) n (range_with_len 0 (length cs)) h in
    let within = in_range n 0 (length cs) found.0 in
    (omega (arith, within), found.1)

-- ---- none is misnamed

no_codes : (n : ℕ) (codes : List Code) (rest : List Found) → map (found_at n) codes ++ rest ≡ [] → (codes ≡ []) × (rest ≡ [])
no_codes n [] rest h = (refl, h)
no_codes n (c ∷ codes) rest h = cc

clean_among : (cs : List Placed) (ns : List ℕ) (i : ℕ) → name_findings_of cs ns ≡ [] → i < length ns → wrong_names cs (get_or ns i 0) ≡ []
clean_among cs [] i h within = absurd (omega arith)
clean_among cs (n ∷ ns) zero h within = (no_codes n (wrong_names cs n) (name_findings_of cs ns) h).0
clean_among cs (n ∷ ns) (suc i) h within = clean_among cs ns i (no_codes n (wrong_names cs n) (name_findings_of cs ns) h).1 (omega arith)

not_first : (a b : Bool) → when a BadName ++ when b SameName ≡ [] → a ≡ false
not_first true b h = cc
not_first false b h = refl

well_named : (cs : List Placed) (n : ℕ) → name_findings cs ≡ [] → n < length cs → is_misnamed cs n ≡ false
well_named cs n h within =
    let ns = range_with_len 0 (length cs) in
    let inside : n < length ns = omega (arith, length-range_with_len 0 (length cs)) in
    let plus : 0 + n ≡ n = omega arith in
    let own : wrong_names cs n ≡ [] = ap (wrong_names cs) (sym (get_or-range_with_len 0 (length cs) n 0 within ∙ plus)) ∙ clean_among cs ns n h inside in
    not_first (is_misnamed cs n) (has_taken_name cs n) own

-- an artifact id that is there
given : (o : Option (List ℕ)) → is_some_and is_artifact_id o ≡ true → (o ≡ Some (unwrap_or o [])) × (0 < length (unwrap_or o []))
given None h = cc
given (Some []) h = cc
given (Some (c ∷ s)) h = (refl, omega arith)

pub artifact_given : (cs : List Placed) (n : ℕ) → name_findings cs ≡ [] → IsIn n (stacks_of cs) → (artifact_id cs n ≡ Some ((telling_of cs).artifact n)) × (0 < length ((telling_of cs).artifact n))
artifact_given cs n h i =
    let here = stack_at cs n i in
    let others = or_right (is_element_misnamed cs n) (is_stack_misnamed cs n || is_stage_misnamed cs n) (well_named cs n h here.0) in
    let right = or_left (is_stack_misnamed cs n) (is_stage_misnamed cs n) others in
    let a = is_some_and is_stack_name (names.stack_name cs n) in
    let b = is_some_and is_artifact_id (artifact_id cs n) in
    given (artifact_id cs n) (and_both a b (not_refused (is_stack (construct_at cs n).body) (a && b) here.1 right)).1

-- the name of a template's file has more than its ending
pub template_file_long : (cs : List Placed) (n : ℕ) → name_findings cs ≡ [] → IsIn n (stacks_of cs) → 14 < length (template_file ((telling_of cs).artifact n))
template_file_long cs n h i =
    let id = (telling_of cs).artifact n in
    let ending : length (codes ".template.json") ≡ 14 = refl in
    omega (arith, (artifact_given cs n h i).1, length-append id (codes ".template.json"), ending)

-- ---- the bytes of an artifact id

staged_root : (most : ℕ) (cs : List Placed) (n : ℕ) → assembly_of cs n ≡ 0 → staged_within most cs n ≡ (construct_at cs n).head.id
staged_root zero cs n e = refl
staged_root (suc most) cs n e =
    let id = (construct_at cs n).head.id in
    ap (λ m. if m == 0 then id else (staged_within most cs (assembly_of cs n) ++ 45 ∷ id)) e

stack_name_bytes : (s : List ℕ) → is_stack_name s ≡ true → list_all is_stack_name_byte s ≡ true
stack_name_bytes [] h = cc
stack_name_bytes (c ∷ s) h =
    let letter = and_both _ _ h in
    both_and _ _ (letter_in_names c letter.0) (and_both _ _ letter.1).0

some_name : (o : Option (List ℕ)) (s : List ℕ) → o ≡ Some s → IsSomeAnd o (λ name. is_stack_name name ≡ true) → is_stack_name s ≡ true
some_name o s e h = subst (λ p. IsSomeAnd p (λ name. is_stack_name name ≡ true)) e h

-- the id of a stack is its name
own_id : (cs : List Placed) (n : ℕ) → AreOneStack cs → name_findings cs ≡ [] → n < length cs → is_stack (construct_at cs n).body ≡ true → list_all is_stack_name_byte (construct_at cs n).head.id ≡ true
own_id cs n w h within stack =
    let named : names.stack_name cs n ≡ Some (construct_at cs n).head.id = ap (λ b. if b then Some (staged_name cs n) else None) stack ∙ ap Some (staged_root n cs n (at_root cs w n)) in
    stack_name_bytes (construct_at cs n).head.id (some_name (names.stack_name cs n) (construct_at cs n).head.id named (stacks_have_names cs n h within stack))

made_bytes : (o : Option (List ℕ)) (id : List ℕ) → IfSome o IsAlphanumericName → o ≡ Some id → list_all is_stack_name_byte id ≡ true
made_bytes o id h e = letters_in_names id (subst (λ p. IfSome p IsAlphanumericName) e h).alphanumeric

own_or_made : (direct : Bool) (own : List ℕ) (made : Option (List ℕ)) (id : List ℕ) → list_all is_stack_name_byte own ≡ true → IfSome made IsAlphanumericName
    → (if direct then Some own else made) ≡ Some id → list_all is_stack_name_byte id ≡ true
own_or_made true own made id h g e = let same : own ≡ id = cc in subst (λ s. list_all is_stack_name_byte s ≡ true) same h
own_or_made false own made id h g e = made_bytes made id g e

pub artifact_bytes : (cs : List Placed) (n : ℕ) → AreOneStack cs → name_findings cs ≡ [] → IsIn n (stacks_of cs) → list_all is_stack_name_byte ((telling_of cs).artifact n) ≡ true
artifact_bytes cs n w h i =
    let here = stack_at cs n i in
    let id = (telling_of cs).artifact n in
    let of_stack : stack_artifact cs n ≡ artifact_id cs n = sym (ap (λ b. if b then stack_artifact cs n else (if is_stage (construct_at cs n).body then Some (codes "assembly-" ++ staged_name cs n) else None)) here.1) in
    own_or_made _ (construct_at cs n).head.id (unique_id (ids_below cs 0 n)) id (own_id cs n w h here.0 here.1) (unique_id_lem (ids_below cs 0 n)) (of_stack ∙ (artifact_given cs n h i).0)
