-- What holds of names where nothing is wrong with them.
use Rattle.std.proofs.Common.{◌≡◌, ℕ, zero, suc, ◌+◌, ◌<◌, List, [], ◌∷◌, ◌++◌, map, length, get_or, Bool, true, false, true≢false, Option, Some, None, IsSomeAnd, refl, sym, ap, ◌∙◌, arith}
use Rattle.std.specs.Prelude.{◌||◌, ◌&&◌, option_map, option_and_then}
use Rattle.std.specs.List.{list_any, range_with_len}
use Rattle.std.proofs.lemmas.List.FromFn.{length-range_with_len, get_or-range_with_len}
use Rattle.cdk_base.specs.declared.code.Code.{Code}
use Rattle.cdk_base.specs.declared.code.Code.TheVariants.{BadName, SameName}
use Rattle.cdk_claims.specs.Claims.{Claim, is_same}
use Rattle.cdk_names.specs.Forms.{is_logical, is_stack_name}
use Rattle.cdk_tree.specs.Placed.{Placed, construct_at, is_stack}
use Rattle.cdk_tree.specs.PlaceFindings.{is_element, when}
use Rattle.cdk_tree.specs.declared.role.Found.{Found}
use Rattle.cdk_stacks.specs.Claims.{artifact_claim, clash, found_at, has_taken_name, logical_claim, name_findings, name_findings_of, stack_claim, tree_claim, wrong_names}
use Rattle.cdk_stacks.specs.Laws.{ArtifactIdsDiffer, ElementsHaveLogicalNames, LogicalNamesDiffer, NoArtifactIsTree, StackNamesDiffer, StacksHaveNames}
use Rattle.cdk_stacks.specs.Names.{artifact_id, assembly_of, is_artifact_id, is_element_misnamed, is_misnamed, is_some_and, is_stack_misnamed, is_stage_misnamed, logical_name, stack_name}
use Rattle.cdk_stacks.proofs.ClaimLemmas.{same_claims}
use Rattle.cdk_stacks.proofs.Tests.{any_at, not_refused, or_left, or_right}

-- ---- nothing is wrong with one

no_codes : (n : ℕ) (codes : List Code) (rest : List Found) → map (found_at n) codes ++ rest ≡ [] → (codes ≡ []) × (rest ≡ [])
no_codes n [] rest h = (refl, h)
no_codes n (c ∷ codes) rest h = cc

clean_among : (cs : List Placed) (ns : List ℕ) (i : ℕ) → name_findings_of cs ns ≡ [] → i < length ns → wrong_names cs (get_or ns i 0) ≡ []
clean_among cs [] i h within = absurd (omega arith)
clean_among cs (n ∷ ns) zero h within = (no_codes n (wrong_names cs n) (name_findings_of cs ns) h).0
clean_among cs (n ∷ ns) (suc i) h within = clean_among cs ns i (no_codes n (wrong_names cs n) (name_findings_of cs ns) h).1 (omega arith)

none_when : (a b : Bool) → when a BadName ++ when b SameName ≡ [] → (a ≡ false) × (b ≡ false)
none_when true b h = cc
none_when false true h = cc
none_when false false h = (refl, refl)

clean_at : (cs : List Placed) (n : ℕ) → name_findings cs ≡ [] → n < length cs → (is_misnamed cs n ≡ false) × (has_taken_name cs n ≡ false)
clean_at cs n h within =
    let ns = range_with_len 0 (length cs) in
    let inside : n < length ns = omega (arith, length-range_with_len 0 (length cs)) in
    let plus : 0 + n ≡ n = omega arith in
    let own : wrong_names cs n ≡ [] = ap (wrong_names cs) (sym (get_or-range_with_len 0 (length cs) n 0 within ∙ plus)) ∙ clean_among cs ns n h inside in
    none_when (is_misnamed cs n) (has_taken_name cs n) own

-- ---- forms

some_and : (test : List ℕ → Bool) (o : Option (List ℕ)) → is_some_and test o ≡ true → IsSomeAnd o (λ name. test name ≡ true)
some_and test None h = cc
some_and test (Some x) h = h

pub elements_have_logical_names : ElementsHaveLogicalNames
elements_have_logical_names cs n h within element =
    let right = or_left (is_element_misnamed cs n) (is_stack_misnamed cs n || is_stage_misnamed cs n) (clean_at cs n h within).0 in
    some_and is_logical (logical_name cs n) (not_refused (is_element (construct_at cs n).body) (is_some_and is_logical (logical_name cs n)) element right)

and_first : (a b : Bool) → (a && b) ≡ true → a ≡ true
and_first true b h = refl
and_first false b h = h

pub stacks_have_names : StacksHaveNames
stacks_have_names cs n h within stack =
    let others = or_right (is_element_misnamed cs n) (is_stack_misnamed cs n || is_stage_misnamed cs n) (clean_at cs n h within).0 in
    let right = or_left (is_stack_misnamed cs n) (is_stage_misnamed cs n) others in
    let a = is_some_and is_stack_name (stack_name cs n) in
    let b = is_some_and is_artifact_id (artifact_id cs n) in
    some_and is_stack_name (stack_name cs n) (and_first a b (not_refused (is_stack (construct_at cs n).body) (a && b) stack right))

-- ---- claims

no_clash : (cs : List Placed) (m n : ℕ) → name_findings cs ≡ [] → m < n → n < length cs → clash cs m n ≡ true → ⊥
no_clash cs m n h before within same =
    let free = or_left (list_any (λ m. clash cs m n) (range_with_len 0 n)) (is_same tree_claim (artifact_claim cs n)) (clean_at cs n h within).1 in
    true≢false (sym (any_at (λ m. clash cs m n) m n before same) ∙ free)

logical_claim_is : (o : Option ℕ) (l : Option (List ℕ)) (s : ℕ) (x : List ℕ) → o ≡ Some s → l ≡ Some x → option_and_then (λ stack. option_map {U = Claim} (λ name. (stack, name)) l) o ≡ Some (s, x)
logical_claim_is o l s x e f = rw (e, f)

claim_is : (k : ℕ) (o : Option (List ℕ)) (s : ℕ) (x : List ℕ) → k ≡ s → o ≡ Some x → option_map {U = Claim} (λ name. (k, name)) o ≡ Some (s, x)
claim_is k o s x e f = rw (e, f)

first_of : (a b : Bool) → a ≡ true → (a || b) ≡ true
first_of a b h = rw h

later_of : (a b : Bool) → b ≡ true → (a || b) ≡ true
later_of true b h = refl
later_of false b h = h

pub logical_names_differ : LogicalNamesDiffer
logical_names_differ cs m n stack name h before within at_m at_n name_m name_n =
    let claim_m : logical_claim cs m ≡ Some (stack, name) = logical_claim_is (construct_at cs m).stack (logical_name cs m) stack name at_m name_m in
    let claim_n : logical_claim cs n ≡ Some (stack, name) = logical_claim_is (construct_at cs n).stack (logical_name cs n) stack name at_n name_n in
    no_clash cs m n h before within (first_of _ _ (same_claims (logical_claim cs m) (logical_claim cs n) stack name claim_m claim_n))

pub stack_names_differ : StackNamesDiffer
stack_names_differ cs m n name h before within name_m name_n =
    let claim_m : stack_claim cs m ≡ Some (0, name) = claim_is 0 (stack_name cs m) 0 name refl name_m in
    let claim_n : stack_claim cs n ≡ Some (0, name) = claim_is 0 (stack_name cs n) 0 name refl name_n in
    no_clash cs m n h before within (later_of _ _ (first_of _ _ (same_claims (stack_claim cs m) (stack_claim cs n) 0 name claim_m claim_n)))

pub artifact_ids_differ : ArtifactIdsDiffer
artifact_ids_differ cs m n id h before within assembly id_m id_n =
    let claim_m : artifact_claim cs m ≡ Some (assembly_of cs n, id) = claim_is (assembly_of cs m) (artifact_id cs m) (assembly_of cs n) id assembly id_m in
    let claim_n : artifact_claim cs n ≡ Some (assembly_of cs n, id) = claim_is (assembly_of cs n) (artifact_id cs n) (assembly_of cs n) id refl id_n in
    no_clash cs m n h before within (later_of _ _ (later_of _ _ (same_claims (artifact_claim cs m) (artifact_claim cs n) (assembly_of cs n) id claim_m claim_n)))

pub no_artifact_is_tree : NoArtifactIsTree
no_artifact_is_tree cs n h within root id =
    let claim : artifact_claim cs n ≡ tree_claim = claim_is (assembly_of cs n) (artifact_id cs n) 0 _ root id in
    let free = or_right (list_any (λ m. clash cs m n) (range_with_len 0 n)) (is_same tree_claim (artifact_claim cs n)) (clean_at cs n h within).1 in
    true≢false (sym (ap (is_same tree_claim) claim) ∙ free)
