-- The conditions of a stack keep their truth.
use Rattle.std.proofs.Common.{arith, ◌≡◌, ℕ, zero, suc, List, [], ◌∷◌, length, map, Bool, true, false, ◌||◌, Some, refl, sym, ap, ◌∙◌, eq-eqb, eqb-true}
use Rattle.std.specs.Prelude.{bytes_eq, if◌then◌else◌, ◌==◌}
use Rattle.std.specs.List.{list_any}
use Rattle.serde_json.specs.Data.{unsigned, number, Members}
use Rattle.serde_json.specs.Find.{get_member}
use Rattle.cdk_eval.specs.declared.fault.EvalFault.TheVariants.{ConditionLoop}
use Rattle.cdk_eval.specs.Outcomes.{Untold}
use Rattle.cdk_eval.specs.Template.{Scope, outcome}
use Rattle.cdk_eval.specs.Conditions.{truth_of, names_of, reaches as json_reaches, is_loop, found_truth, truth_within as json_truth_within}
use Rattle.cdk_plain.specs.Plain.{Condition, IsWellCondition}
use Rattle.cdk_meaning.specs.Mentions.{operand_mentions, names_in}
use Rattle.cdk_meaning.specs.Source.{Source}
use Rattle.cdk_meaning.specs.Truth.{truth_within, reaches}
use Rattle.cdk_meaning.specs.Agreement.{seen_truth}
use Rattle.cdk_plain.specs.Rendered.{Homes, rendered_condition}
use Rattle.cdk_meaning.specs.Kept.{Keeps, PseudosKept}
use Rattle.cdk_meaning.specs.Names.{AreDistinct, IsIn, Each}
use Rattle.cdk_meaning.specs.Sections.{built}
use Rattle.cdk_meaning.specs.ConditionsKept.{IsConditionSection, operand_text, AreStackConditions, ConditionsKeepTruth, TruthIsFixed}
use Rattle.cdk_meaning.proofs.Joins.{bytes_same}
use Rattle.cdk_meaning.proofs.NameLists.{same_bytes, each_at, each_more}
use Rattle.cdk_meaning.proofs.Sections.{found_at}
use Rattle.cdk_meaning.proofs.OneCondition.{truth_kept, names_kept}
use Rattle.cdk_meaning.proofs.ConditionChains.{bound_enough}

any_map : (f : ℕ → List ℕ) (p : List ℕ → Bool) (q : ℕ → Bool) (xs : List ℕ) → Each (λ x. p (f x) ≡ q x) xs → list_any p (map f xs) ≡ list_any q xs
any_map f p q [] e = refl
any_map f p q (x ∷ xs) e = rw (e.0, any_map f p q xs e.1)

-- different constructs have different names
pub same_construct : (name : ℕ → List ℕ) (ns : List ℕ) (c d : ℕ) → AreDistinct (map name ns) → IsIn c ns → IsIn d ns → name c ≡ name d → c ≡ d
same_construct name ns c d apart i j e =
    let at_c = found_at name (λ n. number (unsigned n)) c ns apart i in
    let at_d = found_at name (λ n. number (unsigned n)) d ns apart j in
    let both : Some (number (unsigned c)) ≡ Some (number (unsigned d)) = sym at_c ∙ ap (λ k. get_member k (built name (λ n. number (unsigned n)) ns)) e ∙ at_d in
    cc both

pub same_name : (name : ℕ → List ℕ) (ns : List ℕ) (c d : ℕ) → AreDistinct (map name ns) → IsIn c ns → IsIn d ns → bytes_eq (name c) (name d) ≡ (c == d)
same_name name ns c d apart i j = at (c == d) refl (bytes_eq (name c) (name d)) refl
  where
    at : (b : Bool) → c == d ≡ b → (e : Bool) → bytes_eq (name c) (name d) ≡ e → e ≡ b
    at true h true g = refl
    at false h false g = refl
    at true h false g = let t : bytes_eq (name c) (name d) ≡ true = ap (λ k. bytes_eq (name c) (name k)) (sym (eqb-true c d h)) ∙ same_bytes (name c) in cc (t, g)
    at false h true g = let t : c == d ≡ true = eq-eqb c d (same_construct name ns c d apart i j (bytes_same (name c) (name d) g)) in cc (t, h)

module _ (src : ℕ → Source) (h : Homes) (t : Scope) (conditions : ℕ → Condition) (ns : List ℕ) (k : AreStackConditions src h t conditions ns) (cs : Members) (w : IsConditionSection h conditions ns cs) where
  found : (c : ℕ) → IsIn c ns → get_member (h.condition c) cs ≡ Some (rendered_condition h (conditions c))
  found c i = w.found c i

  well : (c : ℕ) → IsIn c ns → IsWellCondition (conditions c)
  well c i = each_at (λ a. IsWellCondition (conditions a)) c ns k.well i

  closed : (c : ℕ) → IsIn c ns → Each (λ d. IsIn d ns) (names_in (conditions c))
  closed c i = each_at (λ a. Each (λ d. IsIn d ns) (names_in (conditions a))) c ns k.closed i

  reaches_kept : (n g c : ℕ) → IsIn g ns → IsIn c ns → json_reaches cs n (h.condition g) (h.condition c) ≡ reaches conditions n g c
  reaches_kept zero g c j i = refl
  reaches_kept (suc n) g c j i =
      ap (λ o. list_any (λ d. bytes_eq d (h.condition g) || json_reaches cs n (h.condition g) d) (names_of o)) (found c i)
      ∙ ap (list_any (λ d. bytes_eq d (h.condition g) || json_reaches cs n (h.condition g) d)) (names_kept h (conditions c) (well c i))
      ∙ any_map (λ d. h.condition d) (λ d. bytes_eq d (h.condition g) || json_reaches cs n (h.condition g) d) (λ d. (d == g) || reaches conditions n g d) (names_in (conditions c))
      (each_more (λ d. IsIn d ns) (λ d. bytes_eq (h.condition d) (h.condition g) || json_reaches cs n (h.condition g) (h.condition d) ≡ (d == g) || reaches conditions n g d) (names_in (conditions c)) (λ d u m. rw (same_name (λ a. h.condition a) ns d g k.distinct m j, reaches_kept n g d j m)) (closed c i))

  no_loop : (c : ℕ) → IsIn c ns → is_loop cs (h.condition c) ≡ false
  no_loop c i = ap (λ n. json_reaches cs n (h.condition c) (h.condition c)) w.counted ∙ reaches_kept (length ns) c c i i ∙ each_at (λ a. reaches conditions (length ns) a a ≡ false) c ns k.free i

  kept_within : (n c : ℕ) → IsIn c ns → seen_truth (json_truth_within (outcome t) cs n (h.condition c)) ≡ truth_within (operand_text src) conditions n c
  kept_within zero c i = ap (λ o. seen_truth (found_truth (λ d. Untold ConditionLoop) o)) (found c i)
  kept_within (suc n) c i =
      ap (λ o. seen_truth (found_truth (λ d. if is_loop cs (h.condition c) then Untold ConditionLoop else truth_of (outcome t) (json_truth_within (outcome t) cs n) d) o)) (found c i)
      ∙ ap (λ b. seen_truth (if b then Untold ConditionLoop else truth_of (outcome t) (json_truth_within (outcome t) cs n) (rendered_condition h (conditions c)))) (no_loop c i)
      ∙ truth_kept (src c) h t (each_at (λ a. PseudosKept (src a) t) c ns k.pseudos i) (json_truth_within (outcome t) cs n) (truth_within (operand_text src) conditions n) (conditions c) (well c i) (each_at (λ a. Keeps (src a) h t (operand_mentions (conditions a))) c ns k.kept i)
      (each_more (λ d. IsIn d ns) (λ d. seen_truth (json_truth_within (outcome t) cs n (h.condition d)) ≡ truth_within (operand_text src) conditions n d) (names_in (conditions c)) (λ d u m. kept_within n d m) (closed c i))

pub conditions_kept : ConditionsKeepTruth
conditions_kept src h t conditions ns k cs w n c l i =
    ap (λ m. seen_truth (json_truth_within (outcome t) cs m (h.condition c))) w.counted
    ∙ kept_within src h t conditions ns k cs w (length ns) c i
    ∙ bound_enough (operand_text src) conditions ns k.closed k.free (length ns) n c (omega arith) l i

pub truth_is_fixed : TruthIsFixed
truth_is_fixed src h t conditions ns k n m c ln lm i = bound_enough (operand_text src) conditions ns k.closed k.free n (suc m) c ln (omega arith) i
