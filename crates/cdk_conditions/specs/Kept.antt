-- The truths that are kept while a template's conditions are evaluated.
use Rattle.std.specs.Prelude.{◌≡◌, ◌||◌, ◌&&◌, ◌⊎◌, is_some, ℕ, List, [], map, Bool, true, false, Option, Some, None, bytes_eq, codes, if◌then◌else◌, ⊤}
use denote.Ref.{Bor}
use Rattle.serde_json.specs.Data.{Data, Members}
use Rattle.cdk_eval.specs.Conditions.{has_items, is_few, is_one, part_names, one_name, is_loop, named_truth, all_hold, few_form, both_hold, equals_form, not_form, name_form, part_truths}
use Rattle.cdk_eval.specs.Outcomes.{Outcome, Truth, Untold}
use Rattle.cdk_eval.specs.declared.fault.EvalFault.TheVariants.{BadIntrinsic}
use Rattle.serde_json.specs.Find.{get_member}
use Rattle.cdk_eval.specs.Reach.{IsIn}
use Rattle.cdk_eval.specs.Views.{truth_view}
use Rattle.cdk_scopes.specs.Scopes.{kept_at}
use Rattle.cdk_scopes.specs.declared.truths.Kept.{Kept}
use Rattle.cdk_scopes.specs.declared.truths.Truths.{Truths}

abbrev pub texts_of : List (Bor (List ℕ)) → List (List ℕ)
texts_of ns = map (λ n. n.now) ns

-- a well-formed form of conditions
abbrev pub has_parts : List ℕ → Data → Bool
has_parts k d = if bytes_eq k (codes "Fn::And") || bytes_eq k (codes "Fn::Or") then has_items is_few d else bytes_eq k (codes "Fn::Not") && has_items is_one d

-- the names in the form of a key
abbrev pub form_names : List ℕ → Data → List (List ℕ)
form_names k d =
    if bytes_eq k (codes "Fn::And") || bytes_eq k (codes "Fn::Or") then (if has_items is_few d then part_names d else [])
    else (if bytes_eq k (codes "Fn::Not") then (if has_items is_one d then part_names d else [])
    else (if bytes_eq k (codes "Condition") then one_name d
    else []))

-- `Fn::And` and `Fn::Or`
abbrev pub junction : Bool → Bool → Bool → Bool
junction true a b = a && b
junction false a b = a || b

abbrev pub few_by : Bool → List Truth → Truth
few_by true ts = few_form (λ a b. a && b) true ts
few_by false ts = few_form (λ a b. a || b) false ts

abbrev pub hold_by : Bool → List Truth → Truth
hold_by true ts = all_hold (λ a b. a && b) true ts
hold_by false ts = all_hold (λ a b. a || b) false ts

abbrev pub both_by : Bool → Truth → Truth → Truth
both_by true t u = both_hold (λ a b. a && b) t u
both_by false t u = both_hold (λ a b. a || b) t u

-- whether the key is one of `Fn::And` and `Fn::Or`, and which
abbrev pub junction_of : List ℕ → Option Bool
junction_of k = if bytes_eq k (codes "Fn::And") then Some true else (if bytes_eq k (codes "Fn::Or") then Some false else None)

-- of the form of a key, with the outcome of an operand and the truth of a name
abbrev pub form_truth : (Data → Outcome) → (List ℕ → Truth) → List ℕ → Data → Truth
form_truth operand of_name k d =
    if bytes_eq k (codes "Fn::Equals") then equals_form operand d
    else (if bytes_eq k (codes "Fn::And") then few_form (λ a b. a && b) true (part_truths operand of_name d)
    else (if bytes_eq k (codes "Fn::Or") then few_form (λ a b. a || b) false (part_truths operand of_name d)
    else (if bytes_eq k (codes "Fn::Not") then not_form (part_truths operand of_name d)
    else (if bytes_eq k (codes "Condition") then name_form of_name d
    else Untold BadIntrinsic))))

-- ---- truths so far

module _ (operand : Data → Outcome) (cs : Members) where
  abbrev pub IsKeptRight : List ℕ → Option Kept → Type 0
  IsKeptRight c None = ⊤
  IsKeptRight c (Some k) = (truth_view k.truth ≡ named_truth operand cs c) × (k.is_loop ≡ is_loop cs c)

  -- each that is kept is right
  abbrev pub AreRight : Truths → Type 0
  AreRight ts = (c : List ℕ) → IsKeptRight c (kept_at ts.kept c)

abbrev pub is_kept : Truths → List ℕ → Bool
is_kept ts c = is_some (kept_at ts.kept c)

-- kept, or the name of no condition
abbrev pub IsSettled : Members → Truths → List ℕ → Type 0
IsSettled cs ts n = (is_kept ts n ≡ true) ⊎ (get_member n cs ≡ None)

abbrev pub AreSettled : Members → Truths → List (List ℕ) → Type 0
AreSettled cs ts ns = (n : List ℕ) → IsIn n ns → IsSettled cs ts n
