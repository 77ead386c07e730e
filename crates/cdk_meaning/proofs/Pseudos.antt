-- Pseudo parameters keep their texts, and a name without a colon is none of them.
use Rattle.std.proofs.Common.{◌≡◌, ℕ, List, Bool, true, false, Option, Some, None, refl, ap, ◌∙◌}
use Rattle.std.specs.Prelude.{codes, bytes_eq, if◌then◌else◌, ◌++◌, option_map, unwrap_or}
use Rattle.serde_json.specs.Data.{Data}
use Rattle.cdk_eval.specs.Values.{Values, pseudo_default, pseudo_text, is_no_value}
use Rattle.cdk_eval.specs.Sections.{operand_scope, scope}
use Rattle.cdk_plain.specs.Plain.{account_id, partition, region, stack_id, stack_name, url_suffix, no_value}
use Rattle.cdk_meaning.specs.Kept.{PseudosKept}
use Rattle.cdk_meaning.specs.Constructs.{Constructs, operand_source, source_of}
use Rattle.cdk_meaning.specs.StackTemplate.{has_colon}
use Rattle.cdk_meaning.proofs.Joins.{bytes_same}

module _ (v : Values) (cs : Constructs) (stack : List ℕ) (template : Data) where
  pub pseudos_kept : (most : ℕ) (exports : List ℕ → Option (List ℕ)) → PseudosKept (source_of v cs most stack) (scope v stack template exports)
  pseudos_kept most exports account_id = refl
  pseudos_kept most exports partition = refl
  pseudos_kept most exports region = refl
  pseudos_kept most exports stack_id = refl
  pseudos_kept most exports stack_name = refl
  pseudos_kept most exports url_suffix = refl
  pseudos_kept most exports no_value = refl

  pub operand_pseudos_kept : PseudosKept (operand_source v cs stack) (operand_scope v stack template)
  operand_pseudos_kept account_id = refl
  operand_pseudos_kept partition = refl
  operand_pseudos_kept region = refl
  operand_pseudos_kept stack_id = refl
  operand_pseudos_kept stack_name = refl
  operand_pseudos_kept url_suffix = refl
  operand_pseudos_kept no_value = refl

other_name : (n k : List ℕ) → has_colon n ≡ false → has_colon k ≡ true → bytes_eq n k ≡ false
other_name n k h g = at (bytes_eq n k) refl
  where
    at : (b : Bool) → bytes_eq n k ≡ b → b ≡ false
    at true e = let t : has_colon n ≡ true = ap has_colon (bytes_same n k e) ∙ g in cc (t, h)
    at false e = refl

pub no_gone : (n : List ℕ) → has_colon n ≡ false → is_no_value n ≡ false
no_gone n h = other_name n (codes "AWS::NoValue") h refl

no_default : (n : List ℕ) → has_colon n ≡ false → pseudo_default n ≡ None
no_default n h =
    rw (other_name n (codes "AWS::AccountId") h refl, other_name n (codes "AWS::Partition") h refl, other_name n (codes "AWS::Region") h refl, other_name n (codes "AWS::URLSuffix") h refl) refl

pub no_pseudo : (v : Values) (stack n : List ℕ) → has_colon n ≡ false → pseudo_text v stack n ≡ None
no_pseudo v stack n h =
    ap (λ b. if b then Some stack else (if bytes_eq n (codes "AWS::StackId") then Some (codes "stack/" ++ stack) else option_map (unwrap_or (v.pseudo n)) (pseudo_default n))) (other_name n (codes "AWS::StackName") h refl)
    ∙ ap (λ b. if b then Some (codes "stack/" ++ stack) else option_map (unwrap_or (v.pseudo n)) (pseudo_default n)) (other_name n (codes "AWS::StackId") h refl)
    ∙ ap (option_map (unwrap_or (v.pseudo n))) (no_default n h)
