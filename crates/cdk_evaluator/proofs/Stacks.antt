-- What a stack comes to, by the truths that are kept for it.
use Rattle.std.proofs.Common.{◌≡◌, ℕ, List, Option, Some, None, refl, ap, ◌∙◌}
use Rattle.std.specs.Prelude.{codes}
use mathlib.Core.Path.{fun_ext}
use Rattle.serde_json.specs.Data.{Data, null, boolean, number, string, array, object}
use Rattle.serde_json.specs.Find.{get}
use Rattle.cdk_eval.specs.Outcomes.{OutputOutcome}
use Rattle.cdk_eval.specs.Sections.{section, presence, presence_by}
use Rattle.cdk_eval.specs.Stack.{Stack, ResourceOutcome, StackOutcome, resource_outcomes, output_outcomes, export_entries, stack_scope, stack_outcome, stack_exports}
use Rattle.cdk_eval.specs.Values.{Values}
use Rattle.cdk_scopes.specs.declared.truths.Truths.{Truths}
use Rattle.cdk_scopes.specs.Scopes.{truth_in, stated_truth, presence_of, AreTruths}

module _ (v : Values) (exports : List ℕ → Option (List ℕ)) (s : Stack) (ts : Truths) (truths : AreTruths v s.name s.template ts) where
  by_condition : (o : Option Data) → stated_truth (truth_in ts) o ≡ presence_by v s.name s.template o
  by_condition None = refl
  by_condition (Some null) = refl
  by_condition (Some (boolean b)) = refl
  by_condition (Some (number n)) = refl
  by_condition (Some (string c)) = truths c
  by_condition (Some (array ds)) = refl
  by_condition (Some (object ms)) = refl

  same_presence : presence_of ts ≡ presence v s.name s.template
  same_presence = fun_ext (λ d. by_condition (get (codes "Condition") d))

  pub same_stack : (name : List ℕ) (rs : List ResourceOutcome) (os : List (List ℕ × OutputOutcome)) → name ≡ s.name → rs ≡ resource_outcomes (presence_of ts) (stack_scope v exports s) (section (codes "Resources") s.template)
      → os ≡ output_outcomes (presence_of ts) (stack_scope v exports s) (section (codes "Outputs") s.template) → record { name = name; resources = rs; outputs = os } ≡ stack_outcome v exports s
  same_stack name rs os named resources outputs =
      let make : List ℕ → List ResourceOutcome → List (List ℕ × OutputOutcome) → StackOutcome = λ n r o. record { name = n; resources = r; outputs = o } in
      let scope = stack_scope v exports s in
      let all = resource_outcomes (presence v s.name s.template) scope (section (codes "Resources") s.template) in
      ap (λ n. make n rs os) named
      ∙ ap (λ r. make s.name r os) (resources ∙ ap (λ p. resource_outcomes p scope (section (codes "Resources") s.template)) same_presence)
      ∙ ap (λ o. make s.name all o) (outputs ∙ ap (λ p. output_outcomes p scope (section (codes "Outputs") s.template)) same_presence)

  pub same_exports : (xs : List (List ℕ × List ℕ)) → xs ≡ export_entries (presence_of ts) (stack_scope v exports s) (section (codes "Outputs") s.template) → xs ≡ stack_exports v exports s
  same_exports xs made = made ∙ ap (λ p. export_entries p (stack_scope v exports s) (section (codes "Outputs") s.template)) same_presence
