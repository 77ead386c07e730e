-- The parts of a condition that are rendered, put before the rest; and a condition told of the case that it is.
use Rattle.std.proofs.Common.{◌≡◌, ◌≤◌, ◌+◌, ℕ, List, [], ◌∷◌, ◌++◌, length, Result, Ok, Err, OnOk, sym, refl, ap, ap₂, ◌∙◌}
use Rattle.std.specs.Prelude.{IfOk}
use Rattle.std.proofs.lemmas.Result.{IfOk-weaker}
use Rattle.serde_json.specs.Data.{Data, Items, no_items, item}
use Rattle.serde_json.specs.View.{items_view, view}
use Rattle.serde_json.specs.declared.value.Value.{Value}
use Rattle.cdk_expansion.specs.Conditions.{condition_plain, conditions_plain}
use Rattle.cdk_language.specs.Condition as condition
use Rattle.cdk_language.specs.Condition.{Condition, Conditions}
use Rattle.cdk_plain.specs.Plain.{Plain}
use Rattle.cdk_plain.specs.Rendered.{and_items, Homes, rendered_condition, rendered_conditions}
use Rattle.cdk_contexts.specs.Expressions.{operands_of}
use Rattle.cdk_tree.specs.Placed.{Placed}

pushed : (vs : List Value) (v : Value) (rest : Items) → and_items (items_view vs) (item (view v) rest) ≡ and_items (items_view (vs ++ v ∷ [])) rest
pushed [] v rest = refl
pushed (u ∷ vs) v rest = ap (item (view u)) (pushed vs v rest)

pub none_more : (ds : Items) → and_items ds no_items ≡ ds
none_more no_items = refl
none_more (item d ds) = ap (item d) (none_more ds)

-- one part more is rendered
pub part_laid : (h : Homes) (cs : List Placed) (operand : ℕ → Plain) (n m : ℕ) (c : Condition) (rest : Conditions) (vs new : List Value) (v : Value)
    → view v ≡ rendered_condition h (condition_plain cs operand n c) → new ≡ vs ++ v ∷ [] → m ≡ n + length (operands_of c)
    → and_items (items_view vs) (rendered_conditions h (conditions_plain cs operand n (condition.condition c rest))) ≡ and_items (items_view new) (rendered_conditions h (conditions_plain cs operand m rest))
part_laid h cs operand n m c rest vs new v is more next =
    ap (λ d. and_items (items_view vs) (item d (rendered_conditions h (conditions_plain cs operand (n + length (operands_of c)) rest)))) (sym is)
    ∙ (pushed vs v (rendered_conditions h (conditions_plain cs operand (n + length (operands_of c)) rest))
    ∙ ap₂ (λ us (j : ℕ). and_items (items_view us) (rendered_conditions h (conditions_plain cs operand j rest))) (sym more) (sym next))

-- ---- by cases

pub condition_laid : {E : Type 0} (h : Homes) (cs : List Placed) (operand : ℕ → ℕ → Plain) (n least : ℕ) (r : Result Value E) (d : Data) (c case : Condition)
    → c ≡ case → ((k : ℕ) → least ≤ k → d ≡ rendered_condition h (condition_plain cs (operand k) n case))
    → IfOk r (λ v. view v ≡ d) → IfOk r (λ v. (k : ℕ) → least ≤ k → view v ≡ rendered_condition h (condition_plain cs (operand k) n c))
condition_laid h cs operand n least r d c case is same =
    IfOk-weaker r _ _ (λ v laid k enough. laid ∙ (same k enough ∙ ap (λ e. rendered_condition h (condition_plain cs (operand k) n e)) (sym is)))

pub condition_counted : {E : Type 0} (r : Result Value E) (old new : ℕ) (c case : Condition) → c ≡ case → new ≡ old + length (operands_of case) → OnOk r (new ≡ old + length (operands_of c))
condition_counted (Ok v) old new c case is next = next ∙ ap (λ e. old + length (operands_of e)) (sym is)
condition_counted (Err e) old new c case is next = tt
