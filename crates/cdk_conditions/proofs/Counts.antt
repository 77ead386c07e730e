-- Conditions by the number of their parts, and parts that are put together.
use Rattle.std.proofs.Common.{◌≡◌, ◌≢◌, ℕ, suc, List, [], ◌∷◌, length, Bool, true, false, refl, sym, ap, ◌∙◌}
use Rattle.std.specs.Prelude.{if◌then◌else◌, ◌&&◌, ◌||◌}
use Rattle.serde_json.specs.Data.{Data, array, Items}
use Rattle.serde_json.specs.View.{items_view}
use Rattle.serde_json.specs.declared.value.Value.{Value}
use Rattle.cdk_eval.specs.declared.fault.EvalFault.{EvalFault}
use Rattle.cdk_eval.specs.declared.fault.EvalFault.TheVariants.{BadIntrinsic}
use Rattle.cdk_eval.specs.Conditions.{equals_form, item_count, is_few, has_items, all_hold, not_form, item_truths, part_truths}
use Rattle.cdk_eval.specs.Outcomes.{Outcome, Truth, Holds, Untold}
use Rattle.cdk_eval.proofs.Bound.{truth_count, few_other}
use Rattle.cdk_conditions.specs.Kept.{few_by, hold_by, both_by}

pub count_items : (vs : List Value) → item_count (items_view vs) ≡ length vs
count_items [] = refl
count_items (v ∷ vs) = ap suc (count_items vs)

pub equals_other : (op : Data → Outcome) (vs : List Value) → length vs ≢ 2 → Untold BadIntrinsic ≡ equals_form op (array (items_view vs))
equals_other op [] h = refl
equals_other op (v ∷ []) h = refl
equals_other op (v ∷ w ∷ []) h = absurd (h refl)
equals_other op (v ∷ w ∷ x ∷ vs) h = refl

pub not_other : (op : Data → Outcome) (f : List ℕ → Truth) (vs : List Value) → length vs ≢ 1 → Untold BadIntrinsic ≡ not_form (item_truths op f (items_view vs))
not_other op f [] h = refl
not_other op f (v ∷ []) h = absurd (h refl)
not_other op f (v ∷ w ∷ vs) h = refl

pub no_few : (op : Data → Outcome) (f : List ℕ → Truth) (is_all : Bool) (d : Data) → has_items is_few d ≡ false → Untold BadIntrinsic ≡ few_by is_all (part_truths op f d)
no_few op f true d h = sym (few_other op f (λ a b. a && b) true d h)
no_few op f false d h = sym (few_other op f (λ a b. a || b) false d h)

hold_at : (is_all : Bool) (ts : List Truth) → is_few (length ts) ≡ true → few_by is_all ts ≡ hold_by is_all ts
hold_at true ts h = ap (λ b. if b then all_hold (λ a b. a && b) true ts else Untold BadIntrinsic) h
hold_at false ts h = ap (λ b. if b then all_hold (λ a b. a || b) false ts else Untold BadIntrinsic) h

pub few_hold : (op : Data → Outcome) (f : List ℕ → Truth) (is_all : Bool) (ds : Items) → has_items is_few (array ds) ≡ true → few_by is_all (part_truths op f (array ds)) ≡ hold_by is_all (item_truths op f ds)
few_hold op f is_all ds h = hold_at is_all (item_truths op f ds) (ap is_few (truth_count op f ds) ∙ h)

pub both_end : (is_all h : Bool) → both_by is_all (Holds h) (hold_by is_all []) ≡ Holds h
both_end true true = refl
both_end true false = refl
both_end false true = refl
both_end false false = refl

pub both_fault : (is_all h : Bool) (t : Truth) (f : EvalFault) (ts : List Truth) → t ≡ Untold f → both_by is_all (Holds h) (hold_by is_all (t ∷ ts)) ≡ Untold f
both_fault true h t f ts e = ap (λ u. both_by true (Holds h) (hold_by true (u ∷ ts))) e
both_fault false h t f ts e = ap (λ u. both_by false (Holds h) (hold_by false (u ∷ ts))) e
