-- Reading conditions one after another.
use Rattle.std.proofs.Common.{◌≡◌, List, [], ◌∷◌, ◌++◌, Option, Some, None, option_map, option_and_then, length, ◌≢◌, refl, ap, ◌∙◌}
use Rattle.serde_json.specs.Data.{array}
use Rattle.serde_json.specs.View.{items_view}
use Rattle.serde_json.specs.declared.value.Value.{Value}
use Rattle.cdk_language.specs.Application.{equals_of, negated_of}
use Rattle.cdk_language.specs.Condition.{Condition, Conditions, no_conditions, condition, view, conditions_view}
use Rattle.cdk_language.specs.declared.condition.Cond.{Cond}

-- the conditions, before the rest
abbrev pub conditions_before : List Cond → Conditions → Conditions
conditions_before [] rest = rest
conditions_before (c ∷ cs) rest = condition (view c) (conditions_before cs rest)

before-none : (cs : List Cond) → conditions_before cs no_conditions ≡ conditions_view cs
before-none [] = refl
before-none (c ∷ cs) = ap (condition (view c)) (before-none cs)

before-push : (cs : List Cond) (c : Cond) (rest : Conditions) → conditions_before cs (condition (view c) rest) ≡ conditions_before (cs ++ c ∷ []) rest
before-push [] c rest = refl
before-push (x ∷ cs) c rest = ap (condition (view x)) (before-push cs c rest)

one_more : (cs : List Cond) (c : Cond) (r : Option Conditions) → option_map (conditions_before cs) (option_map (condition (view c)) r) ≡ option_map (conditions_before (cs ++ c ∷ [])) r
one_more cs c None = refl
one_more cs c (Some rest) = ap Some (before-push cs c rest)

pub none_before : (r : Option Conditions) → r ≡ option_map (conditions_before []) r
none_before None = refl
none_before (Some rest) = refl

pub all_conditions_read : (cs : List Cond) (all : Option Conditions) → all ≡ option_map (conditions_before cs) (Some no_conditions) → all ≡ Some (conditions_view cs)
all_conditions_read cs all e = e ∙ ap Some (before-none cs)

-- one condition more: where the first of the rest reads as c
pub read_next_condition : (cs : List Cond) (c : Cond) (first : Option Condition) (r : Option Conditions) (whole : Option Conditions)
    → whole ≡ option_map (conditions_before cs) (option_and_then (λ x. option_map (condition x) r) first) → first ≡ Some (view c) → whole ≡ option_map (conditions_before (cs ++ c ∷ [])) r
read_next_condition cs c first r whole was here = was ∙ ap (λ o. option_map (conditions_before cs) (option_and_then (λ x. option_map (condition x) r) o)) here ∙ one_more cs c r

pub no_equals : (vs : List Value) → length vs ≢ 2 → equals_of (array (items_view vs)) ≡ None
no_equals [] h = refl
no_equals (v ∷ []) h = refl
no_equals (v ∷ w ∷ []) h = absurd (h refl)
no_equals (v ∷ w ∷ x ∷ vs) h = refl

pub no_negated : (vs : List Value) → length vs ≢ 1 → negated_of (array (items_view vs)) ≡ None
no_negated [] h = refl
no_negated (v ∷ []) h = absurd (h refl)
no_negated (v ∷ w ∷ vs) h = refl
