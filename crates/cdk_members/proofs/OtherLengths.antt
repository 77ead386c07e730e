-- Arrays of another length are none of these.
use Rattle.std.proofs.Common.{◌≡◌, ◌≢◌, List, [], ◌∷◌, length, None, refl}
use Rattle.serde_json.specs.Data.{array}
use Rattle.serde_json.specs.View.{items_view}
use Rattle.serde_json.specs.declared.value.Value.{Value}
use Rattle.cdk_members.specs.Arrays.{lone_text, text_then, index_then, text_then_two}

pub no_lone_text : (vs : List Value) → length vs ≢ 1 → lone_text (array (items_view vs)) ≡ None
no_lone_text [] h = refl
no_lone_text (v ∷ []) h = absurd (h refl)
no_lone_text (v ∷ w ∷ vs) h = refl

pub no_text_then : (vs : List Value) → length vs ≢ 2 → text_then (array (items_view vs)) ≡ None
no_text_then [] h = refl
no_text_then (v ∷ []) h = refl
no_text_then (v ∷ w ∷ []) h = absurd (h refl)
no_text_then (v ∷ w ∷ x ∷ vs) h = refl

pub no_index_then : (vs : List Value) → length vs ≢ 2 → index_then (array (items_view vs)) ≡ None
no_index_then [] h = refl
no_index_then (v ∷ []) h = refl
no_index_then (v ∷ w ∷ []) h = absurd (h refl)
no_index_then (v ∷ w ∷ x ∷ vs) h = refl

pub no_text_then_two : (vs : List Value) → length vs ≢ 3 → text_then_two (array (items_view vs)) ≡ None
no_text_then_two [] h = refl
no_text_then_two (v ∷ []) h = refl
no_text_then_two (v ∷ w ∷ []) h = refl
no_text_then_two (v ∷ w ∷ x ∷ []) h = absurd (h refl)
no_text_then_two (v ∷ w ∷ x ∷ y ∷ vs) h = refl
