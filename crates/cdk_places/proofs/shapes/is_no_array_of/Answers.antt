use Rattle.std.proofs.Common.{◌≡◌, suc, List, [], ◌∷◌, length, refl, sym, ap, ◌∙◌}
use Rattle.std.specs.Prelude.{◌||◌, nat_lt}
use Rattle.serde_json.specs.View.{view, items_view}
use Rattle.serde_json.specs.declared.value.Value.{Value}
use Rattle.serde_json.proofs.Views.{view-Array}
use Rattle.cdk_language.specs.Schema.{is_no_array_of, items_count}
use Rattle.cdk_places.proofs.shapes.is_no_array_of.Goals as goal

items_count-length : (vs : List Value) → items_count (items_view vs) ≡ length vs
items_count-length [] = refl
items_count-length (v ∷ vs) = ap suc (items_count-length vs)

pub returns-in-Array : goal.returns-in-Array
returns-in-Array c =
    let low = c.args.low in
    let high = c.args.high in
    let count = ap length c.as_slice.ensures.value ∙ sym (items_count-length c.in-Array.items.items) in
    c.is_outside.ensures ∙ ap (λ n. nat_lt n low || nat_lt high n) count ∙ ap (is_no_array_of low high) (sym (view-Array c.in-Array.items) ∙ sym (ap view c.in-Array.is))
