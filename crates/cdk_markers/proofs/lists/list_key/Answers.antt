use Rattle.std.proofs.Common.{◌≡◌, List, [], ◌∷◌, length, is_some, true≢false, Some, None, unwrap_or, refl, sym, ap, ◌∙◌}
use Rattle.serde_json.specs.Data.{Data, null, boolean, number, string, array, object, Items, no_items, item}
use Rattle.serde_json.specs.Find.{as_array}
use Rattle.serde_json.specs.View.{items_view}
use Rattle.serde_json.specs.declared.value.Value.{Value}
use Rattle.cdk_markers.specs.ListKey.{list_key_of}
use Rattle.cdk_markers.proofs.lists.list_key.Goals as goal

two_or_more : (d e : Data) (ds : Items) → list_key_of (array (item d (item e ds))) ≡ None
two_or_more null e ds = refl
two_or_more (boolean b) e ds = refl
two_or_more (number n) e ds = refl
two_or_more (string s) e ds = refl
two_or_more (array xs) e ds = refl
two_or_more (object ms) e ds = refl

not_one : (vs : List Value) → (length vs ≡ 1 → ⊥) → list_key_of (array (items_view vs)) ≡ None
not_one [] n = refl
not_one (v ∷ []) n = absurd (n refl)
not_one (v ∷ w ∷ vs) n = two_or_more _ _ _

read_as_array : (d : Data) (ds : Items) → Some ds ≡ as_array d → d ≡ array ds
read_as_array null ds e = absurd (true≢false (ap is_some e))
read_as_array (boolean b) ds e = absurd (true≢false (ap is_some e))
read_as_array (number n) ds e = absurd (true≢false (ap is_some e))
read_as_array (string s) ds e = absurd (true≢false (ap is_some e))
read_as_array (array xs) ds e = ap (λ o. array (unwrap_or o no_items)) (sym e)
read_as_array (object ms) ds e = absurd (true≢false (ap is_some e))

pub returns-then-len-ne1 : goal.returns-then-len-ne1
returns-then-len-ne1 c =
    sym (ap list_key_of (read_as_array _ _ (c.in_ok-list.ensures)) ∙ not_one c.in_ok-list.list.now.items (λ e. c.if-len-ne1.true (c.len.ensures ∙ (c.in_ok-list.list.now.ok.0 ∙ e))))
