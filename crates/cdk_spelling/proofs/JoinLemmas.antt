-- Joins by their parts, and what a few items come to.
use Rattle.std.proofs.Common.{◌≡◌, ◌≤◌, ◌<◌, ◌≢◌, ℕ, Bool, true, false, cond, List, [], ◌∷◌, ◌++◌, length, Result, Ok, Err, IfOk, Option, Some, None, is_some, option_and_then, bytes_eq, codes, String as BaseString, Global, string_bytes, rules, refl, sym, ap, ◌∙◌, arith, length-append}
use Rattle.serde_json.specs.Data.{Data, array, object, string, Items, no_items, item, Members, no_members, member}
use Rattle.serde_json.specs.Find.{as_array, as_str}
use Rattle.serde_json.specs.View.{view, items_view}
use Rattle.serde_json.specs.declared.value.Value.{Value, String, the_lemmas}
use Rattle.cdk_plain.specs.Rendered.{finished, joined, joined_in}
use Rattle.cdk_spelling.specs.Assembled.{assembled_items}
use Rattle.cdk_spelling.specs.Joins.{argument_of, items_behind, is_text}

pub view-String : (s : BaseString Global) → view (String s) ≡ string (string_bytes s)
view-String s = search (rules, the_lemmas)

pub told : {E : Type 0} (r : Result Value E) (d e : Data) → IfOk r (λ v. view v ≡ d) → d ≡ e → IfOk r (λ v. view v ≡ e)
told (Ok v) d e h is = h ∙ is
told (Err x) d e h is = tt

-- ---- the only member

abbrev no_list : Option Items
no_list = None

cond_none : (b : Bool) → cond b no_list no_list ≡ no_list
cond_none true = refl
cond_none false = refl

one_member : (k : List ℕ) (d : Data) → joined_in (object (member k d no_members)) ≡ cond (bytes_eq k (codes "Fn::Join")) (items_behind d) None
one_member k (array (item (string []) (item (array ds) no_items))) = refl
one_member k d = sym (cond_none (bytes_eq k (codes "Fn::Join")))

two_members : (k : List ℕ) (d : Data) (l : List ℕ) (e : Data) (ms : Members) → joined_in (object (member k d (member l e ms))) ≡ None
two_members k (array (item (string []) (item (array ds) no_items))) l e ms = refl
two_members k d l e ms = refl

behind : (b : Bool) (d : Data) → option_and_then items_behind (cond b (Some d) None) ≡ cond b (items_behind d) None
behind true d = refl
behind false d = refl

joined_in-object : (ms : Members) → joined_in (object ms) ≡ option_and_then items_behind (argument_of (codes "Fn::Join") ms)
joined_in-object no_members = refl
joined_in-object (member k d no_members) = one_member k d ∙ sym (behind (bytes_eq k (codes "Fn::Join")) d)
joined_in-object (member k d (member l e ms)) = two_members k d l e ms

pub joined_by : (ms : Members) (o : Option Data) → o ≡ argument_of (codes "Fn::Join") ms → joined_in (object ms) ≡ option_and_then items_behind o
joined_by ms o is = joined_in-object ms ∙ ap (option_and_then items_behind) (sym is)

-- ---- the arguments

one_behind : (d : Data) → items_behind (array (item d no_items)) ≡ None
one_behind (string []) = refl
one_behind d = refl

three_behind : (d e f : Data) (ds : Items) → items_behind (array (item d (item e (item f ds)))) ≡ None
three_behind (string []) (array es) f ds = refl
three_behind d e f ds = refl

pub not_two_behind : (vs : List Value) → length vs ≢ 2 → items_behind (array (items_view vs)) ≡ None
not_two_behind [] h = refl
not_two_behind (v ∷ []) h = one_behind (view v)
not_two_behind (v ∷ w ∷ []) h = absurd (h refl)
not_two_behind (v ∷ w ∷ x ∷ vs) h = three_behind (view v) (view w) (view x) (items_view vs)

pair_behind : (d e : Data) → is_some (items_behind (array (item d (item e no_items)))) ≡ true → items_behind (array (item d (item e no_items))) ≡ as_array e
pair_behind (string []) (array ds) h = refl
pair_behind d e h = cc

end_behind : (rest : List Value) (v : Value) → is_some (items_behind (array (items_view (rest ++ v ∷ [])))) ≡ true → items_behind (array (items_view (rest ++ v ∷ []))) ≡ as_array (view v)
end_behind [] v h = let none = one_behind (view v) in cc
end_behind (w ∷ []) v h = pair_behind (view w) (view v) h
end_behind (w ∷ x ∷ []) v h = let none = three_behind (view w) (view x) (view v) no_items in cc
end_behind (w ∷ x ∷ y ∷ rest) v h = let none = three_behind (view w) (view x) (view y) (items_view (rest ++ v ∷ [])) in cc

-- of such arguments, the last one is the array
pub last_behind : (all rest : List Value) (v : Value) → is_some (items_behind (array (items_view all))) ≡ true → all ≡ rest ++ v ∷ [] → items_behind (array (items_view all)) ≡ as_array (view v)
last_behind all rest v h e = ap (λ vs. items_behind (array (items_view vs))) e ∙ end_behind rest v (ap (λ vs. is_some (items_behind (array (items_view vs)))) (sym e) ∙ h)

-- ---- a text alone

pub is_text-short : (vs : List Value) → is_text (items_view vs) ≡ true → length vs ≤ 1
is_text-short [] h = omega arith
is_text-short (v ∷ []) h = omega arith
is_text-short (v ∷ w ∷ vs) h = cc

pub is_text-long : (vs : List Value) → 2 ≤ length vs → false ≡ is_text (items_view vs)
is_text-long [] h = absurd (omega arith)
is_text-long (v ∷ []) h = absurd (omega arith)
is_text-long (v ∷ w ∷ vs) h = refl

finished-one : (d : Data) → is_some (as_str d) ≡ true → finished (item d no_items) ≡ d
finished-one (string s) h = refl
finished-one d h = cc

pub finished-text : (ds : Items) → is_text ds ≡ true → finished ds ≡ assembled_items ds
finished-text no_items h = refl
finished-text (item d no_items) h = finished-one d h
finished-text (item d (item e ds)) h = cc

pub only_value : (all rest : List Value) (v : Value) → length all ≤ 1 → all ≡ rest ++ v ∷ [] → view v ≡ assembled_items (items_view all)
only_value all [] v h e = ap (λ vs. assembled_items (items_view vs)) (sym e)
only_value all (w ∷ rest) v h e = absurd (omega (arith, ap length e, length-append rest (v ∷ [])))

pub assembled_items-many : (vs : List Value) → 1 < length vs → assembled_items (items_view vs) ≡ joined (items_view vs)
assembled_items-many [] h = absurd (omega arith)
assembled_items-many (v ∷ []) h = absurd (omega arith)
assembled_items-many (v ∷ w ∷ vs) h = refl
