use Rattle.std.proofs.Common.{◌≡◌, List, ℕ, Bool, true, false, cond, Option, Some, None, option_map, Bor, String, Global, string_bytes, refl, sym, ap, ◌∙◌, subst}
use Rattle.std.specs.Prelude.{bytes_eq, is_some}
use Rattle.std.specs.Option.{option_or}
use Rattle.std.specs.BTreeMap.{get_by_text}
use Rattle.std.proofs.lemmas.Map.Text.{btree_map_updates_text}
use Rattle.std.proofs.lemmas.Slice.Eq.{bytes_eq-Decides}
use Rattle.cdk_scopes.specs.Scopes.{exports_view, outside_of}
use Rattle.cdk_scopes.proofs.exports.Exports.add.Goals as goal

or_none : (o : Option (List ℕ)) → option_or o None ≡ o
or_none None = refl
or_none (Some x) = refl

add_at : (a : Bool) (o : Option (List ℕ)) (m : Option (String Global)) (t : String Global) (u : List ℕ) → string_bytes t ≡ u → (a ≡ true → option_or o (option_map string_bytes m) ≡ None)
    → option_or o (option_map string_bytes (cond a (Some t) m)) ≡ option_or (option_or o (option_map string_bytes m)) (cond a (Some u) None)
add_at true None None t u e h = ap Some e
add_at true None (Some x) t u e h = absurd (cc (h refl))
add_at true (Some x) m t u e h = absurd (cc (h refl))
add_at false o m t u e h = sym (or_none (option_or o (option_map string_bytes m)))

none_of : (r : Option (Bor (List ℕ))) → is_some r ≡ false → option_map (λ s. s.now) r ≡ None
none_of None h = refl
none_of (Some x) h = cc

pub returns : goal.returns
returns c e =
    let x = c.args.self.now in
    let name = c.args.name.now in
    let same : string_bytes c.in_ok-name.name ≡ name = c.in_ok-name.ensures.ok in
    let none : exports_view x name ≡ None = sym c.get.ensures ∙ none_of c.get.result (sym c.if-is_some.ensures) in
    ap (λ o. option_or (outside_of x.outside.now x.literal e) (option_map string_bytes o)) (btree_map_updates_text (string_bytes c.in_ok-name.name) x.made c.insert.new.self (Some c.in_ok-text.text) c.in_ok-insert.ensures.updates e)
    ∙ ap (λ n. option_or (outside_of x.outside.now x.literal e) (option_map string_bytes (cond (bytes_eq n e) (Some c.in_ok-text.text) (get_by_text x.made e)))) same
    ∙ add_at (bytes_eq name e) (outside_of x.outside.now x.literal e) (get_by_text x.made e) c.in_ok-text.text c.args.text.now c.in_ok-text.ensures.ok
    (λ t. subst (λ (n : List ℕ). exports_view x n ≡ None) ((bytes_eq-Decides name e).0 t) none)
