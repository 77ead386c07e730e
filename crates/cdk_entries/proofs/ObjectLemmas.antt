-- Objects that aren't empty, and copies of objects.
use Rattle.std.proofs.Common.{◌≡◌, ℕ, List, [], ◌∷◌, length, Some, None, String, BTreeMap, Global, refl, sym, ap, ◌∙◌, arith}
use Rattle.std.specs.Prelude.{string_bytes}
use Rattle.std.specs.List.{AllZip}
use Rattle.std.specs.BTreeMap.{btree_map_len}
use Rattle.serde_json.specs.Data.{Members, member, object, put}
use Rattle.serde_json.specs.View.{members_view, view}
use Rattle.serde_json.specs.declared.value.Value.{Value}
use Rattle.cdk_entries.specs.Members.{put_given, unless_empty}

-- ---- objects that aren't empty

some_members : (es : List (String Global × Value)) → (length es ≡ 0 → ⊥) → Some (object (members_view es)) ≡ unless_empty (members_view es)
some_members [] some = absurd (some refl)
some_members (e ∷ es) some = refl

pub put_some : (k : List ℕ) (m : BTreeMap (String Global) Value) (ms : Members) → (btree_map_len m ≡ 0 → ⊥) → put k (object (members_view m.entries)) ms ≡ put_given k (unless_empty (members_view m.entries)) ms
put_some k m ms some = ap (λ o. put_given k o ms) (some_members m.entries some)

no_entries : (es : List (String Global × Value)) → length es ≡ 0 → unless_empty (members_view es) ≡ None
no_entries [] none = refl
no_entries (e ∷ es) none = absurd (omega (arith, none))

pub put_none : (k : List ℕ) (m : BTreeMap (String Global) Value) (ms : Members) → btree_map_len m ≡ 0 → ms ≡ put_given k (unless_empty (members_view m.entries)) ms
put_none k m ms none = sym (ap (λ o. put_given k o ms) (no_entries m.entries none))

-- ---- copies

pub copied_members : (es fs : List (String Global × Value)) → AllZip (λ p q. (string_bytes q.0 ≡ string_bytes p.0) × (view q.1 ≡ view p.1)) es fs → members_view fs ≡ members_view es
copied_members [] [] h = refl
copied_members [] (f ∷ fs) h = absurd h
copied_members (e ∷ es) [] h = absurd h
copied_members (e ∷ es) (f ∷ fs) h =
    ap (λ k. member k (view f.1) (members_view fs)) h.0.0 ∙ ap (λ d. member (string_bytes e.0) d (members_view fs)) h.0.1 ∙ ap (member (string_bytes e.0) (view e.1)) (copied_members es fs h.1)
