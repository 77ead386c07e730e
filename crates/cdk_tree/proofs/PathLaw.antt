-- Paths and ids: in sound constructs a path is taken exactly where a sibling has the id.
use Rattle.std.proofs.Common.{◌≡◌, ◌<◌, ℕ, List, [], ◌∷◌, ◌++◌, length, Bool, true, false, true≢false, Option, Some, None, refl, sym, ap, ◌∙◌, arith}
use Rattle.std.specs.Prelude.{◌&&◌, nat_eq, nat_le}
use Rattle.std.specs.List.{list_all, list_any}
use Rattle.std.specs.Option.{option_eq}
use Rattle.std.specs.Str.{bytes_eq}
use Rattle.std.proofs.lemmas.List.Folds.{list_all-append, list_any_at, Any-from_list_any}
use Rattle.std.proofs.lemmas.Bool.{eq-eqb, eqb-true}
use Rattle.std.proofs.lemmas.List.{get_or_default}
use Rattle.std.proofs.lemmas.Slice.Eq.{bytes_eq-Decides}
use Rattle.cdk_tree.proofs.Tests.{and_left, and_right, and_both, both_ways}
use Rattle.cdk_tree.specs.PlaceFindings.{is_id, is_id_byte, are_siblings, has_taken_id}
use Rattle.cdk_tree.specs.Placed.{Placed, construct_at, nowhere, path_in}
use Rattle.cdk_tree.specs.Walking.{IsSound, StandsIn}

-- ---- a right id

right_bytes : (i : List ℕ) → is_id i ≡ true → list_all is_id_byte i ≡ true
right_bytes i h = and_right (nat_le 1 (length i) && nat_le (length i) 400) (list_all is_id_byte i) h

not_empty : is_id [] ≡ true → ⊥
not_empty h = true≢false (sym h)

-- no `/` is in it
no_slash : (a b : List ℕ) → is_id (a ++ 47 ∷ b) ≡ true → ⊥
no_slash a b h =
    let all = sym (list_all-append is_id_byte a (47 ∷ b)) ∙ right_bytes (a ++ 47 ∷ b) h in
    true≢false (sym (and_right (list_all is_id_byte a) (list_all is_id_byte (47 ∷ b)) all))

heads : (x y : ℕ) (a b : List ℕ) → x ∷ a ≡ y ∷ b → x ≡ y
heads x y a b h = cc

tails : (x y : ℕ) (a b : List ℕ) → x ∷ a ≡ y ∷ b → a ≡ b
tails x y a b h = cc

-- a text is cut at its last `/` in one way
cut : (q r i j : List ℕ) → is_id i ≡ true → is_id j ≡ true → q ++ 47 ∷ i ≡ r ++ 47 ∷ j → (q ≡ r) × (i ≡ j)
cut [] [] i j hi hj h = (refl, tails 47 47 i j h)
cut [] (y ∷ r) i j hi hj h = absurd (no_slash r j (ap is_id (sym (tails 47 y i (r ++ 47 ∷ j) h)) ∙ hi))
cut (x ∷ q) [] i j hi hj h = absurd (no_slash q i (ap is_id (tails x 47 (q ++ 47 ∷ i) j h) ∙ hj))
cut (x ∷ q) (y ∷ r) i j hi hj h =
    let rest = cut q r i j hi hj (tails x y (q ++ 47 ∷ i) (r ++ 47 ∷ j) h) in
    let first = heads x y (q ++ 47 ∷ i) (r ++ 47 ∷ j) h in
    (ap (λ z. z ∷ q) first ∙ ap (λ l. y ∷ l) rest.0, rest.1)

-- a path tells its scope's path and its id
pub path_in-same : (q r i j : List ℕ) → is_id i ≡ true → is_id j ≡ true → path_in q i ≡ path_in r j → (q ≡ r) × (i ≡ j)
path_in-same q r [] j hi hj h = absurd (not_empty hi)
path_in-same q r (x ∷ i) [] hi hj h = absurd (not_empty hj)
path_in-same [] [] (x ∷ i) (y ∷ j) hi hj h = (refl, h)
path_in-same [] (v ∷ r) (x ∷ i) (y ∷ j) hi hj h = absurd (no_slash (v ∷ r) (y ∷ j) (ap is_id (sym h) ∙ hi))
path_in-same (u ∷ q) [] (x ∷ i) (y ∷ j) hi hj h = absurd (no_slash (u ∷ q) (x ∷ i) (ap is_id h ∙ hj))
path_in-same (u ∷ q) (v ∷ r) (x ∷ i) (y ∷ j) hi hj h = cut (u ∷ q) (v ∷ r) (x ∷ i) (y ∷ j) hi hj h

path_in-not_empty : (q i : List ℕ) → is_id i ≡ true → path_in q i ≡ [] → ⊥
path_in-not_empty q [] hi h = not_empty hi
path_in-not_empty [] (x ∷ i) hi h = cc
path_in-not_empty (u ∷ q) (x ∷ i) hi h = cc

-- ---- one path, one construct

same_bytes : (a b : List ℕ) → bytes_eq a b ≡ true → a ≡ b
same_bytes a b h = (bytes_eq-Decides a b).0 h

bytes_eq-same : (a b : List ℕ) → a ≡ b → bytes_eq a b ≡ true
bytes_eq-same a b e = (bytes_eq-Decides a b).1 e

module _ (cs : List Placed) (sound : IsSound cs) (p : Placed) (m : ℕ) (within : m < length cs) (parent : p.parent ≡ Some m)
    (path : p.path ≡ path_in (construct_at cs m).path p.head.id) (right : is_id p.head.id ≡ true) where
  -- the construct of the path is a sibling of the id
  taken : (k : ℕ) → k < length cs → p.path ≡ (construct_at cs k).path → (o : Option ℕ) → (construct_at cs k).parent ≡ o → StandsIn cs k (construct_at cs k) o → (are_siblings p (construct_at cs k) && bytes_eq p.head.id (construct_at cs k).head.id) ≡ true
  taken k inside same None at stands = absurd (path_in-not_empty (construct_at cs m).path p.head.id right (sym path ∙ same ∙ stands))
  taken k inside same (Some l) at stands =
      let q = construct_at cs k in
      let both = path_in-same (construct_at cs m).path (construct_at cs l).path p.head.id q.head.id right stands.1.1 (sym path ∙ same ∙ stands.1.0) in
      let one : m ≡ l = sound.apart m l within (omega arith) both.0 in
      and_both (are_siblings p q) (bytes_eq p.head.id q.head.id) (siblings q l one at) (bytes_eq-same p.head.id q.head.id both.1)
    where
      siblings : (q : Placed) (l : ℕ) → m ≡ l → q.parent ≡ Some l → option_eq nat_eq p.parent q.parent ≡ true
      siblings q l one at = rw (parent, at, one) (eq-eqb l l refl)

  -- a sibling of the id has the path
  named : (k : ℕ) → k < length cs → (are_siblings p (construct_at cs k) && bytes_eq p.head.id (construct_at cs k).head.id) ≡ true → (o : Option ℕ) → (construct_at cs k).parent ≡ o → StandsIn cs k (construct_at cs k) o → bytes_eq p.path (construct_at cs k).path ≡ true
  named k inside both None at stands =
      let q = construct_at cs k in
      let kin : option_eq nat_eq p.parent q.parent ≡ true = and_left (are_siblings p q) (bytes_eq p.head.id q.head.id) both in
      absurd (true≢false (sym kin ∙ ap (λ o. option_eq nat_eq o q.parent) parent ∙ ap (option_eq nat_eq (Some m)) at))
  named k inside both (Some l) at stands =
      let q = construct_at cs k in
      let kin : option_eq nat_eq p.parent q.parent ≡ true = and_left (are_siblings p q) (bytes_eq p.head.id q.head.id) both in
      let one : m ≡ l = eqb-true m l (sym (ap (λ o. option_eq nat_eq o q.parent) parent ∙ ap (option_eq nat_eq (Some m)) at) ∙ kin) in
      let ids : p.head.id ≡ q.head.id = same_bytes p.head.id q.head.id (and_right (are_siblings p q) (bytes_eq p.head.id q.head.id) both) in
      bytes_eq-same p.path q.path (path ∙ ap (λ n. path_in (construct_at cs n).path p.head.id) one ∙ ap (path_in (construct_at cs l).path) ids ∙ sym stands.1.0)

  -- so the test of paths is the test of ids
  from_path : list_any (λ c. bytes_eq p.path c.path) cs ≡ true → has_taken_id cs p ≡ true
  from_path h =
      let found = Any-from_list_any (λ c. bytes_eq p.path c.path) cs h in
      let k = found.0 in
      let here : construct_at cs k ≡ found.1 = get_or_default cs k nowhere found.1 found.2 ∙ found.3 in
      let same : p.path ≡ (construct_at cs k).path = same_bytes p.path found.1.path found.4 ∙ ap (λ (c : Placed). c.path) (sym here) in
      list_any_at (λ q. are_siblings p q && bytes_eq p.head.id q.head.id) cs k nowhere found.2
      (taken k found.2 same (construct_at cs k).parent refl (sound.stands k found.2))

  from_id : has_taken_id cs p ≡ true → list_any (λ c. bytes_eq p.path c.path) cs ≡ true
  from_id h =
      let test : Placed → Bool = λ q. are_siblings p q && bytes_eq p.head.id q.head.id in
      let found = Any-from_list_any test cs h in
      let k = found.0 in
      let here : construct_at cs k ≡ found.1 = get_or_default cs k nowhere found.1 found.2 ∙ found.3 in
      let both : test (construct_at cs k) ≡ true = ap test here ∙ found.4 in
      list_any_at (λ c. bytes_eq p.path c.path) cs k nowhere found.2
      (named k found.2 both (construct_at cs k).parent refl (sound.stands k found.2))

  pub taken-paths : list_any (λ c. bytes_eq p.path c.path) cs ≡ has_taken_id cs p
  taken-paths = both_ways (list_any (λ c. bytes_eq p.path c.path) cs) (has_taken_id cs p) from_path from_id

  -- where the path is new, no construct has it
  pub new_path : list_any (λ c. bytes_eq p.path c.path) cs ≡ false → (k : ℕ) → k < length cs → p.path ≡ (construct_at cs k).path → ⊥
  new_path none k inside same = true≢false (sym (list_any_at (λ c. bytes_eq p.path c.path) cs k nowhere inside (bytes_eq-same p.path (construct_at cs k).path same)) ∙ none)
