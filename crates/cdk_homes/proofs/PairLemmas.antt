-- When two pairs of a consumer and a target are the same.
use Rattle.std.proofs.Common.{◌≡◌, ℕ, List, Bool, true, false, Option, Some, None, refl, ap}
use Rattle.std.specs.Prelude.{◌&&◌, ◌==◌}
use Rattle.std.proofs.lemmas.Bool.{eq-eqb, eqb-true}
use Rattle.std.proofs.lemmas.Slice.Eq.{bytes_eq-Decides}
use Rattle.cdk_homes.specs.Homes.{Entry, is_attribute, is_of, is_pair}

same_attribute : (s t : Option (List ℕ)) → is_attribute s t ≡ true → s ≡ t
same_attribute None None h = refl
same_attribute (Some x) (Some y) h = ap Some ((bytes_eq-Decides x y).0 h)
same_attribute None (Some y) h = cc
same_attribute (Some x) None h = cc

left_holds : (a b : Bool) → (a && b) ≡ true → a ≡ true
left_holds true b h = refl
left_holds false b h = cc

right_holds : (a b : Bool) → (a && b) ≡ true → b ≡ true
right_holds true b h = h
right_holds false b h = cc

-- the same consumer, construct and attribute
pub same_numbers : (x y : ℕ) (s : Option (List ℕ)) (c a : ℕ) (t : Option (List ℕ)) → is_pair x y s c a t ≡ true → (x ≡ c) × (y ≡ a) × (s ≡ t)
same_numbers x y s c a t h =
    let numbers = left_holds (x == c && y == a) (is_attribute s t) h in
    (eqb-true x c (left_holds (x == c) (y == a) numbers), eqb-true y a (right_holds (x == c) (y == a) numbers), same_attribute s t (right_holds (x == c && y == a) (is_attribute s t) h))

-- a pair is itself
pub same_pair : (e : Entry) → is_of e.consumer e.at e.attribute e ≡ true
same_pair e = both (e.consumer == e.consumer) (e.at == e.at) (is_attribute e.attribute e.attribute) (eq-eqb e.consumer e.consumer refl) (eq-eqb e.at e.at refl) (own_attribute e.attribute)
  where
    own_attribute : (t : Option (List ℕ)) → is_attribute t t ≡ true
    own_attribute None = refl
    own_attribute (Some x) = (bytes_eq-Decides x x).1 refl

    both : (a b d : Bool) → a ≡ true → b ≡ true → d ≡ true → ((a && b) && d) ≡ true
    both true true d h k l = l
    both true false d h k l = cc
    both false b d h k l = cc
