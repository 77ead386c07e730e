-- Places by two numbers, and by an attribute's text.
use Rattle.std.proofs.Common.{◌≡◌, ℕ, List, Bool, true, false, cond, Option, Some, None, option_and_then, String, Global, refl, sym, ap, ◌∙◌}
use Rattle.std.specs.Prelude.{◌&&◌, ◌==◌}
use Rattle.std.specs.declared.cmp.Ordering.{Ordering}
use Rattle.std.specs.declared.cmp.Ordering.TheVariants.{Less, Equal, Greater}
use Rattle.std.specs.Ordering.{nat_cmp, is_eq, ordering_then}
use Rattle.std.specs.Cmp.{unsigned_ties}
use Rattle.std.specs.Str.{bytes_eq}
use Rattle.std.specs.BTreeMap.{BTreeMap, get_by_text}
use Rattle.std.proofs.lemmas.Slice.Eq.{bytes_eq-Decides}
use Rattle.cdk_homes.specs.Homes.{is_pair}
use Rattle.cdk_homes.specs.Places.{place_in, place_of}
use Rattle.cdk_homes.specs.declared.index.Index.{Index}
use Rattle.cdk_homes.specs.declared.places.Places.{Places}

is_eq-then : (o p : Ordering) → is_eq (ordering_then o p) ≡ (is_eq o && is_eq p)
is_eq-then Less p = refl
is_eq-then Equal p = refl
is_eq-then Greater p = refl

-- keys are the same where both numbers are
pub same_key : (x y c a : ℕ) → is_eq (ordering_then (nat_cmp x c) (nat_cmp y a)) ≡ (x == c && y == a)
same_key x y c a =
    is_eq-then (nat_cmp x c) (nat_cmp y a) ∙ ap (λ b. b && is_eq (nat_cmp y a)) (sym (unsigned_ties x c)) ∙ ap (λ b. x == c && b) (sym (unsigned_ties y a))

-- no reference is an attribute
never : {X : Type 0} (g : Bool) (x y : X) → y ≡ cond (g && false) x y
never true x y = refl
never false x y = refl

-- what is found in a map of which one text has the new w, where what was found there before was `old`
attribute_set : {X : Type 0} (f : X → Option ℕ) (b g : Bool) (o : Option X) (w : X) (x old : Option ℕ) → (b ≡ true → option_and_then f o ≡ old) → f w ≡ cond g x old → option_and_then f (cond b (Some w) o) ≡ cond (g && b) x (option_and_then f o)
attribute_set f true true o w x old h e = e
attribute_set f true false o w x old h e = e ∙ sym (h refl)
attribute_set f false true o w x old h e = refl
attribute_set f false false o w x old h e = refl

-- the same where nothing is new
attribute_kept : {X : Type 0} (f : X → Option ℕ) (b : Bool) (o : Option X) (w : X) (old : Option ℕ) → (b ≡ true → option_and_then f o ≡ old) → f w ≡ old → option_and_then f (cond b (Some w) o) ≡ option_and_then f o
attribute_kept f true o w old h e = e ∙ sym (h refl)
attribute_kept f false o w old h e = refl

-- an index with the attributes m, of which one text has the places w
abbrev pub with_attributes : Index → BTreeMap (String Global) Places → Index
with_attributes i m = record { alloc = i.alloc; references = i.references; attributes = m }

-- where w has what was there before and one place more
pub text_put : (i : Index) (m : BTreeMap (String Global) Places) (w : Places) (text : List ℕ) (x y place : ℕ) (before : ℕ → ℕ → Option ℕ)
    → ((q : List ℕ) → get_by_text m q ≡ cond (bytes_eq text q) (Some w) (get_by_text i.attributes q))
    → ((c a : ℕ) → option_and_then (λ p. place_of p c a) (get_by_text i.attributes text) ≡ before c a)
    → ((c a : ℕ) → place_of w c a ≡ cond (x == c && y == a) (Some place) (before c a))
    → (c a : ℕ) (t : Option (List ℕ)) → place_in (with_attributes i m) c a t ≡ cond (is_pair x y (Some text) c a t) (Some place) (place_in i c a t)
text_put i m w text x y place before updates was new c a None = never (x == c && y == a) (Some place) (place_of i.references c a)
text_put i m w text x y place before updates was new c a (Some q) =
    let f : Places → Option ℕ = λ p. place_of p c a in
    ap (option_and_then f) (updates q)
    ∙ attribute_set f (bytes_eq text q) (x == c && y == a) (get_by_text i.attributes q) w (Some place) (before c a)
    (λ same. ap (λ k. option_and_then f (get_by_text i.attributes k)) (sym ((bytes_eq-Decides text q).0 same)) ∙ was c a) (new c a)

-- where w has what was there before
pub text_kept : (i : Index) (m : BTreeMap (String Global) Places) (w : Places) (text : List ℕ) (before : ℕ → ℕ → Option ℕ)
    → ((q : List ℕ) → get_by_text m q ≡ cond (bytes_eq text q) (Some w) (get_by_text i.attributes q))
    → ((c a : ℕ) → option_and_then (λ p. place_of p c a) (get_by_text i.attributes text) ≡ before c a)
    → ((c a : ℕ) → place_of w c a ≡ before c a)
    → (c a : ℕ) (t : Option (List ℕ)) → place_in (with_attributes i m) c a t ≡ place_in i c a t
text_kept i m w text before updates was new c a None = refl
text_kept i m w text before updates was new c a (Some q) =
    let f : Places → Option ℕ = λ p. place_of p c a in
    ap (option_and_then f) (updates q)
    ∙ attribute_kept f (bytes_eq text q) (get_by_text i.attributes q) w (before c a)
    (λ same. ap (λ k. option_and_then f (get_by_text i.attributes k)) (sym ((bytes_eq-Decides text q).0 same)) ∙ was c a) (new c a)
