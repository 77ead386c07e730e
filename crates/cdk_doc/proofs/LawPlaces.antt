-- What a place without findings says of its value.
use Rattle.std.proofs.Common.{◌≡◌, ℕ, ◌+◌, ◌<◌, List, [], ◌∷◌, ◌++◌, map, not, Bool, true, false, cond, nat_lt, decimal, Option, Some, option_map, option_and_then, refl, ap, ◌∙◌}
use Rattle.std.specs.Prelude.{◌||◌, ◌&&◌}
use Rattle.std.proofs.lemmas.Bool.{lt-ltb}
use Rattle.serde_json.specs.Data.{Num, unsigned, negative, float, Data, null, boolean, number, string, array, object, Items, item, Members, member}
use Rattle.cdk_base.specs.Marker.{has_marker}
use Rattle.serde_json.specs.Find.{as_str, as_integer, as_number, as_u64, is_float}
use Rattle.cdk_base.specs.declared.code.Code.{Code}
use Rattle.cdk_language.specs.Findings.{when, own, here, under, place, inside, is_fraction, in_items, in_members}
use Rattle.cdk_language.specs.Schema.{is_wrong, is_no_such_text, item_role, member_role}
use Rattle.cdk_language.specs.declared.schema.Frame.{Frame}
use Rattle.cdk_language.specs.declared.finding.Finding.{Finding}
use Rattle.cdk_language.specs.declared.schema.Role.{Role}
use Rattle.cdk_language.specs.declared.schema.Role.TheVariants as roles

-- the option has something
abbrev pub Found : {A : Type 0} → Option A → Type 0
Found {A} o = (a : A) × (o ≡ Some a)

pub left_nil : {A B : Type 0} (f : A → B) (xs : List A) (ys : List B) → map f xs ++ ys ≡ [] → xs ≡ []
left_nil f [] ys e = refl
left_nil f (x ∷ xs) ys e = cc

pub right_nil : {A B : Type 0} (f : A → B) (xs : List A) (ys : List B) → map f xs ++ ys ≡ [] → ys ≡ []
right_nil f [] ys e = e
right_nil f (x ∷ xs) ys e = cc

when_nil : (b : Bool) (c : Code) (rest : List Code) → when b c ++ rest ≡ [] → (b ≡ false) × (rest ≡ [])
when_nil true c rest e = cc
when_nil false c rest e = (refl, e)

inner_nil : (b : Bool) (ins : List Finding) → cond b [] ins ≡ [] → b ≡ false → ins ≡ []
inner_nil true ins e f = cc
inner_nil false ins e f = e

-- nothing is found at the place or below
abbrev pub IsCleanAt : Bool → Role → Data → Type 0
IsCleanAt marked role d = place marked role d (inside role d) ≡ []

pub record Clean (role : Role) (d : Data) : Type 0 where
  pub right : is_wrong role d ≡ false
  pub whole : is_fraction d ≡ false
  pub deeper : inside role d ≡ []

pub clean : (marked : Bool) (role : Role) (d : Data) → IsCleanAt marked role d → Clean role d
clean marked role d e =
    let own_nil = left_nil here (own marked role d) _ e in
    let w = when_nil (is_wrong role d) _ _ own_nil in
    let f = when_nil (is_fraction d) _ _ w.1 in
    record { right = w.0; whole = f.0; deeper = inner_nil (is_wrong role d) (inside role d) (right_nil here (own marked role d) _ e) w.0 }

-- ---- parts

pub mapped : {A B : Type 0} (f : A → B) (o : Option A) → Found o → Found (option_map f o)
mapped f o h = (f h.0, ap (option_map f) h.1)

pub both : {A B C : Type 0} (f : A → B → C) (x : Option A) (y : Option B) → Found x → Found y → Found (option_and_then (λ a. option_map (f a) y) x)
both f x y h k = (f h.0 k.0, ap (option_and_then (λ a. option_map (f a) y)) h.1 ∙ ap (option_map (f h.0)) k.1)

pub then : {A B : Type 0} (f : A → Option B) (o : Option A) (h : Found o) → Found (f h.0) → Found (option_and_then f o)
then f o h k = (k.0, ap (option_and_then f) h.1 ∙ k.1)

pub along : {A : Type 0} (x y : Option A) → x ≡ y → Found y → Found x
along x y e h = (h.0, e ∙ h.1)

pub not_not : (b : Bool) → not b ≡ false → b ≡ true
not_not true h = refl
not_not false h = cc

pub or_false : (a b : Bool) → (a || b) ≡ false → (a ≡ false) × (b ≡ false)
or_false true b e = cc
or_false false b e = (refl, e)

pub and_true : (a b : Bool) → (a && b) ≡ true → (a ≡ true) × (b ≡ true)
and_true true b e = (refl, e)
and_true false b e = cc

pub false_true : {A : Type 0} (b : Bool) → b ≡ false → b ≡ true → A
false_true true e h = absurd (cc)
false_true false e h = absurd (cc)

-- more items than are allowed
pub too_many : {A : Type 0} (n low most : ℕ) → most < n → (nat_lt n low || nat_lt most n) ≡ false → A
too_many n low most h e = false_true (nat_lt most n) (or_false (nat_lt n low) (nat_lt most n) e).1 (lt-ltb most n h)

-- ---- values of their own

pub whole_found : (n : Num) → is_float n ≡ false → Found (as_integer n)
whole_found (unsigned n) h = (_, refl)
whole_found (negative z) h = (_, refl)
whole_found (float x) h = absurd (cc)

pub text_found : (marked : Bool) (d : Data) → IsCleanAt marked roles.Text d → Found (as_str d)
text_found marked (string s) e = (s, refl)
text_found marked null e = absurd (cc)
text_found marked (boolean b) e = absurd (cc)
text_found marked (number n) e = absurd (cc)
text_found marked (array ds) e = absurd (cc)
text_found marked (object ms) e = absurd (cc)

pub such_text_found : (test : List ℕ → Bool) (d : Data) → is_no_such_text test d ≡ false → (s : List ℕ) × (as_str d ≡ Some s) × (test s ≡ true)
such_text_found test (string s) h = (s, refl, not_not (test s) h)
such_text_found test null h = absurd (cc)
such_text_found test (boolean b) h = absurd (cc)
such_text_found test (number n) h = absurd (cc)
such_text_found test (array ds) h = absurd (cc)
such_text_found test (object ms) h = absurd (cc)

pub index_found : (marked : Bool) (d : Data) → IsCleanAt marked roles.Index d → Found (option_and_then as_u64 (as_number d))
index_found marked (number (unsigned n)) e = (n, refl)
index_found marked (number (negative z)) e = absurd (cc)
index_found marked (number (float x)) e = absurd (cc)
index_found marked null e = absurd (cc)
index_found marked (boolean b) e = absurd (cc)
index_found marked (string s) e = absurd (cc)
index_found marked (array ds) e = absurd (cc)
index_found marked (object ms) e = absurd (cc)

-- ---- by a key

-- a choice by a test, whose role is chosen by the same test
pub by_test : {X : Type 0} (b marked : Bool) (role rest_role : Role) (d : Data) (x rest : Option X)
    → (IsCleanAt marked role d → Found x) → (IsCleanAt marked rest_role d → Found rest) → IsCleanAt marked (cond b role rest_role) d → Found (cond b x rest)
by_test true marked role rest_role d x rest f g e = f e
by_test false marked role rest_role d x rest f g e = g e

pub nothing_there : {A : Type 0} (marked : Bool) (d : Data) → IsCleanAt marked roles.Nothing d → A
nothing_there marked d e = absurd (cc)

-- ---- items and members

pub first_item : (role : Role) (n : ℕ) (d : Data) (ds : Items) → in_items role n (item d ds) ≡ [] → IsCleanAt false (item_role role n) d
first_item role n d ds e = left_nil (under (decimal n)) (place false (item_role role n) d (inside (item_role role n) d)) (in_items role (n + 1) ds) e

pub rest_items : (role : Role) (n : ℕ) (d : Data) (ds : Items) → in_items role n (item d ds) ≡ [] → in_items role (n + 1) ds ≡ []
rest_items role n d ds e = right_nil (under (decimal n)) (place false (item_role role n) d (inside (item_role role n) d)) (in_items role (n + 1) ds) e

pub first_member : (frame : Frame) (k : List ℕ) (d : Data) (ms : Members) → in_members frame (member k d ms) ≡ [] → IsCleanAt (has_marker k) (member_role frame k) d
first_member frame k d ms e = left_nil (under k) (place (has_marker k) (member_role frame k) d (inside (member_role frame k) d)) (in_members frame ms) e

pub rest_members : (frame : Frame) (k : List ℕ) (d : Data) (ms : Members) → in_members frame (member k d ms) ≡ [] → in_members frame ms ≡ []
rest_members frame k d ms e = right_nil (under k) (place (has_marker k) (member_role frame k) d (inside (member_role frame k) d)) (in_members frame ms) e
