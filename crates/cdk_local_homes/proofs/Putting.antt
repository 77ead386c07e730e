-- What is spelled once a target is put, and once each construct and each token was looked at.
use Rattle.std.proofs.Common.{◌≡◌, ◌≤◌, ℕ, ◌+◌, List, [], ◌∷◌, ◌++◌, length, Bool, true, false, true≢false, Option, Some, None, refl, sym, ap, ap₂, ◌∙◌, subst, inl, inr, arith}
use Rattle.std.specs.Prelude.{◌&&◌, ◌||◌, ◌==◌, bytes_eq, is_some, slice_get, take}
use Rattle.std.specs.Option.{option_map, option_or}
use Rattle.std.proofs.lemmas.Bool.{cases_lt, eq-eqb, eqb-true}
use Rattle.std.proofs.lemmas.List.{get_or_past, take_more}
use Rattle.std.proofs.lemmas.List.Folds.{list_any-append}
use Rattle.std.proofs.lemmas.Option.{get_or_from_slice_get, slice_get_within}
use Rattle.std.proofs.lemmas.Slice.Eq.{bytes_eq-Decides}
use Rattle.cdk_elements.specs.Elements.{logical_of}
use Rattle.cdk_homes.proofs.EntryLemmas.{others_keep_theirs, put_is_spelled}
use Rattle.cdk_homes.specs.Homes.{Entry, spelled}
use Rattle.cdk_homes.specs.declared.target.Home.{Home}
use Rattle.cdk_homes.specs.declared.target.Home.TheVariants as ways
use Rattle.cdk_local_homes.specs.Local.{AreLocal, attribute_in, has_attribute, HasElementsBelow, is_attribute, local_spelling, PutsOnce, target_of}
use Rattle.cdk_tokens.specs.Token.{Token}
use Rattle.cdk_tree.proofs.Tests.{same_some}
use Rattle.cdk_tree.specs.PlaceFindings.{is_element}
use Rattle.cdk_tree.specs.Placed.{construct_at, nowhere, Placed}

-- the first tokens, and the next
pub taken : (ts : List Token) (n : ℕ) (t : Token) → Some t ≡ slice_get ts n → take (n + 1) ts ≡ take n ts ++ t ∷ []
taken ts n t at = take_more ts n t (slice_get_within ts n t (sym at)) ∙ ap (λ u. take n ts ++ u ∷ []) (get_or_from_slice_get ts n t t (sym at))

-- ---- one target

stays : (o : Option (List ℕ × Home)) (s : List ℕ × Home) → is_some o ≡ true → o ≡ option_or o (Some s)
stays None s is = absurd (true≢false (sym is))
stays (Some r) s is = refl

-- it is spelled already
pub puts_nothing : (es : List Entry) (stack at : ℕ) (attribute : Option (List ℕ)) (name : List ℕ) → is_some (spelled es stack at attribute) ≡ true → PutsOnce es es stack at attribute name
puts_nothing es stack at attribute name is = record { there = stays (spelled es stack at attribute) (name, ways.Local) is; others = λ c n t apart. refl }

-- it isn't spelled yet
pub puts_new : (old new : List Entry) (stack at : ℕ) (attribute : Option (List ℕ)) (name : List ℕ) → spelled old stack at attribute ≡ None
    → new ≡ old ++ record { consumer = stack; at = at; attribute = attribute; name = name; how = ways.Local } ∷ [] → PutsOnce old new stack at attribute name
puts_new old new stack at attribute name none grown =
    let e : Entry = record { consumer = stack; at = at; attribute = attribute; name = name; how = ways.Local } in record {
      there = ap (λ es. spelled es stack at attribute) grown ∙ put_is_spelled old e none ∙ sym (ap (λ o. option_or o (Some (name, ways.Local))) none);
      others = λ c n t apart. ap (λ es. spelled es c n t) grown ∙ others_keep_theirs old e c n t apart;
    }

-- ---- elements

pub no_elements : (es : List Entry) (cs : List Placed) (stack : ℕ) → es ≡ [] → HasElementsBelow es cs stack 0
no_elements es cs stack none = record {
  elements = λ n low. absurd (omega (arith, low));
  later = λ n high. ap (λ xs. spelled xs stack n None) none;
  attributes = λ n a. ap (λ xs. spelled xs stack n (Some a)) none;
  others = λ c n t apart. ap (λ xs. spelled xs c n t) none;
}

no_text : {A : Type 0} (a : List ℕ) → None ≡ Some a → A
no_text a e = absurd (cc e)

module _ (cs : List Placed) (stack at : ℕ) where
  -- of an element
  pub element_put : (old new : List Entry) (name : List ℕ) → name ≡ logical_of cs at → is_element (construct_at cs at).body ≡ true → HasElementsBelow old cs stack at → PutsOnce old new stack at None name
      → HasElementsBelow new cs stack (at + 1)
  element_put old new name named is has puts =
      let here : spelled new stack at None ≡ local_spelling cs at (is_element (construct_at cs at).body) =
      puts.there ∙ ap₂ (λ o s. option_or o (Some (s, ways.Local))) (has.later at (omega arith)) named ∙ sym (ap (local_spelling cs at) is) in
      record {
        elements = λ n low. elim (cases_lt n at) [
          | inl before ↦ puts.others stack n None (λ h. omega (arith, h.1, before)) ∙ has.elements n before
          | inr after ↦
              let same : at ≡ n = omega (arith, low, after) in subst (λ (m : ℕ). spelled new stack m None ≡ local_spelling cs m (is_element (construct_at cs m).body)) same here
        ];
        later = λ n high. puts.others stack n None (λ h. omega (arith, h.1, high)) ∙ has.later n (omega (arith, high));
        attributes = λ n a. puts.others stack n (Some a) (λ h. no_text a h.2) ∙ has.attributes n a;
        others = λ c n t apart. puts.others c n t (λ h. apart (sym h.0)) ∙ has.others c n t apart;
      }

  -- of another construct
  pub element_passed : (es : List Entry) → is_element (construct_at cs at).body ≡ false → HasElementsBelow es cs stack at → HasElementsBelow es cs stack (at + 1)
  element_passed es is has =
      let here : spelled es stack at None ≡ local_spelling cs at (is_element (construct_at cs at).body) = has.later at (omega arith) ∙ sym (ap (local_spelling cs at) is) in
      record {
        elements = λ n low. elim (cases_lt n at) [
          | inl before ↦ has.elements n before
          | inr after ↦
              let same : at ≡ n = omega (arith, low, after) in subst (λ (m : ℕ). spelled es stack m None ≡ local_spelling cs m (is_element (construct_at cs m).body)) same here
        ];
        later = λ n high. has.later n (omega (arith, high));
        attributes = has.attributes;
        others = has.others;
      }

-- all constructs were looked at
pub all_elements : (es : List Entry) (cs : List Placed) (stack end : ℕ) → end ≡ length cs → HasElementsBelow es cs stack end → AreLocal es cs [] stack
all_elements es cs stack end all has = record {
  elements = λ n. elim (cases_lt n end) [
    | inl before ↦ has.elements n before
    | inr after ↦
        let past : length cs ≤ n = omega (arith, all, after) in
        has.later n after ∙ sym (ap (λ (c : Placed). local_spelling cs n (is_element c.body)) (get_or_past cs n nowhere past))
  ];
  attributes = has.attributes;
  others = has.others;
}

-- ---- attributes

same_pair : (m n : ℕ) (b a : List ℕ) → (m == n && bytes_eq b a) ≡ true → (m ≡ n) × (b ≡ a)
same_pair m n b a h = at (m == n) (bytes_eq b a) refl refl h
  where
    at : (p q : Bool) → (m == n) ≡ p → bytes_eq b a ≡ q → (p && q) ≡ true → (m ≡ n) × (b ≡ a)
    at true true e f h = (eqb-true m n e, (bytes_eq-Decides b a).0 f)
    at true false e f h = absurd (true≢false (sym h))
    at false q e f h = absurd (true≢false (sym h))

pub pair_same : (n : ℕ) (a : List ℕ) → (n == n && bytes_eq a a) ≡ true
pair_same n a = ap₂ (λ p q. p && q) (eq-eqb n n refl) ((bytes_eq-Decides a a).1 refl)

same_text : (b a : List ℕ) → Some b ≡ Some a → b ≡ a
same_text b a h = cc

not_both : (m n : ℕ) (b a : List ℕ) → (m == n && bytes_eq b a) ≡ false → m ≡ n → Some b ≡ Some a → ⊥
not_both m n b a e f g = true≢false (sym (pair_same m b) ∙ ap₂ (λ k s. m == k && bytes_eq b s) f (same_text b a g) ∙ e)

nothing_there : (o : Option (ℕ × List ℕ)) → None ≡ option_map target_of o → None ≡ o
nothing_there None is = refl
nothing_there (Some p) is = absurd (cc is)

-- of one token more
has_more : (ts : List Token) (t : Token) (n : ℕ) (a : List ℕ) (q : Bool) → is_attribute n a (attribute_in t.form) ≡ q → has_attribute (ts ++ t ∷ []) n a ≡ (has_attribute ts n a || (q || false))
has_more ts t n a q e = list_any-append (λ u. is_attribute n a (attribute_in u.form)) ts (t ∷ []) ∙ ap (λ b. has_attribute ts n a || (b || false)) e

or_none : (b : Bool) → (b || (false || false)) ≡ b
or_none true = refl
or_none false = refl

or_one : (cs : List Placed) (n : ℕ) (b : Bool) → option_or (local_spelling cs n b) (Some (logical_of cs n, ways.Local)) ≡ local_spelling cs n (b || (true || false))
or_one cs n true = refl
or_one cs n false = refl

module _ (cs : List Placed) (ts : List Token) (stack : ℕ) (t : Token) where
  -- of a token that is an attribute
  pub attribute_put : (old new : List Entry) (m : ℕ) (b name : List ℕ) → Some (m, b) ≡ attribute_in t.form → name ≡ logical_of cs m → PutsOnce old new stack m (Some b) name → AreLocal old cs ts stack
      → AreLocal new cs (ts ++ t ∷ []) stack
  attribute_put old new m b name is named puts are = record {
    elements = λ n. puts.others stack n None (λ h. no_text b (sym h.2)) ∙ are.elements n;
    attributes = λ n a. at n a (m == n && bytes_eq b a) refl;
    others = λ c n s apart. puts.others c n s (λ h. apart (sym h.0)) ∙ are.others c n s apart;
  }
    where
      own : spelled new stack m (Some b) ≡ local_spelling cs m (has_attribute ts m b || (true || false))
      own = puts.there ∙ ap₂ (λ o s. option_or o (Some (s, ways.Local))) (are.attributes m b) named ∙ or_one cs m (has_attribute ts m b)

      at : (n : ℕ) (a : List ℕ) (q : Bool) → (m == n && bytes_eq b a) ≡ q → spelled new stack n (Some a) ≡ local_spelling cs n (has_attribute (ts ++ t ∷ []) n a)
      at n a true e =
          let same = same_pair m n b a e in
          let told : is_attribute n a (attribute_in t.form) ≡ true = sym (ap (is_attribute n a) is) ∙ e in
          ap₂ (λ k s. spelled new stack k (Some s)) (sym same.0) (sym same.1) ∙ own
          ∙ ap₂ (λ k s. local_spelling cs k (has_attribute ts k s || (true || false))) same.0 same.1 ∙ sym (ap (local_spelling cs n) (has_more ts t n a true told))
      at n a false e =
          let told : is_attribute n a (attribute_in t.form) ≡ false = sym (ap (is_attribute n a) is) ∙ e in
          puts.others stack n (Some a) (λ h. not_both m n b a e h.1 h.2) ∙ are.attributes n a ∙ sym (ap (local_spelling cs n) (has_more ts t n a false told ∙ or_none (has_attribute ts n a)))

  put_by : (o : Option (ℕ × List ℕ)) → o ≡ attribute_in t.form → (old new : List Entry) (m : ℕ) (s : Option (List ℕ)) (name : List ℕ) → Some (m, s) ≡ option_map target_of o → name ≡ logical_of cs m
      → PutsOnce old new stack m s name → AreLocal old cs ts stack → AreLocal new cs (ts ++ t ∷ []) stack
  put_by None is old new m s name found named puts are = absurd (cc found)
  put_by (Some p) is old new m s name found named puts are =
      let both = same_some (m, s) (target_of p) found in
      let P : ℕ × Option (List ℕ) → Type 0 = λ q. (name ≡ logical_of cs q.0) → PutsOnce old new stack q.0 q.1 name → AreLocal new cs (ts ++ t ∷ []) stack in
      subst P (sym both) (λ n u. attribute_put old new p.0 p.1 name is n u are) named puts

  -- of what is spelled of the token
  pub target_put : (old new : List Entry) (m : ℕ) (s : Option (List ℕ)) (name : List ℕ) → Some (m, s) ≡ option_map target_of (attribute_in t.form) → name ≡ logical_of cs m
      → PutsOnce old new stack m s name → AreLocal old cs ts stack → AreLocal new cs (ts ++ t ∷ []) stack
  target_put = put_by (attribute_in t.form) refl

  -- of another one
  pub attribute_passed : (es : List Entry) → None ≡ option_map target_of (attribute_in t.form) → AreLocal es cs ts stack → AreLocal es cs (ts ++ t ∷ []) stack
  attribute_passed es is are = record {
    elements = are.elements;
    attributes = λ n a. are.attributes n a ∙ sym (ap (local_spelling cs n) (has_more ts t n a false (sym (ap (is_attribute n a) (nothing_there (attribute_in t.form) is))) ∙ or_none (has_attribute ts n a)));
    others = are.others;
  }
