-- What stacks one after another export.
use Rattle.std.proofs.Common.{◌≡◌, ℕ, List, [], ◌∷◌, Bool, true, false, ◌||◌, Option, Some, None, refl, sym, ap, ◌∙◌, subst, inl, inr}
use Rattle.std.specs.Prelude.{bytes_eq, codes, if◌then◌else◌, filter_map, option_map, option_and_then}
use Rattle.std.specs.Option.{option_or}
use Rattle.std.specs.List.{cons_option}
use Rattle.std.specs.Ordering.{nat_cmp, match_ordering}
use Rattle.std.specs.Cmp.Lexicographic.{slice_cmp}
use Rattle.std.specs.declared.cmp.Ordering.{Ordering}
use Rattle.std.specs.declared.cmp.Ordering.TheVariants.{Less, Equal, Greater}
use Rattle.serde_json.specs.Data.{Data, null, boolean, number, string, array, object, Members, no_members, member}
use Rattle.serde_json.specs.Find.{get_member, as_str}
use Rattle.cdk_eval.specs.Values.{Values}
use Rattle.cdk_eval.specs.Outcomes.{Truth, OutputOutcome, OutputText, OutputNotMade, OutputFault}
use Rattle.cdk_eval.specs.Template.{Scope, outcome}
use Rattle.cdk_eval.specs.Reach.{is_among}
use Rattle.cdk_eval.specs.Sections.{section, presence, scope}
use Rattle.cdk_eval.specs.Stack.{Stack, text_outcome, output_at, export_entry, export_entries, lookup, stack_outcome, stack_exports, exports_after}
use Rattle.cdk_eval.specs.Assembly.{entries, literal_name, literal_names}
use Rattle.cdk_meaning.specs.Names.{AreDistinct, IsIn, Each}
use Rattle.cdk_meaning.specs.AssemblyKept.{exports_left, StacksFollow, IsLiteralName, name_of, NamesAreLiteral}
use Rattle.cdk_meaning.proofs.Joins.{bytes_same}
use Rattle.cdk_meaning.proofs.NameLists.{same_bytes, neither, or_right, has_append, distinct_front, distinct_back, apart, apart_back}

pub stacks_follow : StacksFollow
stacks_follow v exports [] s later = refl
stacks_follow v exports (b ∷ before) s later = ap (λ os. stack_outcome v exports b ∷ os) (stacks_follow v (exports_after v exports b) before s later)

-- ---- one output

abbrev pub told : OutputOutcome → Option (List ℕ)
told (OutputText t) = Some t
told OutputNotMade = None
told (OutputFault f) = None

no_export : (o : OutputOutcome) (xs : List (List ℕ × List ℕ)) → export_entry o None xs ≡ xs
no_export (OutputText t) xs = refl
no_export OutputNotMade xs = refl
no_export (OutputFault f) xs = refl

export_here : (e : List ℕ) (o : OutputOutcome) (xs : List (List ℕ × List ℕ)) → lookup e xs ≡ None → lookup e (export_entry o (Some (OutputText e)) xs) ≡ told o
export_here e (OutputText t) xs h = ap (λ b. if b then Some t else lookup e xs) (same_bytes e)
export_here e OutputNotMade xs h = h
export_here e (OutputFault f) xs h = h

export_other : (e n : List ℕ) (o : OutputOutcome) (xs : List (List ℕ × List ℕ)) → bytes_eq e n ≡ false → lookup e (export_entry o (Some (OutputText n)) xs) ≡ lookup e xs
export_other e n (OutputText t) xs h = ap (λ b. if b then Some t else lookup e xs) h
export_other e n OutputNotMade xs h = refl
export_other e n (OutputFault f) xs h = refl

-- a literal name is what it is
name_told : (s : Scope) (x : Option Data) → IsLiteralName x → option_map (λ n. text_outcome (outcome s n)) x ≡ option_map OutputText (option_and_then as_str x)
name_told s None h = refl
name_told s (Some (string n)) h = refl
name_told s (Some null) h = absurd h
name_told s (Some (boolean b)) h = absurd h
name_told s (Some (number n)) h = absurd h
name_told s (Some (array ds)) h = absurd h
name_told s (Some (object ms)) h = absurd h

-- ---- the outputs of one stack

abbrev names_in : List Data → List (List ℕ)
names_in os = filter_map literal_name os

pub is_exported_name : (e : List ℕ) (o : Data) (os : List Data) → IsIn o os → literal_name o ≡ Some e → is_among e (names_in os) ≡ true
is_exported_name e o [] i h = absurd i
is_exported_name e o (q ∷ os) (inl same) h =
    ap (λ n. is_among e (cons_option n (names_in os))) (ap literal_name same ∙ h) ∙ ap (λ b. b || is_among e (names_in os)) (same_bytes e)
is_exported_name e o (q ∷ os) (inr i) h = at (literal_name q) (is_exported_name e o os i h)
  where
    at : (n : Option (List ℕ)) → is_among e (names_in os) ≡ true → is_among e (cons_option n (names_in os)) ≡ true
    at None g = g
    at (Some n) g = or_right (bytes_eq e n) (is_among e (names_in os)) g

module _ (there : Data → Truth) (s : Scope) where
  abbrev Exports : Members → List (List ℕ × List ℕ)
  Exports ms = export_entries there s ms

  not_exported : (e : List ℕ) (ms : Members) → Each (λ o. IsLiteralName (name_of o)) (entries ms) → is_among e (names_in (entries ms)) ≡ false → lookup e (Exports ms) ≡ None
  not_exported e no_members w h = refl
  not_exported e (member k q ms) w h =
      ap (λ n. lookup e (export_entry (output_at (there q) s q) n (Exports ms))) (name_told s (name_of q) w.0) ∙ at (literal_name q) h (not_exported e ms w.1)
    where
      at : (n : Option (List ℕ)) → is_among e (cons_option n (names_in (entries ms))) ≡ false → (is_among e (names_in (entries ms)) ≡ false → lookup e (Exports ms) ≡ None) → lookup e (export_entry (output_at (there q) s q) (option_map OutputText n) (Exports ms)) ≡ None
      at None g later = ap (lookup e) (no_export (output_at (there q) s q) (Exports ms)) ∙ later g
      at (Some n) g later = let p = neither (bytes_eq e n) (is_among e (names_in (entries ms))) g in export_other e n (output_at (there q) s q) (Exports ms) p.0 ∙ later p.1

  exported : (e : List ℕ) (o : Data) (ms : Members) → Each (λ p. IsLiteralName (name_of p)) (entries ms) → AreDistinct (names_in (entries ms)) → IsIn o (entries ms) → literal_name o ≡ Some e → lookup e (Exports ms) ≡ told (output_at (there o) s o)
  exported e o no_members w d i h = absurd i
  exported e o (member k q ms) w d (inl same) h =
      let named : literal_name q ≡ Some e = ap literal_name same ∙ h in
      let d' : AreDistinct (e ∷ names_in (entries ms)) = subst (λ (n : Option (List ℕ)). AreDistinct (cons_option n (names_in (entries ms)))) named d in
      ap (λ n. lookup e (export_entry (output_at (there q) s q) n (Exports ms))) (name_told s (name_of q) w.0 ∙ ap (option_map OutputText) named)
      ∙ export_here e (output_at (there q) s q) (Exports ms) (not_exported e ms w.1 d'.0) ∙ ap (λ p. told (output_at (there p) s p)) same
  exported e o (member k q ms) w d (inr i) h =
      ap (λ n. lookup e (export_entry (output_at (there q) s q) n (Exports ms))) (name_told s (name_of q) w.0) ∙ at (literal_name q) d (λ g. exported e o ms w.1 g i h)
    where
      at : (n : Option (List ℕ)) → AreDistinct (cons_option n (names_in (entries ms))) → (AreDistinct (names_in (entries ms)) → lookup e (Exports ms) ≡ told (output_at (there o) s o)) → lookup e (export_entry (output_at (there q) s q) (option_map OutputText n) (Exports ms)) ≡ told (output_at (there o) s o)
      at None g later = ap (lookup e) (no_export (output_at (there q) s q) (Exports ms)) ∙ later g
      at (Some n) g later = export_other e n (output_at (there q) s q) (Exports ms) (other (bytes_eq e n) refl) ∙ later g.1
        where
          other : (b : Bool) → bytes_eq e n ≡ b → b ≡ false
          other false same = refl
          other true same =
              let t : is_among e (names_in (entries ms)) ≡ true = is_exported_name e o (entries ms) i h in
              let f : is_among e (names_in (entries ms)) ≡ false = ap (λ m. is_among m (names_in (entries ms))) (bytes_same e n same) ∙ g.0 in
              cc (t, f)

-- ---- stacks one after another

abbrev pub own_names : Stack → List (List ℕ)
own_names s = names_in (entries (section (codes "Outputs") s.template))

pub named_in : (e : List ℕ) (o : Data) (p : Stack) (ss : List Stack) → IsIn p ss → IsIn o (entries (section (codes "Outputs") p.template)) → literal_name o ≡ Some e → is_among e (literal_names ss) ≡ true
named_in e o p [] h i n = absurd h
named_in e o p (s ∷ ss) (inl h) i n =
    let j : IsIn o (entries (section (codes "Outputs") s.template)) = subst (λ (q : Stack). IsIn o (entries (section (codes "Outputs") q.template))) (sym h) i in
    has_append e (own_names s) (literal_names ss) ∙ ap (λ b. b || is_among e (literal_names ss)) (is_exported_name e o (entries (section (codes "Outputs") s.template)) j n)
named_in e o p (s ∷ ss) (inr h) i n = has_append e (own_names s) (literal_names ss) ∙ or_right (is_among e (own_names s)) (is_among e (literal_names ss)) (named_in e o p ss h i n)

or_none : (o : Option (List ℕ)) → option_or o None ≡ o
or_none None = refl
or_none (Some x) = refl

module _ (v : Values) where
  abbrev exports_of : (List ℕ → Option (List ℕ)) → Stack → List (List ℕ × List ℕ)
  exports_of xs s = stack_exports v xs s

  -- stacks that don't export the name leave it as it was
  pub left_by_others : (e : List ℕ) (xs : List ℕ → Option (List ℕ)) (ss : List Stack) → Each NamesAreLiteral ss → is_among e (literal_names ss) ≡ false → exports_left v xs ss e ≡ xs e
  left_by_others e xs [] w h = refl
  left_by_others e xs (s ∷ ss) w h =
      let no_name = neither (is_among e (own_names s)) (is_among e (literal_names ss)) (sym (has_append e (own_names s) (literal_names ss)) ∙ h) in
      left_by_others e (exports_after v xs s) ss w.1 no_name.1
      ∙ ap (option_or (xs e)) (not_exported (presence v s.name s.template) (scope v s.name s.template xs) e (section (codes "Outputs") s.template) w.0 no_name.0)
      ∙ or_none (xs e)

  left_here : (e : List ℕ) (told_text : Option (List ℕ)) (o : Data) (p : Stack) (ss : List Stack) (xs : List ℕ → Option (List ℕ)) → Each NamesAreLiteral (p ∷ ss) → AreDistinct (literal_names (p ∷ ss)) → xs e ≡ None
      → IsIn o (entries (section (codes "Outputs") p.template)) → literal_name o ≡ Some e → ((ys : List ℕ → Option (List ℕ)) → told (output_at (presence v p.name p.template o) (scope v p.name p.template ys) o) ≡ told_text) → exports_left v xs (p ∷ ss) e ≡ told_text
  left_here e t o p ss xs w d free i n says =
      let os = entries (section (codes "Outputs") p.template) in
      left_by_others e (exports_after v xs p) ss w.1 (apart e (own_names p) (literal_names ss) d (is_exported_name e o os i n))
      ∙ ap (λ x. option_or x (lookup e (exports_of xs p))) free
      ∙ exported (presence v p.name p.template) (scope v p.name p.template xs) e o (section (codes "Outputs") p.template) w.0 (distinct_front (own_names p) (literal_names ss) d) i n
      ∙ says xs

  -- an output of one of the stacks, whose text doesn't turn on the exports
  pub left_by_one : (e : List ℕ) (told_text : Option (List ℕ)) (o : Data) (p : Stack) (ss : List Stack) (xs : List ℕ → Option (List ℕ)) → Each NamesAreLiteral ss → AreDistinct (literal_names ss) → xs e ≡ None
      → IsIn p ss → IsIn o (entries (section (codes "Outputs") p.template)) → literal_name o ≡ Some e → ((ys : List ℕ → Option (List ℕ)) → told (output_at (presence v p.name p.template o) (scope v p.name p.template ys) o) ≡ told_text) → exports_left v xs ss e ≡ told_text
  left_by_one e t o p [] xs w d free h i n says = absurd h
  left_by_one e t o p (s ∷ ss) xs w d free (inl h) i n says =
      subst (λ (q : Stack). Each NamesAreLiteral (q ∷ ss) → AreDistinct (literal_names (q ∷ ss)) → exports_left v xs (q ∷ ss) e ≡ t) (sym h) (λ w' d'. left_here e t o p ss xs w' d' free i n says) w d
  left_by_one e t o p (s ∷ ss) xs w d free (inr h) i n says =
      let not_here = apart_back e (own_names s) (literal_names ss) d (named_in e o p ss h i n) in
      left_by_one e t o p ss (exports_after v xs s) w.1 (distinct_back (own_names s) (literal_names ss) d)
      (ap (λ x. option_or x (lookup e (exports_of xs s))) free ∙ not_exported (presence v s.name s.template) (scope v s.name s.template xs) e (section (codes "Outputs") s.template) w.0 not_here) h i n says

-- ---- what is found is among the entries

pub found_in_entries : (k : List ℕ) (d : Data) (ms : Members) → get_member k ms ≡ Some d → IsIn d (entries ms)
found_in_entries k d no_members h = cc
found_in_entries k d (member l e ms) h = at (slice_cmp nat_cmp k l) h (found_in_entries k d ms)
  where
    at : (o : Ordering) → match_ordering o (get_member k ms) (Some e) (get_member k ms) ≡ Some d → (get_member k ms ≡ Some d → IsIn d (entries ms)) → IsIn d (e ∷ entries ms)
    at Less g later = inr (later g)
    at Equal g later = let same : e ≡ d = cc g in inl same
    at Greater g later = inr (later g)
