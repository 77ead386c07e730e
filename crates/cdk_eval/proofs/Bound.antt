-- The number of a template's conditions is bound enough for the truth of each.
use Rattle.std.proofs.Common.{◌≡◌, ℕ, zero, suc, ◌+◌, ◌≤◌, List, [], ◌∷◌, length, Bool, true, false, ◌&&◌, ◌||◌, Option, Some, None, refl, sym, subst, ap, ◌∙◌, inl, inr, arith}
use Rattle.std.specs.Prelude.{◌⊎◌, bytes_eq, codes, if◌then◌else◌}
use Rattle.std.specs.Ordering.{nat_cmp, match_ordering, is_eq}
use Rattle.std.specs.declared.cmp.Ordering.{Ordering}
use Rattle.std.specs.declared.cmp.Ordering.TheVariants.{Less, Equal, Greater}
use Rattle.std.specs.Cmp.Lexicographic.{slice_cmp}
use Rattle.std.proofs.lemmas.Map.Text.{is_eq-slice_cmp}
use Rattle.serde_json.specs.Data.{Data, null, boolean, number, string, array, object, Items, no_items, item, Members, no_members, member}
use Rattle.serde_json.specs.Find.{get_member}
use Rattle.cdk_eval.specs.declared.fault.EvalFault.TheVariants.{BadIntrinsic, ConditionLoop}
use Rattle.cdk_eval.specs.Outcomes.{Outcome, Truth, Untold}
use Rattle.cdk_eval.specs.Reach.{is_among, comes_to, IsIn}
use Rattle.cdk_eval.specs.Conditions.{is_few, all_hold, few_form, not_form, name_form, equals_form, truth_of, single_truth, part_truths, item_truths, one_name, item_count, has_items, is_one, names_in, single_names, part_names, item_names, names_of, count, is_loop, found_truth, truth_within, BoundSuffices, LoopsAreFound, NamesAreOpened}
use Rattle.cdk_eval.proofs.Reach.{in_front, in_back, in_when_among, bytes_same, IsPath, path_returns}
use Rattle.cdk_eval.proofs.Unseen.{unseen, unseen_all, unseen_less}
use Rattle.cdk_eval.proofs.Found.{found_within}

-- ---- a form has one truth under two truths of names that are alike at its own names

abbrev pub AreAlike : (List ℕ → Truth) → (List ℕ → Truth) → List (List ℕ) → Type 0
AreAlike f g ns = (n : List ℕ) → IsIn n ns → f n ≡ g n

module _ (op : Data → Outcome) where
  pub truth_count : (f : List ℕ → Truth) (ds : Items) → length (item_truths op f ds) ≡ item_count ds
  truth_count f no_items = refl
  truth_count f (item d ds) = ap suc (truth_count f ds)

  pub few_other : (f : List ℕ → Truth) (φ : Bool → Bool → Bool) (u : Bool) (d : Data) → has_items is_few d ≡ false → few_form φ u (part_truths op f d) ≡ Untold BadIntrinsic
  few_other f φ u (array ds) h = ap (λ b. if b then all_hold φ u (item_truths op f ds) else Untold BadIntrinsic) (ap is_few (truth_count f ds) ∙ h)
  few_other f φ u _ h = refl

  pub not_other : (f : List ℕ → Truth) (d : Data) → has_items is_one d ≡ false → not_form (part_truths op f d) ≡ Untold BadIntrinsic
  not_other f (array no_items) h = refl
  not_other f (array (item d no_items)) h = cc
  not_other f (array (item d (item e ds))) h = refl
  not_other f _ h = refl

module _ (op : Data → Outcome) (f g : List ℕ → Truth) where
  few_same : (φ : Bool → Bool → Bool) (u : Bool) (d : Data) (b : Bool) → has_items is_few d ≡ b → (AreAlike f g (part_names d) → part_truths op f d ≡ part_truths op g d)
      → AreAlike f g (if b then part_names d else []) → few_form φ u (part_truths op f d) ≡ few_form φ u (part_truths op g d)
  few_same φ u d true e parts h = ap (few_form φ u) (parts h)
  few_same φ u d false e parts h = few_other op f φ u d e ∙ sym (few_other op g φ u d e)

  not_same : (d : Data) (b : Bool) → has_items is_one d ≡ b → (AreAlike f g (part_names d) → part_truths op f d ≡ part_truths op g d)
      → AreAlike f g (if b then part_names d else []) → not_form (part_truths op f d) ≡ not_form (part_truths op g d)
  not_same d true e parts h = ap not_form (parts h)
  not_same d false e parts h = not_other op f d e ∙ sym (not_other op g d e)

  name_same : (d : Data) → AreAlike f g (one_name d) → name_form f d ≡ name_form g d
  name_same (string n) h = h n (inl refl)
  name_same _ h = refl

  -- by the tests of the key
  form_same : (e a o n c : Bool) (d : Data) → (AreAlike f g (part_names d) → part_truths op f d ≡ part_truths op g d)
      → AreAlike f g (if a || o then (if has_items is_few d then part_names d else []) else (if n then (if has_items is_one d then part_names d else []) else (if c then one_name d else [])))
      → (if e then equals_form op d else (if a then few_form (λ x y. x && y) true (part_truths op f d) else (if o then few_form (λ x y. x || y) false (part_truths op f d) else (if n then not_form (part_truths op f d) else (if c then name_form f d else Untold BadIntrinsic)))))
      ≡ (if e then equals_form op d else (if a then few_form (λ x y. x && y) true (part_truths op g d) else (if o then few_form (λ x y. x || y) false (part_truths op g d) else (if n then not_form (part_truths op g d) else (if c then name_form g d else Untold BadIntrinsic)))))
  form_same true a o n c d parts h = refl
  form_same false true o n c d parts h = few_same (λ x y. x && y) true d (has_items is_few d) refl parts h
  form_same false false true n c d parts h = few_same (λ x y. x || y) false d (has_items is_few d) refl parts h
  form_same false false false true c d parts h = not_same d (has_items is_one d) refl parts h
  form_same false false false false true d parts h = name_same d h
  form_same false false false false false d parts h = refl

  mutual
    pub truth_same : (d : Data) → AreAlike f g (names_in d) → truth_of op f d ≡ truth_of op g d
    truth_same null h = refl
    truth_same (boolean b) h = refl
    truth_same (number n) h = refl
    truth_same (string s) h = refl
    truth_same (array ds) h = refl
    truth_same (object ms) h = single_same ms h

    single_same : (ms : Members) → AreAlike f g (single_names ms) → single_truth op f ms ≡ single_truth op g ms
    single_same no_members h = refl
    single_same (member k d no_members) h =
        form_same (bytes_eq k (codes "Fn::Equals")) (bytes_eq k (codes "Fn::And")) (bytes_eq k (codes "Fn::Or")) (bytes_eq k (codes "Fn::Not")) (bytes_eq k (codes "Condition")) d (parts_same d) h
    single_same (member k d (member l e ms)) h = refl

    parts_same : (d : Data) → AreAlike f g (part_names d) → part_truths op f d ≡ part_truths op g d
    parts_same null h = refl
    parts_same (boolean b) h = refl
    parts_same (number n) h = refl
    parts_same (string s) h = refl
    parts_same (array ds) h = items_same ds h
    parts_same (object ms) h = refl

    items_same : (ds : Items) → AreAlike f g (item_names ds) → item_truths op f ds ≡ item_truths op g ds
    items_same no_items h = refl
    items_same (item d ds) h =
        ap (λ t. t ∷ item_truths op f ds) (truth_same d (λ n i. h n (in_front n (names_in d) (item_names ds) i)))
        ∙ ap (λ ts. truth_of op g d ∷ ts) (items_same ds (λ n i. h n (in_back n (names_in d) (item_names ds) i)))

-- ---- the names of the conditions

abbrev keys : Members → List (List ℕ)
keys no_members = []
keys (member k d ms) = k ∷ keys ms

key_count : (cs : Members) → length (keys cs) ≡ count cs
key_count no_members = refl
key_count (member k d ms) = ap suc (key_count ms)

found_or_not : (c : List ℕ) (cs : Members) → IsIn c (keys cs) ⊎ (get_member c cs ≡ None)
found_or_not c no_members = inr refl
found_or_not c (member k e ms) = at (slice_cmp nat_cmp c k) refl (found_or_not c ms)
  where
    at : (o : Ordering) → slice_cmp nat_cmp c k ≡ o → IsIn c (keys ms) ⊎ (get_member c ms ≡ None) → IsIn c (keys (member k e ms)) ⊎ (match_ordering o (get_member c ms) (Some e) (get_member c ms) ≡ None)
    at Equal is later = inl (inl (sym (bytes_same c k (sym (is_eq-slice_cmp c k) ∙ ap is_eq is))))
    at Less is (inl i) = inl (inr i)
    at Less is (inr e) = inr e
    at Greater is (inl i) = inl (inr i)
    at Greater is (inr e) = inr e

key_in : (c : List ℕ) (cs : Members) (d : Data) → get_member c cs ≡ Some d → IsIn c (keys cs)
key_in c cs d found = at (found_or_not c cs)
  where
    at : IsIn c (keys cs) ⊎ (get_member c cs ≡ None) → IsIn c (keys cs)
    at (inl i) = i
    at (inr e) = cc

-- ---- the bound

abbrev leads_of : Members → List ℕ → List (List ℕ)
leads_of cs c = names_of (get_member c cs)

module _ (op : Data → Outcome) (cs : Members) where
  abbrev leads : List ℕ → List (List ℕ)
  leads = leads_of cs

  -- a condition that doesn't reach itself is not on its own way
  new_on_path : (c : List ℕ) (ns : List (List ℕ)) → is_loop cs c ≡ false → IsPath leads ns c → length ns ≤ count cs → is_among c ns ≡ false
  new_on_path c ns no_loop path h = at (is_among c ns) refl
    where
      at : (b : Bool) → is_among c ns ≡ b → is_among c ns ≡ false
      at true e = let loop : is_loop cs c ≡ true = path_returns leads ns c (count cs) path h (in_when_among c ns e) in cc
      at false e = e

  record Stands (ns : List (List ℕ)) (c : List ℕ) : Type 0 where
    path : IsPath leads ns c
    total : length ns + unseen ns (keys cs) ≤ count cs

  fewer_left : (c : List ℕ) (ns : List (List ℕ)) (d : Data) → Stands ns c → get_member c cs ≡ Some d → is_loop cs c ≡ false → suc (unseen (c ∷ ns) (keys cs)) ≤ unseen ns (keys cs)
  fewer_left c ns d s found no_loop = unseen_less c ns (keys cs) (key_in c cs d found) (new_on_path c ns no_loop s.path (omega (arith, s.total)))

  next_stands : (c e : List ℕ) (ns : List (List ℕ)) (d : Data) → Stands ns c → get_member c cs ≡ Some d → is_loop cs c ≡ false → IsIn e (names_in d) → Stands (c ∷ ns) e
  next_stands c e ns d s found no_loop i = record { path = (subst (λ o. IsIn e (names_of o)) (sym found) i, s.path); total = omega (arith, s.total, fewer_left c ns d s found no_loop) }

  abbrev opened : (List ℕ → Truth) → List ℕ → Data → Truth
  opened f c d = if is_loop cs c then Untold ConditionLoop else truth_of op f d

  -- no condition is left to be opened
  none_left : (f : List ℕ → Truth) (c : List ℕ) (ns : List (List ℕ)) → Stands ns c → unseen ns (keys cs) ≤ 0 → (o : Option Data) → get_member c cs ≡ o → found_truth (λ d. Untold ConditionLoop) o ≡ found_truth (opened f c) o
  none_left f c ns s h None found = refl
  none_left f c ns s h (Some d) found = at (is_loop cs c) refl
    where
      at : (b : Bool) → is_loop cs c ≡ b → Untold ConditionLoop ≡ (if b then Untold ConditionLoop else truth_of op f d)
      at true e = refl
      at false e = absurd (omega (arith, h, fewer_left c ns d s found e))

  both_open : (f g : List ℕ → Truth) (c : List ℕ) (ns : List (List ℕ)) → Stands ns c
      → ((e : List ℕ) → Stands (c ∷ ns) e → suc (unseen (c ∷ ns) (keys cs)) ≤ unseen ns (keys cs) → f e ≡ g e)
      → (o : Option Data) → get_member c cs ≡ o → found_truth (opened f c) o ≡ found_truth (opened g c) o
  both_open f g c ns s later None found = refl
  both_open f g c ns s later (Some d) found = at (is_loop cs c) refl
    where
      at : (b : Bool) → is_loop cs c ≡ b → (if b then Untold ConditionLoop else truth_of op f d) ≡ (if b then Untold ConditionLoop else truth_of op g d)
      at true e = refl
      at false e = truth_same op f g d (λ n i. later n (next_stands c n ns d s found e i) (fewer_left c ns d s found e))

  any_bound : (n m : ℕ) (ns : List (List ℕ)) (c : List ℕ) → Stands ns c → unseen ns (keys cs) ≤ n → unseen ns (keys cs) ≤ m → truth_within op cs n c ≡ truth_within op cs m c
  any_bound zero zero ns c s h i = refl
  any_bound zero (suc m) ns c s h i = none_left (truth_within op cs m) c ns s h (get_member c cs) refl
  any_bound (suc n) zero ns c s h i = sym (none_left (truth_within op cs n) c ns s i (get_member c cs) refl)
  any_bound (suc n) (suc m) ns c s h i =
      both_open (truth_within op cs n) (truth_within op cs m) c ns s (λ e t less. any_bound n m (c ∷ ns) e t (omega (arith, h, less)) (omega (arith, i, less))) (get_member c cs) refl

  at_first : (c : List ℕ) → Stands [] c
  at_first c = record { path = tt; total = omega (arith, unseen_all (keys cs), key_count cs) }

pub bound_suffices : BoundSuffices
bound_suffices op cs n c h = any_bound op cs n (count cs) [] c (at_first op cs c) (omega (arith, unseen_all (keys cs), key_count cs, h)) (omega (arith, unseen_all (keys cs), key_count cs))

pub loops_found : LoopsAreFound
loops_found cs n c way = at (found_within (leads_of cs) c (keys cs) others n c way)
  where
    others : (d : List ℕ) → IsIn d (keys cs) ⊎ (leads_of cs d ≡ [])
    others d = elim (found_or_not d cs) [ inl i ↦ inl i | inr e ↦ inr (ap names_of e) ]

    at : comes_to (leads_of cs) (length (keys cs)) c c ≡ true → is_loop cs c ≡ true
    at t = ap (λ n. comes_to (leads_of cs) n c c) (sym (key_count cs)) ∙ t

pub names_opened : NamesAreOpened
names_opened op cs c d found no_loop =
    sym (bound_suffices op cs (suc (count cs)) c (omega arith))
    ∙ ap (found_truth (opened op cs (truth_within op cs (count cs)) c)) found
    ∙ ap (λ b. if b then Untold ConditionLoop else truth_of op (truth_within op cs (count cs)) d) no_loop
