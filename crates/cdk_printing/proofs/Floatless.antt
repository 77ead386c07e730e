-- No evaluation gives a float: by recursion on the value, in a scope whose names stand for none.
use Rattle.std.specs.Prelude.{◌≡◌, ◌&&◌, ℕ, zero, suc, ◌-◌, ◌++◌, List, [], ◌∷◌, length, Bool, true, false, Option, Some, None, if◌then◌else◌, bytes_eq, codes, nat_eq, refl}
use Rattle.std.specs.List.{starts_with}
use Rattle.std.proofs.lemmas.Bool.{or_from, or_parts}
use Rattle.serde_json.specs.Data.{Num, unsigned, negative, float, Data, null, boolean, number, string, array, object, Items, no_items, item, Members, no_members, member}
use Rattle.serde_json.specs.Find.{get_item}
use Rattle.serde_json.specs.Written.{has_float, items_have_float, members_have_float}
use Rattle.cdk_base.specs.Json.{is_whole, text_of}
use Rattle.cdk_eval.specs.declared.fault.EvalFault.TheVariants.{NoItem, BadIntrinsic}
use Rattle.cdk_eval.specs.Values.{is_no_value}
use Rattle.cdk_eval.specs.Outcomes.{Outcome, Value, Gone, Fault, Truth, Holds, Untold, Listed, Lists, NotListed, Fielded, Has, NotFielded, first_item, first_member, array_outcome, object_outcome, value_or, text_or, on_items, on_some_text, on_text, before_fault, picked}
use Rattle.cdk_eval.specs.Texts.{cut, trimmed_items, item_texts, index_of}
use Rattle.cdk_eval.specs.SubText.{SubPart, literal, hole, Asked, spelled, attribute_of, named, asked, sub_parts}
use Rattle.cdk_eval.specs.Template.{Scope, Part, text_else, ref_outcome, ref_form, att_names, att_form, join_texts, join_args, join_form, select_args, select_form, split_args, split_form, if_args, if_form, map_form, import_form, named_or, asked_outcome, sub_part_outcome, sub_items, sub_outcome, sub_args, sub_form, is_barred_key, form_outcome, has_intrinsic_key, number_outcome, outcome, item_outcomes, member_outcomes, single_form, parts, item_parts, members_of, each_member}
use Rattle.cdk_printing.specs.Printable.{OutcomeIsPrintable, PropertiesArePrintable}

-- ---- lists of values

abbrev pub ListIsPrintable : Listed → Type 0
ListIsPrintable (Lists ds) = items_have_float ds ≡ false
ListIsPrintable (NotListed f) = Unit {0}

abbrev pub FieldsArePrintable : Fielded → Type 0
FieldsArePrintable (Has ms) = members_have_float ms ≡ false
FieldsArePrintable (NotFielded f) = Unit {0}

abbrev pub PartsArePrintable : List Part → Type 0
PartsArePrintable [] = Unit {0}
PartsArePrintable (p ∷ ps) = OutcomeIsPrintable p.own × (PropertiesArePrintable p.members × PartsArePrintable ps)

first_listed : (o : Outcome) (l : Listed) → OutcomeIsPrintable o → ListIsPrintable l → ListIsPrintable (first_item o l)
first_listed (Value d) (Lists ds) p q = or_from (has_float d) (items_have_float ds) p q
first_listed (Value d) (NotListed f) p q = tt
first_listed Gone l p q = q
first_listed (Fault f) l p q = tt

first_fielded : (k : List ℕ) (o : Outcome) (l : Fielded) → OutcomeIsPrintable o → FieldsArePrintable l → FieldsArePrintable (first_member k o l)
first_fielded k (Value d) (Has ms) p q = or_from (has_float d) (members_have_float ms) p q
first_fielded k (Value d) (NotFielded f) p q = tt
first_fielded k Gone l p q = q
first_fielded k (Fault f) l p q = tt

of_list : (l : Listed) → ListIsPrintable l → OutcomeIsPrintable (array_outcome l)
of_list (Lists ds) p = p
of_list (NotListed f) p = tt

of_fields : (l : Fielded) → FieldsArePrintable l → OutcomeIsPrintable (object_outcome l)
of_fields (Has ms) p = p
of_fields (NotFielded f) p = tt

-- ---- choices

choice : (b : Bool) (x y : Outcome) → OutcomeIsPrintable x → OutcomeIsPrintable y → OutcomeIsPrintable (if b then x else y)
choice true x y p q = p
choice false x y p q = q

of_picked : (t : Truth) (x y : Outcome) → OutcomeIsPrintable x → OutcomeIsPrintable y → OutcomeIsPrintable (picked t x y)
of_picked (Holds true) x y p q = p
of_picked (Holds false) x y p q = q
of_picked (Untold f) x y p q = tt

of_before : (x o : Outcome) → OutcomeIsPrintable o → OutcomeIsPrintable (before_fault x o)
of_before (Value d) o p = p
of_before Gone o p = p
of_before (Fault f) o p = tt

of_some : (f : List ℕ → Outcome) → ((t : List ℕ) → OutcomeIsPrintable (f t)) → (o : Option (List ℕ)) → OutcomeIsPrintable (on_some_text f o)
of_some f g None = tt
of_some f g (Some t) = g t

of_text : (f : List ℕ → Outcome) → ((t : List ℕ) → OutcomeIsPrintable (f t)) → (o : Outcome) → OutcomeIsPrintable (on_text f o)
of_text f g (Value d) = of_some f g (text_of d)
of_text f g Gone = tt
of_text f g (Fault h) = tt

of_items : (f : Items → Outcome) → ((ds : Items) → items_have_float ds ≡ false → OutcomeIsPrintable (f ds)) → (o : Outcome) → OutcomeIsPrintable o → OutcomeIsPrintable (on_items f o)
of_items f g (Value null) p = tt
of_items f g (Value (boolean b)) p = tt
of_items f g (Value (number n)) p = tt
of_items f g (Value (string t)) p = tt
of_items f g (Value (array ds)) p = g ds p
of_items f g (Value (object ms)) p = tt
of_items f g Gone p = tt
of_items f g (Fault h) p = tt

-- ---- texts, items and numbers

of_number : (n : Num) → OutcomeIsPrintable (number_outcome n)
of_number (unsigned n) = choice (is_whole (unsigned n)) (Value (number (unsigned n))) (Fault BadIntrinsic) refl tt
of_number (negative z) = choice (is_whole (negative z)) (Value (number (negative z))) (Fault BadIntrinsic) refl tt
of_number (float x) = tt

either_cut : (b : Bool) (x y : Items) → items_have_float x ≡ false → items_have_float y ≡ false → items_have_float (if b then x else y) ≡ false
either_cut true x y p q = p
either_cut false x y p q = q

-- the parts of a text are texts
pub cut-floatless : (d : List ℕ) (skip : ℕ) (part s : List ℕ) → items_have_float (cut d skip part s) ≡ false
cut-floatless d skip part [] = refl
cut-floatless d (suc skip) part (c ∷ s) = cut-floatless d skip part s
cut-floatless d zero part (c ∷ s) =
    either_cut (starts_with nat_eq (c ∷ s) d) (item (string part) (cut d (length d - 1) [] s)) (cut d zero (part ++ c ∷ []) s)
    (cut-floatless d (length d - 1) [] s) (cut-floatless d zero (part ++ c ∷ []) s)

pub trimmed-floatless : (ds : Items) → items_have_float ds ≡ false → items_have_float (trimmed_items ds) ≡ false
trimmed-floatless no_items h = refl
trimmed-floatless (item null ds) h = trimmed-floatless ds h
trimmed-floatless (item (boolean b) ds) h = trimmed-floatless ds h
trimmed-floatless (item (number n) ds) h =
    let p = or_parts (has_float (number n)) (items_have_float ds) h in
    or_from (has_float (number n)) (items_have_float (trimmed_items ds)) p.0 (trimmed-floatless ds p.1)
trimmed-floatless (item (string s) ds) h = trimmed-floatless ds h
trimmed-floatless (item (array es) ds) h =
    let p = or_parts (has_float (array es)) (items_have_float ds) h in
    or_from (has_float (array es)) (items_have_float (trimmed_items ds)) p.0 (trimmed-floatless ds p.1)
trimmed-floatless (item (object ms) ds) h =
    let p = or_parts (has_float (object ms)) (items_have_float ds) h in
    or_from (has_float (object ms)) (items_have_float (trimmed_items ds)) p.0 (trimmed-floatless ds p.1)

of_item : (n : ℕ) (ds : Items) → items_have_float ds ≡ false → OutcomeIsPrintable (value_or NoItem (get_item n ds))
of_item n no_items h = tt
of_item zero (item d ds) h = (or_parts (has_float d) (items_have_float ds) h).0
of_item (suc n) (item d ds) h = of_item n ds (or_parts (has_float d) (items_have_float ds) h).1

of_joined : (d : List ℕ) (o : Option (List (List ℕ))) → OutcomeIsPrintable (join_texts d o)
of_joined d None = tt
of_joined d (Some ts) = refl

of_text_or : (o : Option (List ℕ)) (f : _) → OutcomeIsPrintable (text_or f o)
of_text_or None f = tt
of_text_or (Some t) f = refl

-- ---- the forms, in a scope whose names stand for no float

pub record IsFloatless (s : Scope) : Type 0 where
  pub target : (n : List ℕ) → OutcomeIsPrintable (s.target n)
  pub attribute : (n a : List ℕ) → OutcomeIsPrintable (s.attribute n a)
  pub leaf : (m x y : List ℕ) → OutcomeIsPrintable (s.leaf m x y)

module _ (s : Scope) (floatless : IsFloatless s) where
  of_text_else : (o : Outcome) (t : Option (List ℕ)) → OutcomeIsPrintable o → OutcomeIsPrintable (text_else o t)
  of_text_else o None p = p
  of_text_else o (Some t) p = refl

  of_name : (n : List ℕ) → OutcomeIsPrintable (ref_outcome s n)
  of_name n = choice (is_no_value n) Gone (text_else (s.target n) (s.pseudo n)) tt (of_text_else (s.target n) (s.pseudo n) (floatless.target n))

  of_ref : (d : Data) → OutcomeIsPrintable (ref_form s d)
  of_ref null = tt
  of_ref (boolean b) = tt
  of_ref (number n) = tt
  of_ref (string n) = of_name n
  of_ref (array ds) = tt
  of_ref (object ms) = tt

  of_att_names : (d e : Data) → OutcomeIsPrintable (att_names s d e)
  of_att_names null e = tt
  of_att_names (boolean b) e = tt
  of_att_names (number n) e = tt
  of_att_names (string n) null = tt
  of_att_names (string n) (boolean b) = tt
  of_att_names (string n) (number m) = tt
  of_att_names (string n) (string a) = floatless.attribute n a
  of_att_names (string n) (array ds) = tt
  of_att_names (string n) (object ms) = tt
  of_att_names (array ds) e = tt
  of_att_names (object ms) e = tt

  of_att : (ps : List Part) → OutcomeIsPrintable (att_form s ps)
  of_att [] = tt
  of_att (n ∷ []) = tt
  of_att (n ∷ a ∷ []) = of_att_names n.raw a.raw
  of_att (n ∷ a ∷ p ∷ ps) = tt

  of_join_args : (d : Data) (o : Outcome) → OutcomeIsPrintable o → OutcomeIsPrintable (join_args d o)
  of_join_args null o p = tt
  of_join_args (boolean b) o p = tt
  of_join_args (number n) o p = tt
  of_join_args (string d) o p = of_items (λ ds. join_texts d (item_texts ds)) (λ ds h. of_joined d (item_texts ds)) o p
  of_join_args (array ds) o p = tt
  of_join_args (object ms) o p = tt

  of_join : (ps : List Part) → PartsArePrintable ps → OutcomeIsPrintable (join_form ps)
  of_join [] h = tt
  of_join (d ∷ []) h = tt
  of_join (d ∷ l ∷ []) h = of_join_args d.raw l.own h.1.1.0
  of_join (d ∷ l ∷ p ∷ ps) h = tt

  of_select_args : (n : Option ℕ) (o : Outcome) → OutcomeIsPrintable o → OutcomeIsPrintable (select_args n o)
  of_select_args None o p = tt
  of_select_args (Some n) o p = of_items (λ ds. value_or NoItem (get_item n ds)) (of_item n) o p

  of_select : (ps : List Part) → PartsArePrintable ps → OutcomeIsPrintable (select_form ps)
  of_select [] h = tt
  of_select (n ∷ []) h = tt
  of_select (n ∷ l ∷ []) h = of_select_args (index_of n.raw) l.own h.1.1.0
  of_select (n ∷ l ∷ p ∷ ps) h = tt

  of_split_args : (d : Data) (o : Outcome) → OutcomeIsPrintable (split_args d o)
  of_split_args null o = tt
  of_split_args (boolean b) o = tt
  of_split_args (number n) o = tt
  of_split_args (string []) o = tt
  of_split_args (string (c ∷ d)) o = of_text (λ t. Value (array (cut (c ∷ d) 0 [] t))) (λ t. cut-floatless (c ∷ d) 0 [] t) o
  of_split_args (array ds) o = tt
  of_split_args (object ms) o = tt

  of_split : (ps : List Part) → OutcomeIsPrintable (split_form ps)
  of_split [] = tt
  of_split (d ∷ []) = tt
  of_split (d ∷ x ∷ []) = of_split_args d.raw x.own
  of_split (d ∷ x ∷ p ∷ ps) = tt

  of_if_args : (d : Data) (x y : Outcome) → OutcomeIsPrintable x → OutcomeIsPrintable y → OutcomeIsPrintable (if_args s d x y)
  of_if_args null x y p q = tt
  of_if_args (boolean b) x y p q = tt
  of_if_args (number n) x y p q = tt
  of_if_args (string c) x y p q = of_picked (s.condition c) x y p q
  of_if_args (array ds) x y p q = tt
  of_if_args (object ms) x y p q = tt

  of_if : (ps : List Part) → PartsArePrintable ps → OutcomeIsPrintable (if_form s ps)
  of_if [] h = tt
  of_if (c ∷ []) h = tt
  of_if (c ∷ x ∷ []) h = tt
  of_if (c ∷ x ∷ y ∷ []) h = of_if_args c.raw x.own y.own h.1.1.0 h.1.1.1.1.0
  of_if (c ∷ x ∷ y ∷ p ∷ ps) h = tt

  of_map : (ps : List Part) → OutcomeIsPrintable (map_form s ps)
  of_map [] = tt
  of_map (m ∷ []) = tt
  of_map (m ∷ x ∷ []) = tt
  of_map (m ∷ x ∷ y ∷ []) =
      let leaves : Outcome = on_text (λ a. on_text (λ b. on_text (λ c. s.leaf a b c) y.own) x.own) m.own in
      of_before m.own (before_fault x.own (before_fault y.own leaves)) (of_before x.own (before_fault y.own leaves) (of_before y.own leaves
      (of_text (λ a. on_text (λ b. on_text (λ c. s.leaf a b c) y.own) x.own) (λ a. of_text (λ b. on_text (λ c. s.leaf a b c) y.own) (λ b. of_text (λ c. s.leaf a b c) (λ c. floatless.leaf a b c) y.own) x.own) m.own)))
  of_map (m ∷ x ∷ y ∷ p ∷ ps) = tt

  of_import : (o : Outcome) → OutcomeIsPrintable (import_form s o)
  of_import o = of_text _ (λ n. of_text_or (s.export n) _) o

  -- ---- Fn::Sub

  of_named : (o : Outcome) (k : List ℕ) (ns : List (List ℕ × Outcome)) → OutcomeIsPrintable o → PropertiesArePrintable ns → OutcomeIsPrintable (named_or o k ns)
  of_named o k [] p h = p
  of_named o k (n ∷ ns) p h = choice (bytes_eq n.0 k) n.1 (named_or o k ns) h.0 (of_named o k ns p h.1)

  of_asked : (ns : List (List ℕ × Outcome)) (a : Asked) → PropertiesArePrintable ns → OutcomeIsPrintable (asked_outcome s ns a)
  of_asked ns (spelled t) h = refl
  of_asked ns (attribute_of n a) h = floatless.attribute n a
  of_asked ns (named n) h = of_named (ref_outcome s n) n ns (of_name n) h

  of_sub_part : (ns : List (List ℕ × Outcome)) (p : SubPart) → PropertiesArePrintable ns → OutcomeIsPrintable (sub_part_outcome s ns p)
  of_sub_part ns (literal t) h = refl
  of_sub_part ns (hole n) h = of_asked ns (asked n) h

  of_sub_items : (ns : List (List ℕ × Outcome)) (ps : List SubPart) → PropertiesArePrintable ns → ListIsPrintable (sub_items s ns ps)
  of_sub_items ns [] h = refl
  of_sub_items ns (p ∷ ps) h = first_listed (sub_part_outcome s ns p) (sub_items s ns ps) (of_sub_part ns p h) (of_sub_items ns ps h)

  of_sub_parts : (ns : List (List ℕ × Outcome)) (o : Option (List SubPart)) → PropertiesArePrintable ns → OutcomeIsPrintable (sub_outcome s ns o)
  of_sub_parts ns None h = tt
  of_sub_parts ns (Some ps) h =
      of_items (λ ds. join_texts [] (item_texts ds)) (λ ds e. of_joined [] (item_texts ds)) (array_outcome (sub_items s ns ps)) (of_list (sub_items s ns ps) (of_sub_items ns ps h))

  of_sub_args : (ns : List (List ℕ × Outcome)) (d e : Data) → PropertiesArePrintable ns → OutcomeIsPrintable (sub_args s ns d e)
  of_sub_args ns null e h = tt
  of_sub_args ns (boolean b) e h = tt
  of_sub_args ns (number n) e h = tt
  of_sub_args ns (string t) null h = tt
  of_sub_args ns (string t) (boolean b) h = tt
  of_sub_args ns (string t) (number n) h = tt
  of_sub_args ns (string t) (string u) h = tt
  of_sub_args ns (string t) (array ds) h = tt
  of_sub_args ns (string t) (object ms) h = of_sub_parts ns (sub_parts t) h
  of_sub_args ns (array ds) e h = tt
  of_sub_args ns (object ms) e h = tt

  of_sub : (d : Data) (ps : List Part) → PartsArePrintable ps → OutcomeIsPrintable (sub_form s d ps)
  of_sub null ps h = tt
  of_sub (boolean b) ps h = tt
  of_sub (number n) ps h = tt
  of_sub (string t) ps h = of_sub_parts [] (sub_parts t) tt
  of_sub (array ds) [] h = tt
  of_sub (array ds) (t ∷ []) h = tt
  of_sub (array ds) (t ∷ v ∷ []) h = of_sub_args v.members t.raw v.raw h.1.1.1.0
  of_sub (array ds) (t ∷ v ∷ p ∷ ps) h = tt
  of_sub (object ms) ps h = tt

  -- ---- all of them

  of_form : (k : List ℕ) (d : Data) (o : Outcome) (ps : List Part) → OutcomeIsPrintable o → PartsArePrintable ps → OutcomeIsPrintable (form_outcome s k d o ps)
  of_form k d o ps p h =
      choice (is_barred_key k && s.is_operand) _ _ tt
      (choice (bytes_eq k (codes "Ref")) _ _ (of_ref d)
      (choice (bytes_eq k (codes "Fn::GetAtt")) _ _ (of_att ps)
      (choice (bytes_eq k (codes "Fn::Join")) _ _ (of_join ps h)
      (choice (bytes_eq k (codes "Fn::Select")) _ _ (of_select ps h)
      (choice (bytes_eq k (codes "Fn::Split")) _ _ (of_split ps)
      (choice (bytes_eq k (codes "Fn::Sub")) _ _ (of_sub d ps h)
      (choice (bytes_eq k (codes "Fn::If")) _ _ (of_if ps h)
      (choice (bytes_eq k (codes "Fn::FindInMap")) _ _ (of_map ps)
      (choice (bytes_eq k (codes "Fn::ImportValue")) _ _ (of_import o) tt)))))))))

  mutual
    pub outcome-floatless : (d : Data) → OutcomeIsPrintable (outcome s d)
    outcome-floatless null = tt
    outcome-floatless (boolean b) = refl
    outcome-floatless (number n) = of_number n
    outcome-floatless (string t) = refl
    outcome-floatless (array ds) = of_list (item_outcomes s ds) (items-floatless ds)
    outcome-floatless (object ms) =
        choice (has_intrinsic_key ms) (single_form s ms) (object_outcome (member_outcomes s ms)) (single-floatless ms) (of_fields (member_outcomes s ms) (members-floatless ms))

    items-floatless : (ds : Items) → ListIsPrintable (item_outcomes s ds)
    items-floatless no_items = refl
    items-floatless (item d ds) = first_listed (outcome s d) (item_outcomes s ds) (outcome-floatless d) (items-floatless ds)

    members-floatless : (ms : Members) → FieldsArePrintable (member_outcomes s ms)
    members-floatless no_members = refl
    members-floatless (member k d ms) = first_fielded k (outcome s d) (member_outcomes s ms) (outcome-floatless d) (members-floatless ms)

    single-floatless : (ms : Members) → OutcomeIsPrintable (single_form s ms)
    single-floatless no_members = tt
    single-floatless (member k d no_members) = of_form k d (outcome s d) (parts s d) (outcome-floatless d) (parts-floatless d)
    single-floatless (member k d (member l e ms)) = tt

    parts-floatless : (d : Data) → PartsArePrintable (parts s d)
    parts-floatless null = tt
    parts-floatless (boolean b) = tt
    parts-floatless (number n) = tt
    parts-floatless (string t) = tt
    parts-floatless (array ds) = item_parts-floatless ds
    parts-floatless (object ms) = tt

    item_parts-floatless : (ds : Items) → PartsArePrintable (item_parts s ds)
    item_parts-floatless no_items = tt
    item_parts-floatless (item d ds) = (outcome-floatless d, (members_of-floatless d, item_parts-floatless ds))

    members_of-floatless : (d : Data) → PropertiesArePrintable (members_of s d)
    members_of-floatless null = tt
    members_of-floatless (boolean b) = tt
    members_of-floatless (number n) = tt
    members_of-floatless (string t) = tt
    members_of-floatless (array ds) = tt
    members_of-floatless (object ms) = each_member-floatless ms

    pub each_member-floatless : (ms : Members) → PropertiesArePrintable (each_member s ms)
    each_member-floatless no_members = tt
    each_member-floatless (member k d ms) = (outcome-floatless d, each_member-floatless ms)
