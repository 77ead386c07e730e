-- The parts of a Sub's text, and the forms of intrinsics whose arguments have a wrong number.
use Rattle.std.proofs.Common.{String, Global, string_bytes, rules, ◌≡◌, ◌≢◌, ℕ, List, [], ◌∷◌, ◌++◌, length, map, Bool, true, false, Option, Some, None, refl, sym, ap, ◌∙◌, arith, append_assoc, append-nil}
use Rattle.std.specs.Prelude.{◌&&◌, bytes_eq, codes, if◌then◌else◌}
use Rattle.serde_json.specs.Data.{Data, null, boolean, number, string, array, object, Items, no_items, item, Members}
use Rattle.serde_json.specs.View.{view, items_view}
use Rattle.serde_json.specs.declared.value.Value.{Value, the_lemmas}
use Rattle.serde_json.specs.declared.value.Value.TheVariants as values
use Rattle.cdk_base.specs.Json.{text_of}
use Rattle.cdk_eval.specs.declared.fault.EvalFault.{EvalFault}
use Rattle.cdk_eval.specs.declared.fault.EvalFault.TheVariants.{NotText, BadIntrinsic}
use Rattle.cdk_eval.specs.Outcomes.{Outcome, Gone, Fault, Listed, Lists, NotListed, array_outcome, first_item, before_fault, on_text, on_some_text}
use Rattle.cdk_eval.specs.Outcomes as outcomes
use Rattle.cdk_eval.specs.SubText.{SubPart, literal, hole, Asked, spelled, attribute_of, named, asked, sub_parts}
use Rattle.cdk_eval.specs.Template.{Scope, Part, parts, item_parts, item_outcomes, ref_form, att_form, join_form, select_form, split_form, if_form, map_form, import_form, sub_form, form_outcome, is_barred_key, sub_items, sub_part_outcome, asked_outcome, named_or, ref_outcome, join_texts, outcome, sub_args, members_of, sub_outcome, each_member}
use Rattle.cdk_eval.specs.Texts.{item_texts, text_before, join_with, with_before}
use Rattle.cdk_intrinsics.specs.Forms.{pair_form, if_arguments, if_among, leaf_at, leaf_among, map_listed, intrinsic_at, where_there}
use Rattle.cdk_intrinsics.specs.Substitution.{items_by, part_by, asked_by, AreUsed, IsUsedAt, IsUsedIn, IsPieceOf, text_and, finish, joined_items}
use Rattle.cdk_intrinsics.specs.declared.forms.PairForm.{PairForm}
use Rattle.cdk_intrinsics.specs.declared.forms.PairForm.TheVariants.{Join, Select, Split}
use Rattle.cdk_intrinsics.specs.declared.intrinsic.Intrinsic.TheVariants as intrinsics

-- ---- a wrong number of arguments

pub no_if_arguments : (vs : List Value) → length vs ≢ 3 → if_arguments (array (items_view vs)) ≡ None
no_if_arguments [] h = refl
no_if_arguments (v ∷ []) h = refl
no_if_arguments (v ∷ w ∷ []) h = refl
no_if_arguments (v ∷ w ∷ x ∷ []) h = absurd (h refl)
no_if_arguments (v ∷ w ∷ x ∷ y ∷ vs) h = refl

module _ (s : Scope) where
  pub att_other : (vs : List Value) → length vs ≢ 2 → Fault BadIntrinsic ≡ att_form s (item_parts s (items_view vs))
  att_other [] h = refl
  att_other (v ∷ []) h = refl
  att_other (v ∷ w ∷ []) h = absurd (h refl)
  att_other (v ∷ w ∷ x ∷ vs) h = refl

  pub pair_other : (form : PairForm) (vs : List Value) → length vs ≢ 2 → Fault BadIntrinsic ≡ pair_form form (item_parts s (items_view vs))
  pair_other Join [] h = refl
  pair_other Join (v ∷ []) h = refl
  pair_other Join (v ∷ w ∷ []) h = absurd (h refl)
  pair_other Join (v ∷ w ∷ x ∷ vs) h = refl
  pair_other Select [] h = refl
  pair_other Select (v ∷ []) h = refl
  pair_other Select (v ∷ w ∷ []) h = absurd (h refl)
  pair_other Select (v ∷ w ∷ x ∷ vs) h = refl
  pair_other Split [] h = refl
  pair_other Split (v ∷ []) h = refl
  pair_other Split (v ∷ w ∷ []) h = absurd (h refl)
  pair_other Split (v ∷ w ∷ x ∷ vs) h = refl

  pub if_listed : (d : Data) → if_among s (if_arguments d) ≡ if_form s (parts s d)
  if_listed null = refl
  if_listed (boolean b) = refl
  if_listed (number x) = refl
  if_listed (string t) = refl
  if_listed (object ms) = refl
  if_listed (array no_items) = refl
  if_listed (array (item c no_items)) = refl
  if_listed (array (item c (item x no_items))) = refl
  if_listed (array (item null (item x (item y no_items)))) = refl
  if_listed (array (item (boolean b) (item x (item y no_items)))) = refl
  if_listed (array (item (number n) (item x (item y no_items)))) = refl
  if_listed (array (item (string t) (item x (item y no_items)))) = refl
  if_listed (array (item (array ds) (item x (item y no_items)))) = refl
  if_listed (array (item (object ms) (item x (item y no_items)))) = refl
  if_listed (array (item c (item x (item y (item z ds))))) = refl

  pub map_other : (vs : List Value) → length vs ≢ 3 → Fault BadIntrinsic ≡ map_form s (item_parts s (items_view vs))
  map_other [] h = refl
  map_other (v ∷ []) h = refl
  map_other (v ∷ w ∷ []) h = refl
  map_other (v ∷ w ∷ x ∷ []) h = absurd (h refl)
  map_other (v ∷ w ∷ x ∷ y ∷ vs) h = refl

  pub sub_other : (vs : List Value) → length vs ≢ 2 → Fault BadIntrinsic ≡ sub_form s (array (items_view vs)) (item_parts s (items_view vs))
  sub_other [] h = refl
  sub_other (v ∷ []) h = refl
  sub_other (v ∷ w ∷ []) h = absurd (h refl)
  sub_other (v ∷ w ∷ x ∷ vs) h = refl

-- ---- names that are kept

module _ (s : Scope) (by_name : Outcome → List ℕ → Outcome) (ns : List (List ℕ × Outcome)) (used : List ℕ → Bool) (same : (n : List ℕ) → used n ≡ true → (o : Outcome) → by_name o n ≡ named_or o n ns) where
  asked_same : (a : Asked) → IsUsedAt used a → asked_by s by_name a ≡ asked_outcome s ns a
  asked_same (spelled t) h = refl
  asked_same (attribute_of n a) h = refl
  asked_same (named n) h = same n h (ref_outcome s n)

  part_same : (p : SubPart) → IsUsedIn used p → part_by s by_name p ≡ sub_part_outcome s ns p
  part_same (literal t) h = refl
  part_same (hole n) h = asked_same (asked n) h

  pub items_same : (ps : List SubPart) → AreUsed used ps → items_by s by_name ps ≡ sub_items s ns ps
  items_same [] h = refl
  items_same (p ∷ ps) h = ap (λ o. first_item o (items_by s by_name ps)) (part_same p h.0) ∙ ap (first_item (sub_part_outcome s ns p)) (items_same ps h.1)

-- every name is used
all_used : (ps : List SubPart) → AreUsed (λ n. true) ps
all_used [] = tt
all_used (literal t ∷ ps) = (tt, all_used ps)
all_used (hole n ∷ ps) = (at (asked n), all_used ps)
  where
    at : (a : Asked) → IsUsedAt (λ n. true) a
    at (spelled t) = tt
    at (attribute_of n a) = tt
    at (named n) = refl

pub no_names : (s : Scope) (by_name : Outcome → List ℕ → Outcome) → ((n : List ℕ) (o : Outcome) → by_name o n ≡ o) → (ps : List SubPart) → items_by s by_name ps ≡ sub_items s [] ps
no_names s by_name none ps = items_same s by_name [] (λ n. true) (λ n u o. none n o) ps (all_used ps)

-- ---- the text so far

pub finish_none : (l : Listed) → joined_items l ≡ finish true [] l
finish_none (NotListed f) = refl
finish_none (Lists ds) = at (item_texts ds)
  where
    at : (o : Option (List (List ℕ))) → join_texts [] o ≡ text_and true [] o
    at None = refl
    at (Some ts) = refl

pub finish_all : (h : Bool) (t : List ℕ) → h ≡ true → finish h t (Lists no_items) ≡ outcomes.Value (string t)
finish_all true t e = ap (λ u. outcomes.Value (string u)) (append-nil t)
finish_all false t e = cc

pub finish_lacking : (h : Bool) (t : List ℕ) → h ≡ false → finish h t (Lists no_items) ≡ Fault NotText
finish_lacking true t e = cc
finish_lacking false t e = refl

joined_all : (ts : List (List ℕ)) → with_before [] ts ≡ join_with [] ts
joined_all [] = refl
joined_all (t ∷ ts) = refl

text_more : (h : Bool) (t u : List ℕ) (o : Option (List (List ℕ))) → text_and h t (text_before (Some u) o) ≡ text_and h (t ++ u) o
text_more true t u None = refl
text_more true t u (Some ts) = ap (λ x. outcomes.Value (string x)) (ap (λ x. t ++ (u ++ x)) (joined_all ts) ∙ sym (append_assoc t u (join_with [] ts)))
text_more false t u None = refl
text_more false t u (Some ts) = refl

text_lacking : (h : Bool) (t : List ℕ) (o : Option (List (List ℕ))) → text_and h t None ≡ text_and false t o
text_lacking true t o = refl
text_lacking false t o = refl

pub finish_text : (h : Bool) (t u : List ℕ) (o : Outcome) (l : Listed) → (d : Data) × (o ≡ outcomes.Value d) × (text_of d ≡ Some u) → finish h t (first_item o l) ≡ finish h (t ++ u) l
finish_text h t u o (NotListed f) (d, e, g) = ap (λ x. finish h t (first_item x (NotListed f))) e
finish_text h t u o (Lists ds) (d, e, g) = ap (λ x. finish h t (first_item x (Lists ds))) e ∙ ap (λ x. text_and h t (text_before x (item_texts ds))) g ∙ text_more h t u (item_texts ds)

pub finish_no_text : (h : Bool) (t : List ℕ) (o : Outcome) (l : Listed) → (d : Data) × (o ≡ outcomes.Value d) × (text_of d ≡ None) → finish h t (first_item o l) ≡ finish false t l
finish_no_text h t o (NotListed f) (d, e, g) = ap (λ x. finish h t (first_item x (NotListed f))) e
finish_no_text h t o (Lists ds) (d, e, g) = ap (λ x. finish h t (first_item x (Lists ds))) e ∙ ap (λ x. text_and h t (text_before x (item_texts ds))) g ∙ text_lacking h t (item_texts ds)

pub finish_fault : (h : Bool) (t : List ℕ) (o : Outcome) (f : EvalFault) (l : Listed) → o ≡ Fault f → finish h t (first_item o l) ≡ Fault f
finish_fault h t o f l e = ap (λ x. finish h t (first_item x l)) e

pub finish_gone : (h : Bool) (t : List ℕ) (o : Outcome) (l : Listed) → o ≡ Gone → finish h t (first_item o l) ≡ finish h t l
finish_gone h t o l e = ap (λ x. finish h t (first_item x l)) e

-- ---- the intrinsic of a key

pub form_same : (s : Scope) (k : List ℕ) (d : Data) (o : Outcome) (ps : List Part) → form_outcome s k d o ps ≡ where_there s (intrinsic_at k s.is_operand) d o ps
form_same s k d o ps =
    at (is_barred_key k && s.is_operand) (bytes_eq k (codes "Ref")) (bytes_eq k (codes "Fn::GetAtt")) (bytes_eq k (codes "Fn::Join")) (bytes_eq k (codes "Fn::Select")) (bytes_eq k (codes "Fn::Split"))
    (bytes_eq k (codes "Fn::Sub")) (bytes_eq k (codes "Fn::If")) (bytes_eq k (codes "Fn::FindInMap")) (bytes_eq k (codes "Fn::ImportValue"))
  where
    at : (barred ref att join select split sub cond map import : Bool) → (
        if barred then Fault BadIntrinsic
        else (if ref then ref_form s d
        else (if att then att_form s ps
        else (if join then join_form ps
        else (if select then select_form ps
        else (if split then split_form ps
        else (if sub then sub_form s d ps
        else (if cond then if_form s ps
        else (if map then map_form s ps
        else (if import then import_form s o
        else Fault BadIntrinsic)))))))))
        )
        ≡ where_there s (
        if barred then None
        else (if ref then Some intrinsics.Ref
        else (if att then Some intrinsics.GetAtt
        else (if join then Some (intrinsics.Pair Join)
        else (if select then Some (intrinsics.Pair Select)
        else (if split then Some (intrinsics.Pair Split)
        else (if sub then Some intrinsics.Sub
        else (if cond then Some intrinsics.If
        else (if map then Some intrinsics.FindInMap
        else (if import then Some intrinsics.ImportValue
        else None)))))))))
        ) d o ps
    at true _ _ _ _ _ _ _ _ _ = refl
    at false true _ _ _ _ _ _ _ _ = refl
    at false false true _ _ _ _ _ _ _ = refl
    at false false false true _ _ _ _ _ _ = refl
    at false false false false true _ _ _ _ _ = refl
    at false false false false false true _ _ _ _ = refl
    at false false false false false false true _ _ _ = refl
    at false false false false false false false true _ _ = refl
    at false false false false false false false false true _ = refl
    at false false false false false false false false false true = refl
    at false false false false false false false false false false = refl

-- ---- `Fn::FindInMap` at its arguments as an array

no_text : (o : Option (List ℕ)) → on_some_text (λ t. Fault NotText) o ≡ Fault NotText
no_text None = refl
no_text (Some t) = refl

module _ (s : Scope) where
  leaf_of_three : (m x y : Option (List ℕ)) → on_some_text (λ a. on_some_text (λ b. on_some_text (λ c. s.leaf a b c) y) x) m ≡ leaf_at s m x y
  leaf_of_three None x y = refl
  leaf_of_three (Some a) None y = refl
  leaf_of_three (Some a) (Some b) None = refl
  leaf_of_three (Some a) (Some b) (Some c) = refl

  map_as_array : (m x y : Outcome)
      → before_fault m (before_fault x (before_fault y (on_text (λ a. on_text (λ b. on_text (λ c. s.leaf a b c) y) x) m))) ≡ map_listed s (array_outcome (first_item m (first_item x (first_item y (Lists no_items)))))
  map_as_array (Fault f) x y = refl
  map_as_array Gone (Fault f) y = refl
  map_as_array Gone Gone (Fault f) = refl
  map_as_array Gone Gone Gone = refl
  map_as_array Gone Gone (outcomes.Value c) = refl
  map_as_array Gone (outcomes.Value b) (Fault f) = refl
  map_as_array Gone (outcomes.Value b) Gone = refl
  map_as_array Gone (outcomes.Value b) (outcomes.Value c) = refl
  map_as_array (outcomes.Value a) (Fault f) y = refl
  map_as_array (outcomes.Value a) Gone (Fault f) = refl
  map_as_array (outcomes.Value a) Gone Gone = no_text (text_of a)
  map_as_array (outcomes.Value a) Gone (outcomes.Value c) = no_text (text_of a)
  map_as_array (outcomes.Value a) (outcomes.Value b) (Fault f) = refl
  map_as_array (outcomes.Value a) (outcomes.Value b) Gone = ap (λ o. on_some_text (λ t. o) (text_of a)) (no_text (text_of b)) ∙ no_text (text_of a)
  map_as_array (outcomes.Value a) (outcomes.Value b) (outcomes.Value c) = leaf_of_three (text_of a) (text_of b) (text_of c)

  pub map_three : (vs : List Value) (v w x : Value) → vs ≡ v ∷ w ∷ x ∷ [] → map_form s (item_parts s (items_view vs)) ≡ map_listed s (array_outcome (item_outcomes s (items_view vs)))
  map_three vs v w x e =
      ap (λ us. map_form s (item_parts s (items_view us))) e ∙ map_as_array (outcome s (view v)) (outcome s (view w)) (outcome s (view x))
      ∙ sym (ap (λ us. map_listed s (array_outcome (item_outcomes s (items_view us)))) e)

  pub leaf_other : (vs : List Value) → length vs ≢ 3 → Fault NotText ≡ leaf_among s (items_view vs)
  leaf_other [] h = refl
  leaf_other (v ∷ []) h = refl
  leaf_other (v ∷ w ∷ []) h = refl
  leaf_other (v ∷ w ∷ x ∷ []) h = absurd (h refl)
  leaf_other (v ∷ w ∷ x ∷ y ∷ vs) h = refl

  -- the texts of three values
  pub leaf_three : (vs : List Value) (v w x : Value) (m t u : Option (List ℕ)) → vs ≡ v ∷ w ∷ x ∷ [] → m ≡ text_of (view v) → t ≡ text_of (view w) → u ≡ text_of (view x) → leaf_at s m t u ≡ leaf_among s (items_view vs)
  leaf_three vs v w x m t u e em et eu =
      ap (λ o. leaf_at s o t u) em ∙ ap (λ o. leaf_at s (text_of (view v)) o u) et ∙ ap (λ o. leaf_at s (text_of (view v)) (text_of (view w)) o) eu ∙ sym (ap (λ us. leaf_among s (items_view us)) e)

-- ---- the right number of arguments

pub view-String : (t : String Global) → view (values.String t) ≡ string (string_bytes t)
view-String t = search (rules, the_lemmas)

module _ (s : Scope) where
  pub sub_two : (vs : List Value) (t n : Value) (u : List ℕ) (ms : Members) (ps : List SubPart) → vs ≡ t ∷ n ∷ [] → view t ≡ string u → view n ≡ object ms → Some ps ≡ sub_parts u
      → sub_form s (array (items_view vs)) (item_parts s (items_view vs)) ≡ joined_items (sub_items s (each_member s ms) ps)
  sub_two vs t n u ms ps e et en ep =
      ap (λ ws. sub_form s (array (items_view ws)) (item_parts s (items_view ws))) e ∙ ap (λ d. sub_args s (members_of s (view n)) d (view n)) et
      ∙ ap (λ d. sub_args s (members_of s d) (string u) d) en ∙ ap (sub_outcome s (each_member s ms)) (sym ep)
